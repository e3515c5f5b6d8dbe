-- The texts of rows, one after another.
use Rattle.std.proofs.Common.{◌≡◌, ℕ, ◌+◌, ◌<◌, List, [], ◌∷◌, ◌++◌, length, take, drop, get_or, append_assoc}
use Rattle.std.proofs.Common.{append-nil, refl, sym, ap, ◌∙◌}
use Rattle.std.proofs.lemmas.List.{take_more, take-append-drop}
use Rattle.am_record.specs.OrderedKey.{OrderedKey}
use Rattle.am_record.specs.Records.{Records}
use Rattle.am_record.specs.declared.step.Reply.{Reply}
use Rattle.am_record.specs.declared.step.Reply.TheVariants.{Rows}
use Rattle.am_line_wire.specs.Replies.{row_words, rows_words, head_of, text_of}

rows_words-append : (rows more : Records) → rows_words (rows ++ more) ≡ rows_words rows ++ rows_words more
rows_words-append [] more = refl
rows_words-append (row ∷ rows) more = ap (λ (text : List ℕ). row_words row ++ text) (rows_words-append rows more) ∙
    sym (append_assoc (row_words row) (rows_words rows) (rows_words more))

-- one row more
pub rows_words-more : (rows : Records) (i : ℕ) (row : OrderedKey × List ℕ) → i < length rows → row ≡ get_or rows i row →
    rows_words (take (i + 1) rows) ≡ rows_words (take i rows) ++ row_words row
rows_words-more rows i row inside e =
    ap rows_words (take_more rows i row inside)
    ∙ rows_words-append (take i rows) (get_or rows i row ∷ [])
    ∙ ap (λ (text : List ℕ). rows_words (take i rows) ++ text) (append-nil (row_words (get_or rows i row)))
    ∙ ap (λ (r : OrderedKey × List ℕ). rows_words (take i rows) ++ row_words r) (sym e)

-- the rows before a row, the row and the rows after it are all rows
pub around_row : (rows : Records) (i : ℕ) (row : OrderedKey × List ℕ) → i < length rows → row ≡ get_or rows i row →
    (rows_words (take i rows) ++ row_words row) ++ rows_words (drop (i + 1) rows) ≡ rows_words rows
around_row rows i row inside e =
    ap (λ (text : List ℕ). text ++ rows_words (drop (i + 1) rows)) (sym (rows_words-more rows i row inside e))
    ∙ sym (rows_words-append (take (i + 1) rows) (drop (i + 1) rows))
    ∙ ap rows_words (take-append-drop (i + 1) rows)

-- ---- a reply of rows: its head, the rows, and the end of its line

-- the three pieces make the reply
pub in_pieces : (reply : Reply) (rows : Records) (head texts : List ℕ) → reply ≡ Rows rows → head ≡ head_of reply →
    texts ≡ rows_words rows → (head ++ texts) ++ (10 ∷ []) ≡ text_of reply
in_pieces reply rows head texts e f h =
    ap (λ (text : List ℕ). (text ++ texts) ++ (10 ∷ [])) (f ∙ ap head_of e)
    ∙ ap (λ (text : List ℕ). (head_of (Rows rows) ++ text) ++ (10 ∷ [])) h
    ∙ ap text_of (sym e)
