-- Texts without an LF.
use Rattle.std.proofs.Common.{◌≡◌, ◌≢◌, ℕ, ◌/◌, ◌%◌, List, [], ◌∷◌, ◌++◌, refl, arith, false, Bool, true, cond, eqb}
use Rattle.std.proofs.Common.{suc, zero, codes, subst, if◌then◌else◌, ◌==◌}
use Rattle.std.specs.Prelude.{All, length}
use Rattle.std.specs.Fmt.{digits, digits_onto, digit_glyph, decimal}
use Rattle.std.proofs.lemmas.Bool.Decides.{nat_tests}
use Rattle.std.proofs.lemmas.List.Elements.{All-head, All-tail}
use Rattle.am_record.specs.declared.step.Reply.{Reply}
use Rattle.am_record.specs.declared.step.Reply.TheVariants.{Begun, Done, Found, Absent, Rows, Exists, Missing}
use Rattle.am_record.specs.declared.step.Reply.TheVariants.{Deleted, Committed, Aborted, Moved, MergeDone, Ended, Idle}
use Rattle.am_record.specs.declared.step.Reply.TheVariants.{Cleaned, NoMark, Refused}
use Rattle.am_record.specs.declared.step.Refusal.{Refusal}
use Rattle.am_record.specs.declared.step.Refusal.TheVariants.{NoSuchTx, Busy, TooManyTx, TooManyLocks, TooManyOps}
use Rattle.am_record.specs.declared.step.Refusal.TheVariants.{TooManyRuns, NotRising, BadLimit, NoMemory, SeatFull}
use Rattle.am_line_source.specs.Lines.{HasNoLf}
use Rattle.std.specs.List.{AllByRecursion}
use Rattle.am_record.specs.OrderedKey.{OrderedKey}
use Rattle.am_record.specs.Records.{Records}
use Rattle.am_line_wire.specs.Replies.{refusal_words, row_words, rows_words, words_of, IsVisibleRow, TellsVisible}
use Rattle.am_line_text.specs.Keys.{printed_key}
use Rattle.am_line_text.specs.Values.{IsVisible}

pub HasNoLf-append : (xs ys : List ℕ) → HasNoLf xs → HasNoLf ys → HasNoLf (xs ++ ys)
HasNoLf-append [] ys f h = h
HasNoLf-append (x ∷ xs) ys f h = (f.0, HasNoLf-append xs ys f.1 h)

pub HasNoLf-visible : (xs : List ℕ) → All IsVisible xs → HasNoLf xs
HasNoLf-visible [] h = tt
HasNoLf-visible (x ∷ xs) h =
    let v : IsVisible x = All-head IsVisible x xs h in
    (λ e. omega (arith, v.0, e), HasNoLf-visible xs (All-tail IsVisible x xs h))

glyph : (n : ℕ) → digit_glyph false n ≢ 10
glyph n = λ e. grind (arith, nat_tests, e)

choice : (b : Bool) (xs ys : List ℕ) → HasNoLf xs → HasNoLf ys → HasNoLf (if b then xs else ys)
choice true xs ys f h = f
choice false xs ys f h = h

onto : (k n : ℕ) (acc : List ℕ) → HasNoLf acc → HasNoLf (digits_onto k 10 false n acc)
onto zero n acc h = h
onto (suc k) n acc h =
    let last : HasNoLf (digit_glyph false (n % 10) ∷ acc) = (glyph (n % 10), h) in
    choice (n / 10 == 0) (digit_glyph false (n % 10) ∷ acc)
    (digits_onto k 10 false (n / 10) (digit_glyph false (n % 10) ∷ acc)) last
    (onto k (n / 10) (digit_glyph false (n % 10) ∷ acc) last)

pub HasNoLf-decimal : (n : ℕ) → HasNoLf (decimal n)
unfolding digits
HasNoLf-decimal n = onto 64 n [] tt

-- whether no LF stands in the bytes, for texts that are written out
unfoldable pub is_free : List ℕ → Bool
is_free [] = true
is_free (c ∷ bytes) = cond (eqb c 10) false (is_free bytes)

rest_free : (b r : Bool) → cond b false r ≡ true → r ≡ true
rest_free true r e = cc
rest_free false r e = e

pub HasNoLf-free : (xs : List ℕ) → is_free xs ≡ true → HasNoLf xs
unfolding is_free
HasNoLf-free [] e = tt
HasNoLf-free (c ∷ xs) e =
    let first : c ≢ 10 = λ z. let f : false ≡ true = subst (λ (x : ℕ). cond (eqb x 10) false (is_free xs) ≡ true) z e in
    cc in
    (first, HasNoLf-free xs (rest_free (eqb c 10) (is_free xs) e))

behind : (xs : List ℕ) (n : ℕ) → is_free xs ≡ true → HasNoLf (xs ++ decimal n)
behind xs n e = HasNoLf-append xs (decimal n) (HasNoLf-free xs e) (HasNoLf-decimal n)

HasNoLf-refusal_words : (r : Refusal) → HasNoLf (refusal_words r)
unfolding is_free
HasNoLf-refusal_words NoSuchTx = HasNoLf-free (codes "ERR NOTX") refl
HasNoLf-refusal_words (Busy holder) = behind (codes "BUSY ") holder refl
HasNoLf-refusal_words TooManyTx = HasNoLf-free (codes "ERR TXS") refl
HasNoLf-refusal_words TooManyLocks = HasNoLf-free (codes "ERR LOCKS") refl
HasNoLf-refusal_words TooManyOps = HasNoLf-free (codes "ERR OPS") refl
HasNoLf-refusal_words TooManyRuns = HasNoLf-free (codes "ERR RUNS") refl
HasNoLf-refusal_words NotRising = HasNoLf-free (codes "ERR ORDER") refl
HasNoLf-refusal_words BadLimit = HasNoLf-free (codes "ERR LIMIT") refl
HasNoLf-refusal_words NoMemory = HasNoLf-free (codes "ERR MEMORY") refl
HasNoLf-refusal_words SeatFull = HasNoLf-free (codes "ERR FULL") refl

HasNoLf-row_words : (row : OrderedKey × List ℕ) → IsVisibleRow row → HasNoLf (row_words row)
HasNoLf-row_words row h = (
  λ e. omega (arith, e),
  HasNoLf-append (printed_key row.0) (0x3D ∷ row.1)
      (HasNoLf-visible (printed_key row.0) h.0) (λ e. omega (arith, e), HasNoLf-visible row.1 h.1),
)

HasNoLf-rows_words : (rows : Records) → AllByRecursion IsVisibleRow rows → HasNoLf (rows_words rows)
HasNoLf-rows_words [] h = tt
HasNoLf-rows_words (row ∷ rows) h = HasNoLf-append (row_words row) (rows_words rows) (HasNoLf-row_words row h.0)
    (HasNoLf-rows_words rows h.1)

-- a number after a space
then_number : (xs : List ℕ) (n : ℕ) → HasNoLf xs → HasNoLf ((xs ++ codes " ") ++ decimal n)
unfolding is_free
then_number xs n h = HasNoLf-append (xs ++ codes " ") (decimal n)
    (HasNoLf-append xs (codes " ") h (HasNoLf-free (codes " ") refl)) (HasNoLf-decimal n)

pub HasNoLf-words_of : (r : Reply) → TellsVisible r → HasNoLf (words_of r)
unfolding is_free
HasNoLf-words_of (Begun tx) h = behind (codes "BEGUN ") tx refl
HasNoLf-words_of Done h = HasNoLf-free (codes "OK") refl
HasNoLf-words_of (Found value) h = HasNoLf-append (codes "VAL ") value (HasNoLf-free (codes "VAL ") refl)
    (HasNoLf-visible value h)
HasNoLf-words_of Absent h = HasNoLf-free (codes "NONE") refl
HasNoLf-words_of (Rows rows) h = HasNoLf-append (codes "ROWS " ++ decimal (length rows)) (rows_words rows)
    (behind (codes "ROWS ") (length rows) refl) (HasNoLf-rows_words rows h)
HasNoLf-words_of (Exists key) h = HasNoLf-append (codes "EXISTS ") (printed_key key)
    (HasNoLf-free (codes "EXISTS ") refl) (HasNoLf-visible (printed_key key) h)
HasNoLf-words_of Missing h = HasNoLf-free (codes "MISSING") refl
HasNoLf-words_of (Deleted n) h = behind (codes "DELETED ") n refl
HasNoLf-words_of (Committed commit) h = behind (codes "COMMITTED ") commit refl
HasNoLf-words_of Aborted h = HasNoLf-free (codes "ABORTED") refl
HasNoLf-words_of (Moved n run) h = then_number (codes "MOVED " ++ decimal n) run (behind (codes "MOVED ") n refl)
HasNoLf-words_of MergeDone h = HasNoLf-free (codes "DONE") refl
HasNoLf-words_of (Ended key holder) h = then_number (codes "ENDED " ++ printed_key key) holder
    (HasNoLf-append (codes "ENDED ") (printed_key key) (HasNoLf-free (codes "ENDED ") refl)
    (HasNoLf-visible (printed_key key) h))
HasNoLf-words_of Idle h = HasNoLf-free (codes "IDLE") refl
HasNoLf-words_of (Cleaned n) h = behind (codes "CLEANED ") n refl
HasNoLf-words_of NoMark h = HasNoLf-free (codes "NOMARK") refl
HasNoLf-words_of (Refused refusal) h = HasNoLf-refusal_words refusal
