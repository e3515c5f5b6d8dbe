-- What steps of a reader do, behind the bytes that came.
use Rattle.std.proofs.Common.{◌≡◌, ℕ, ◌+◌, ◌-◌, ◌≤◌, ◌<◌, List, [], ◌∷◌, ◌++◌, length, refl, sym, ap, ◌∙◌}
use Rattle.std.proofs.Common.{false}
use Rattle.std.proofs.Common.{arith, subst, append_assoc, append-nil, inl, inr, nat_le}
use Rattle.std.proofs.lemmas.List.{length-append, map-append, append_cancel_right}
use Rattle.std.proofs.lemmas.Bool.{cond-true, cond-false, cases_lt, le-leb, lt-leb}
use Rattle.am_resp_text.specs.Limits.{max_words, max_word_bytes}
use Rattle.am_resp_text.specs.Counts.{crlf, count_line, bulk_text}
use Rattle.am_resp_text.specs.Requests.{words_text, request_text, IsRequest, IsCountLine, IsWordText}
use Rattle.am_resp_text.specs.Requests.{IsRequestText}
use Rattle.am_resp_text.specs.Gaps.{IsBeginning, BeginsNone, IsGap}
use Rattle.am_resp_text.specs.declared.fault.Gap.{Gap}
use Rattle.am_resp_text.specs.declared.fault.Gap.TheVariants.{Incomplete, Bad}
use Rattle.am_resp_text.specs.declared.fault.RequestFault.TheVariants as fault
use Rattle.am_resp_text.proofs.CountReadings.{gap_of_cr, gap_of_lf}
use Rattle.am_resp_text.proofs.WordReadings.{gap_of_length, gap_of_word_end, gap_of_next, words_text-append}
use Rattle.am_resp_text.proofs.WordReadings.{short-append}
use Rattle.am_resp_text.proofs.RequestReadings.{gap_of_count, fault_of_words}
use Rattle.am_resp_source.specs.Heard.{heard_word, heard_words}
use Rattle.am_resp_source.specs.Progress.{KeepsWord, IsBehind, CameSoFarAt, IsOpenAt, CameSoFar, UsedFront}
use Rattle.am_resp_source.specs.Progress.{HasStopped, HasHeard, HasFailed}
use Rattle.am_resp_source.specs.Progress.{KeepsMore, KeepsWhole}
use Rattle.am_resp_source.specs.declared.heard.HeardWord.{HeardWord}
use Rattle.am_resp_source.specs.declared.heard.Heard.{Heard}
use Rattle.am_resp_source.specs.declared.heard.Heard.TheVariants as heard
use Rattle.am_resp_source.specs.declared.heard.HeardWord.TheVariants.{Kept, Long}
use Rattle.am_resp_source.specs.declared.reader.RequestReader.{RequestReader}
use Rattle.am_resp_source.specs.declared.stage.Stage.{Stage}
use Rattle.am_resp_source.specs.declared.stage.Stage.TheVariants.{Count, Length, Inside, AfterCr}

no_line_yet : (mark most : ℕ) → IsBeginning (IsCountLine mark most) []
no_line_yet mark most = (count_line mark 0, (λ e. cc), (0, omega arith, refl))

pub at_first : (line : List ℕ) → line ≡ [] → ([] ≡ line) × IsBeginning (IsCountLine 42 max_words) []
at_first line e = (sym e, no_line_yet 42 max_words)

come_at : (p : RequestReader) (s : Stage) (came : List ℕ) → p.stage ≡ s → CameSoFar p came → CameSoFarAt s p came
come_at p s came e h = subst (λ (t : Stage). CameSoFarAt t p came) e h.0

open_at : (p : RequestReader) (s : Stage) (came : List ℕ) → p.stage ≡ s → CameSoFar p came → IsOpenAt s p
open_at p s came e h = subst (λ (t : Stage). IsOpenAt t p) e h.1

stays_at : (p : RequestReader) (s : Stage) (came : List ℕ) → p.stage ≡ s → CameSoFarAt s p came → IsOpenAt s p →
    CameSoFar p came
stays_at p s came e h o = (
  subst (λ (t : Stage). CameSoFarAt t p came) (sym e) h,
  subst (λ (t : Stage). IsOpenAt t p)
      (sym e) o,
)

-- more bytes of the next word
more_behind : (came rest front words more : List ℕ) → came ≡ front ++ (words ++ rest) → came ++ more ≡ front ++
    (words ++ (rest ++ more))
more_behind came rest front words more e =
    ap (λ (z : List ℕ). z ++ more) e ∙ append_assoc front (words ++ rest) more ∙
    ap (λ (z : List ℕ). front ++ z) (append_assoc words rest more)

-- no word is next
none_behind : (p : RequestReader) (words : List (List ℕ)) (rest came piece : List ℕ) → IsBehind p words rest came →
    0 < p.due →
    BeginsNone IsWordText (rest ++ piece) → BeginsNone IsRequestText (came ++ piece)
none_behind p words rest came piece h due none =
    let count = length words + p.due in
    let many : length words + (1 + (p.due - 1)) ≡ count = omega (arith, due) in
    let behind = words_text words ++ (rest ++ piece) in
    let whole = more_behind came rest (count_line 42 count) (words_text words) piece h.0 in
    fault_of_words (came ++ piece) behind count fault.Bad whole h.1
    (gap_of_next behind (rest ++ piece) words (p.due - 1) count Bad refl h.2 many none)

-- ---- the count

pub count_stopped : (p : RequestReader) (line came piece : List ℕ) (gap : Gap) → p.stage ≡ Count → CameSoFar p came →
    IsGap (IsCountLine 42 max_words) (p.line ++ piece) gap → (gap ≡ Incomplete → line ≡ p.line ++ piece) →
    HasStopped came piece gap (record p { line = line })
count_stopped p line came piece Incomplete st h there kept =
    let at = come_at p Count came st h in
    let same = ap (λ (z : List ℕ). z ++ piece) at.0 in
    stays_at (record p { line = line }) Count (came ++ piece) st (
      same ∙ sym (kept refl),
      subst (λ (z : List ℕ). IsBeginning (IsCountLine 42 max_words) z) (sym same) there,
      at.2,
      at.3,
    ) tt
count_stopped p line came piece Bad st h there kept =
    let at = come_at p Count came st h in
    let same = ap (λ (z : List ℕ). z ++ piece) at.0 in
    gap_of_count (came ++ piece) Bad (subst (λ (z : List ℕ). BeginsNone (IsCountLine 42 max_words) z) (sym same) there)

pub count_taken : (p : RequestReader) (line came taken : List ℕ) (n : ℕ) → p.stage ≡ Count → CameSoFar p came →
    line ≡ [] →
    n ≤ max_words → p.line ++ taken ≡ count_line 42 n →
    CameSoFarAt Length (record p { line = line; due = n; stage = Length }) (came ++ taken)
count_taken p line came taken n st h empty few e =
    let at = come_at p Count came st h in
    let none : 0 + n ≡ n = omega arith in
    let whole = ap (λ (z : List ℕ). z ++ taken) at.0 ∙ e ∙ sym (append-nil (count_line 42 n)) ∙
    ap (λ m. count_line 42 m ++ []) (sym none) in
    ([], [], (whole, omega (arith, few), tt, (λ kept. at.2)), (sym empty, no_line_yet 36 max_word_bytes))

-- ---- a length

pub length_stopped : (p : RequestReader) (line came piece : List ℕ) (gap : Gap) → p.stage ≡ Length → CameSoFar p came →
    IsGap (IsCountLine 36 max_word_bytes) (p.line ++ piece) gap → (gap ≡ Incomplete → line ≡ p.line ++ piece) →
    HasStopped came piece gap (record p { line = line })
length_stopped p line came piece Incomplete st h there kept =
    let at = come_at p Length came st h in
    let words = at.0 in
    let rest = at.1 in
    let behind = at.2 in
    let same = ap (λ (z : List ℕ). z ++ piece) at.3.0 in
    let whole = more_behind came rest (count_line 42 (length words + p.due)) (words_text words) piece behind.0 in
    stays_at (record p { line = line }) Length (came ++ piece) st (
      words,
      rest ++ piece,
      (whole, behind.1, behind.2, behind.3),
      (
        same ∙ sym (kept refl),
        subst (λ (z : List ℕ). IsBeginning (IsCountLine 36 max_word_bytes) z) (sym same) there,
      ),
    ) (open_at p Length came st h)
length_stopped p line came piece Bad st h there kept =
    let at = come_at p Length came st h in
    let same = ap (λ (z : List ℕ). z ++ piece) at.3.0 in
    none_behind p at.0 at.1 came piece at.2 (open_at p Length came st h) (gap_of_length (at.1 ++ piece) Bad
    (subst (λ (z : List ℕ). BeginsNone (IsCountLine 36 max_word_bytes) z) (sym same) there))

pub length_taken : (p : RequestReader) (line word came taken : List ℕ) (n : ℕ) → p.stage ≡ Length → CameSoFar p came →
    line ≡ [] →
    word ≡ [] → n ≤ max_word_bytes → p.line ++ taken ≡ count_line 36 n →
    CameSoFarAt (Inside n) (record p { line = line; len = n; word = word; stage = Inside n }) (came ++ taken)
length_taken p line word came taken n st h empty fresh few e =
    let at = come_at p Length came st h in
    let words = at.0 in
    let rest = at.1 in
    let behind = at.2 in
    let whole = more_behind came rest (count_line 42 (length words + p.due)) (words_text words) taken behind.0 in
    let line_is = ap (λ (z : List ℕ). z ++ taken) at.3.0 ∙ e ∙ sym (append-nil (count_line 36 n)) in (
      words,
      rest ++ taken,
      (whole, behind.1, behind.2, behind.3),
      ([], line_is, omega arith, few, open_at p Length came st h, empty, (λ kept short. fresh)),
    )

-- ---- bytes of a word

pub bytes_taken : (p q : RequestReader) (came front : List ℕ) (left now : ℕ) → p.stage ≡ Inside left →
    CameSoFar p came →
    KeepsMore p front q → length front + now ≡ left → CameSoFarAt (Inside now) (record q { stage = Inside now })
    (came ++ front)
bytes_taken p q came front left now st h keeps size =
    let at = come_at p (Inside left) came st h in
    let words = at.0 in
    let rest = at.1 in
    let behind = at.2 in
    let word = at.3 in
    let body = word.0 in
    let due : q.due ≡ p.due = ap (λ (r : RequestReader). r.due) keeps.rest in
    let len : q.len ≡ p.len = ap (λ (r : RequestReader). r.len) keeps.rest in
    let most : q.most ≡ p.most = ap (λ (r : RequestReader). r.most) keeps.rest in
    let line : q.line ≡ p.line = ap (λ (r : RequestReader). r.line) keeps.rest in
    let whole = more_behind came rest (count_line 42 (length words + p.due)) (words_text words) front behind.0 ∙
    ap (λ d. count_line 42 (length words + d) ++ (words_text words ++ (rest ++ front))) (sym due) in
    let inside = ap (λ (z : List ℕ). z ++ front) word.1 ∙ append_assoc (count_line 36 p.len) body front ∙
    ap (λ n. count_line 36 n ++ (body ++ front)) (sym len) in
    let some = word.4 in
    let few = behind.1 in
    let short = word.3 in
    let bytes = word.2 in (
      words,
      rest ++ front,
      (
        whole,
        omega (arith, few, due),
        behind.2,
        (λ kept. keeps.words kept ∙ behind.3 (keeps.before kept) ∙
            ap (λ m. heard_words m words) (sym most)),
      ),
      (
        body ++ front,
        inside,
        omega (arith, length-append body front, bytes, size, len),
        omega (arith, short, len),
        omega (arith, some, due),
        line ∙ word.5,
        (λ kept fits. keeps.word kept (omega (arith, fits, len, most)) ∙
            ap (λ (z : List ℕ). z ++ front) (word.6 (keeps.before kept) (omega (arith, fits, len, most)))),
      ),
    )

-- ---- the end of a word

some_piece : (piece : List ℕ) (byte : ℕ) → 0 < length piece → IsBeginning (λ text. text ≡ byte ∷ []) piece → ⊥
some_piece [] byte some begun = omega (arith, some)
some_piece (c ∷ []) byte some begun = begun.1 (cc (begun.2))
some_piece (c ∷ d ∷ piece) byte some begun = cc (begun.2)

pub cr_stopped : (p : RequestReader) (came piece : List ℕ) (gap : Gap) → p.stage ≡ Inside 0 → CameSoFar p came →
    0 < length piece →
    IsGap (λ text. text ≡ 13 ∷ []) piece gap → HasStopped came piece gap p
cr_stopped p came piece Incomplete st h some there = absurd (some_piece piece 13 some there)
cr_stopped p came piece Bad st h some there =
    let at = come_at p (Inside 0) came st h in
    let word = at.3 in
    let size = word.2 in
    let whole = ap (λ (z : List ℕ). z ++ piece) word.1 ∙ append_assoc (count_line 36 p.len) word.0 piece in
    none_behind p at.0 at.1 came piece at.2 word.4 (gap_of_word_end (at.1 ++ piece) (word.0 ++ piece) word.0 piece p.len
    Bad whole
    (omega (arith, size)) refl word.3 (gap_of_cr piece Bad there))

pub cr_taken : (p : RequestReader) (came : List ℕ) → p.stage ≡ Inside 0 → CameSoFar p came →
    CameSoFarAt AfterCr (record p { stage = AfterCr }) (came ++ 13 ∷ [])
cr_taken p came st h =
    let at = come_at p (Inside 0) came st h in
    let word = at.3 in
    let size = word.2 in
    let whole = more_behind came at.1 (count_line 42 (length at.0 + p.due)) (words_text at.0) (13 ∷ []) at.2.0 in
    let inside = ap (λ (z : List ℕ). z ++ 13 ∷ []) word.1 ∙ append_assoc (count_line 36 p.len) word.0 (13 ∷ []) in (
      at.0,
      at.1 ++ 13 ∷ [],
      (whole, at.2.1, at.2.2, at.2.3),
      (word.0, inside, omega (arith, size), word.3, word.4, word.5, word.6),
    )

pub lf_stopped : (p : RequestReader) (came piece : List ℕ) (gap : Gap) → p.stage ≡ AfterCr → CameSoFar p came →
    0 < length piece →
    IsGap (λ text. text ≡ 10 ∷ []) piece gap → HasStopped came piece gap p
lf_stopped p came piece Incomplete st h some there = absurd (some_piece piece 10 some there)
lf_stopped p came piece Bad st h some there =
    let at = come_at p AfterCr came st h in
    let word = at.3 in
    let whole = ap (λ (z : List ℕ). z ++ piece) word.1 ∙ append_assoc (count_line 36 p.len) (word.0 ++ 13 ∷ []) piece ∙
    ap (λ (z : List ℕ). count_line 36 p.len ++ z) (append_assoc word.0 (13 ∷ []) piece) in
    none_behind p at.0 at.1 came piece at.2 word.4
    (gap_of_word_end (at.1 ++ piece) (word.0 ++ 13 ∷ piece) word.0 (13 ∷ piece) p.len
    Bad whole word.2 refl word.3 (gap_of_lf (13 ∷ piece) piece Bad refl there))

heard_kept : (most : ℕ) (word : List ℕ) → length word ≤ most → heard_word most word ≡ Kept word
heard_kept most word fits =
    cond-true (nat_le (length word) most) (Kept word) (Long (length word)) (le-leb (length word) most fits)

heard_long : (most : ℕ) (word : List ℕ) → most < length word → heard_word most word ≡ Long (length word)
heard_long most word long =
    cond-false (nat_le (length word) most) (Kept word) (Long (length word)) (lt-leb (length word) most long)

-- the word goes to the others
words_kept : (p q : RequestReader) (words : List (List ℕ)) (body : List ℕ) → KeepsWhole p q → length body ≡ p.len →
    KeepsWord p body → (p.is_refused ≡ false → p.words ≡ heard_words p.most words) → q.is_refused ≡ false →
    q.words ≡ heard_words q.most (words ++ body ∷ [])
words_kept p q words body keeps size word before kept =
    let first = before (keeps.before kept) in
    let all = map-append (heard_word p.most) words (body ∷ []) in
    let most = ap (λ m. heard_words m (words ++ body ∷ [])) (sym keeps.most) in
    elim (cases_lt p.most p.len) [
      | inl long ↦
          let is = heard_long p.most body (omega (arith, long, size)) ∙ ap (λ n. Long n) size in
          keeps.long kept long ∙ ap (λ (ws : List HeardWord). ws ++ Long p.len ∷ []) first ∙
          ap (λ (w : HeardWord). heard_words p.most words ++ w ∷ []) (sym is) ∙ sym all ∙ most
      | inr fits ↦
          let is = heard_kept p.most body (omega (arith, fits, size)) ∙
          ap (λ (b : List ℕ). Kept b) (sym (word (keeps.before kept) fits)) in
          keeps.kept kept fits ∙ ap (λ (ws : List HeardWord). ws ++ Kept p.word ∷ []) first ∙
          ap (λ (w : HeardWord). heard_words p.most words ++ w ∷ []) (sym is) ∙ sym all ∙ most
    ]

pub lf_taken : (p q : RequestReader) (came : List ℕ) → p.stage ≡ AfterCr → CameSoFar p came → KeepsWhole p q →
    CameSoFarAt q.stage q (came ++ 10 ∷ [])
lf_taken p q came st h keeps =
    let at = come_at p AfterCr came st h in
    let words = at.0 in
    let rest = at.1 in
    let behind = at.2 in
    let word = at.3 in
    let body = word.0 in
    let count = length words + p.due in
    let now : length (words ++ body ∷ []) + q.due ≡ count =
    omega (arith, length-append words (body ∷ []), keeps.due) in
    let few = behind.1 in
    let short = word.3 in
    let size = word.2 in
    let ended : rest ++ 10 ∷ [] ≡ bulk_text body =
    ap (λ (z : List ℕ). z ++ 10 ∷ []) word.1 ∙ append_assoc (count_line 36 p.len) (body ++ 13 ∷ []) (10 ∷ []) ∙
    ap (λ (z : List ℕ). count_line 36 p.len ++ z) (append_assoc body (13 ∷ []) (10 ∷ [])) ∙
    ap (λ n. count_line 36 n ++ (body ++ crlf)) (sym size) in
    let text : words_text words ++ (rest ++ 10 ∷ []) ≡ words_text (words ++ body ∷ []) ++ [] =
    ap (λ (z : List ℕ). words_text words ++ z) (ended ∙ sym (append-nil (bulk_text body))) ∙
    sym (words_text-append words (body ∷ [])) ∙ sym (append-nil (words_text (words ++ body ∷ []))) in
    let whole = more_behind came rest (count_line 42 count) (words_text words) (10 ∷ []) behind.0 ∙
    ap (λ (z : List ℕ). count_line 42 count ++ z) text ∙
    ap (λ n. count_line 42 n ++ (words_text (words ++ body ∷ []) ++ [])) (sym now) in
    subst (λ (t : Stage). CameSoFarAt t q (came ++ 10 ∷ [])) (sym keeps.stage) (
      words ++ body ∷ [],
      [],
      (
        whole,
        omega (arith, now, few),
        short-append words (body ∷ []) behind.2 (omega (arith, short, size), tt),
        words_kept p q words body keeps size word.6 behind.3,
      ),
      (sym (keeps.line ∙ word.5), no_line_yet 36 max_word_bytes),
    )

-- ---- the line, where a step is done

pub line_inside : (p : RequestReader) (came : List ℕ) (left : ℕ) → p.stage ≡ Inside left → CameSoFar p came →
    p.line ≡ []
line_inside p came left st h = (come_at p (Inside left) came st h).3.5

pub line_after : (p q : RequestReader) (came : List ℕ) → p.stage ≡ AfterCr → CameSoFar p came → KeepsWhole p q →
    q.line ≡ []
line_after p q came st h keeps = keeps.line ∙ (come_at p AfterCr came st h).3.5

-- ---- a whole request

pub whole_request : (p : RequestReader) (came rest : List ℕ) → CameSoFarAt Length p came → p.due ≡ 0 → p.line ≡ [] →
    (ws : List (List ℕ)) × IsRequest ws × (came ++ rest ≡ request_text ws ++ rest) ×
    (p.is_refused ≡ false → p.words ≡ heard_words p.most ws)
whole_request p came rest at due line =
    let words = at.0 in
    let behind = at.2 in
    let few = behind.1 in
    let count : length words + p.due ≡ length words = omega (arith, due) in
    let whole = behind.0 ∙ ap (λ n. count_line 42 n ++ (words_text words ++ at.1)) count ∙
    ap (λ (z : List ℕ). count_line 42 (length words) ++ (words_text words ++ z)) (at.3.0 ∙ line) ∙
    ap (λ (z : List ℕ). count_line 42 (length words) ++ z) (append-nil (words_text words)) in
    (words, (omega (arith, few, due), behind.2), ap (λ (z : List ℕ). z ++ rest) whole, behind.3)

pub begins_anew : (line : List ℕ) (words : List HeardWord) → line ≡ [] → words ≡ [] →
    ([] ≡ line) × IsBeginning (IsCountLine 42 max_words) [] × (words ≡ [])
begins_anew line words e f = (sym e, no_line_yet 42 max_words, f)

-- the same of the whole piece
pub heard_before : (old mid new : RequestReader) (came taken piece rest behind : List ℕ) (heard : Heard) →
    mid.most ≡ old.most →
    (HasFailed old → HasFailed mid) → (HasFailed mid → HasFailed old) →
    piece ≡ taken ++ rest → HasHeard mid (came ++ taken) rest heard behind new → HasHeard old came piece heard behind
    new
heard_before old mid new came taken piece rest behind (heard.Request words) most still failed e h =
    let all = ap (λ (z : List ℕ). came ++ z) e ∙ sym (append_assoc came taken rest) in
    (h.0, h.1, all ∙ h.2, h.3 ∙ ap (λ m. heard_words m h.0) most, h.4)
heard_before old mid new came taken piece rest behind heard.NoMemory most still failed e h =
    let all = ap (λ (z : List ℕ). came ++ z) e ∙ sym (append_assoc came taken rest) in
    (h.0, h.1, all ∙ h.2, h.3)
heard_before old mid new came taken piece rest behind heard.Partial most still failed e h =
    let all = ap (λ (z : List ℕ). came ++ z) e ∙ sym (append_assoc came taken rest) in
    (subst (λ (z : List ℕ). CameSoFar new z) (sym all) h.0, h.1, (λ now. failed (h.2 now)))
heard_before old mid new came taken piece rest behind heard.Bad most still failed e h =
    let all = ap (λ (z : List ℕ). came ++ z) e ∙ sym (append_assoc came taken rest) in
    (subst (λ (z : List ℕ). CameSoFar new z) (sym all) h.0, h.1, (λ before. h.2 (still before)))

-- ---- steps, one after another

-- one step more
pub steps_on : (old mid new : RequestReader) (piece rest behind : List ℕ) → (came : List ℕ) × CameSoFar old came →
    (taken : List ℕ) × (piece ≡ taken ++ rest) × ((came : List ℕ) → CameSoFar old came →
    CameSoFar mid (came ++ taken)) →
    ((came : List ℕ) → CameSoFar mid came → UsedFront came rest behind new) → IsOpenAt new.stage new →
    (taken : List ℕ) × (piece ≡ taken ++ behind) ×
    ((came : List ℕ) → CameSoFar old came → CameSoFar new (came ++ taken))
steps_on old mid new piece rest behind begun before step due =
    let front = before.0 in
    let first = step (begun.0 ++ front) (before.2 begun.0 begun.1) in
    let taken = first.0 in (
      front ++ taken,
      before.1 ∙ ap (λ (z : List ℕ). front ++ z) first.1 ∙ sym (append_assoc front taken behind),
      (λ came h.
          let next = step (came ++ front) (before.2 came h) in
          let same : next.0 ≡ taken = append_cancel_right next.0 taken behind (sym next.1 ∙ first.1) in
          let all = append_assoc came front next.0 ∙ ap (λ (z : List ℕ). came ++ (front ++ z)) same in
          (subst (λ (z : List ℕ). CameSoFarAt new.stage new z) all next.2, due)),
    )

-- a step that told something
pub stops_after : (old mid last new : RequestReader) (came piece rest behind : List ℕ) (heard : Heard) →
    last.most ≡ old.most →
    (HasFailed old → HasFailed last) → (HasFailed last → HasFailed old) →
    CameSoFar old came →
    (taken : List ℕ) × (piece ≡ taken ++ rest) × ((came : List ℕ) → CameSoFar old came →
    CameSoFar mid (came ++ taken)) →
    ((came : List ℕ) → CameSoFar mid came → HasHeard last came rest heard behind new) →
    HasHeard old came piece heard behind new
stops_after old mid last new came piece rest behind heard most still failed h before told =
    heard_before old last new came before.0 piece rest behind heard most still failed before.1
    (told (came ++ before.0) (before.2 came h))

-- a step that made a request whole
pub whole_after : (last new : RequestReader) (came rest behind : List ℕ) (heard : Heard) → last.stage ≡ Length →
    UsedFront came rest behind last → ((came rest : List ℕ) → CameSoFarAt Length last came →
    HasHeard last came rest heard rest new) →
    HasHeard last came rest heard behind new
whole_after last new came rest behind heard st taken told =
    let at = subst (λ (t : Stage). CameSoFarAt t last (came ++ taken.0)) st taken.2 in
    heard_before last last new came taken.0 rest behind behind heard refl (λ f. f) (λ f. f) taken.1
    (told (came ++ taken.0) behind at)
