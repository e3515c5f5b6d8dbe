-- Texts are cut at their first LF, and lines at their first TAB.
use Rattle.std.proofs.Common.{◌≡◌, ℕ, ◌+◌, ◌-◌, ◌<◌, ◌≤◌, ltb, List, [], ◌∷◌, ◌++◌, length}
use Rattle.std.proofs.Common.{take, drop, Option, Some, None, Ok, Err, refl, sym, ap, ◌∙◌, subst, arith, append_assoc}
use Rattle.std.specs.Prelude.{Result, Bool, true, false, not, zero, suc, is_ok, cond}
use Rattle.std.specs.List.{position, position_or_len, slice_split, onto_first}
use Rattle.std.proofs.lemmas.Bool.{ltb-true, ltb-false, lt-ltb, cond_both}
use Rattle.std.proofs.lemmas.List.{take-take, take_all, length-take}
use Rattle.std.proofs.lemmas.Grind.{common_steps}
use Rattle.std.proofs.lemmas.List.Splits.{slice_split_first, slice_split_none}
use Rattle.std.proofs.lemmas.List.Sums.{fails_before_first}
use Rattle.am_record.specs.OrderedKey.{OrderedKey}
use Rattle.am_record.specs.Plain.{Records}
use Rattle.am_c_steps.specs.declared.status.Status.{Status}
use Rattle.am_record.proofs.Lists.{heads}
use Rattle.am_c_steps.specs.declared.status.Status.TheVariants.{BadLine}
use Rattle.am_c_steps.specs.Texts.{of_both, key_given, value_given}
use Rattle.am_c_steps.specs.Lines.{is_lf, is_tab, lines_in, text_lines, cut_at, line_given, lines_given, wrong_line}

-- the rest of a slice after a place
pub behind : (text : List ℕ) (k : ℕ) → take (length text - (k + 1)) (drop (k + 1) text) ≡ drop (k + 1) text
behind text k = grind (arith, common_steps)

pub all_from : (text : List ℕ) (k : ℕ) → take (length text - k) (drop k text) ≡ drop k text
all_from text k = grind (arith, common_steps)

onto_first-cons : (b : ℕ) (parts : List (List ℕ)) →
    (f : List ℕ) × (fs : List (List ℕ)) × (onto_first b parts ≡ f ∷ fs)
onto_first-cons b [] = (b ∷ [], [], refl)
onto_first-cons b (part ∷ parts) = (b ∷ part, parts, refl)

-- a split has one part at least
split_some : (text : List ℕ) → (f : List ℕ) × (fs : List (List ℕ)) × (slice_split is_lf text ≡ f ∷ fs)
split_some [] = ([], [], refl)
split_some (b ∷ bs) =
    let P : List (List ℕ) → Type 0 = λ parts. (f : List ℕ) × (fs : List (List ℕ)) × (parts ≡ f ∷ fs) in
    cond_both (is_lf b) ([] ∷ slice_split is_lf bs) (onto_first b (slice_split is_lf bs)) P
    (λ _. ([], slice_split is_lf bs, refl))
    (λ _. onto_first-cons b (slice_split is_lf bs))

one_line_more : (line text : List ℕ) → lines_in (line ∷ slice_split is_lf text) ≡ line ∷ text_lines text
one_line_more line text =
    let some = split_some text in
    subst (λ (parts : List (List ℕ)). lines_in (line ∷ parts) ≡ line ∷ lines_in parts) (sym some.2) refl

-- the first line ends at the first LF
pub line_at : (text : List ℕ) (k : ℕ) → position is_lf text ≡ Some k →
    text_lines text ≡ take k text ∷ text_lines (drop (k + 1) text)
line_at text k =
    let place = position_or_len is_lf text in
    let P : Option ℕ → Type 0 = λ o. o ≡ Some k → text_lines text ≡ take k text ∷ text_lines (drop (k + 1) text) in
    cond_both (ltb place (length text)) (Some place) None P
    (λ inside found.
    let same : place ≡ k = cc in
    ap lines_in (slice_split_first is_lf text 0 (ltb-true place (length text) inside))
    ∙ one_line_more (take place text) (drop (place + 1) text)
    ∙ ap (λ (n : ℕ). take n text ∷ text_lines (drop (n + 1) text)) same)
    (λ _ found. cc)

-- the place of an LF is in the text
pub lf_within : (text : List ℕ) (k : ℕ) → position is_lf text ≡ Some k → k < length text
lf_within text k =
    let place = position_or_len is_lf text in
    cond_both (ltb place (length text)) (Some place) None (λ (o : Option ℕ). o ≡ Some k → k < length text)
    (λ inside found. let same : place ≡ k = cc in subst (λ (n : ℕ). n < length text) same
    (ltb-true place (length text) inside))
    (λ _ found. cc)

last_part : (text : List ℕ) → 0 < length text → lines_in (text ∷ []) ≡ text ∷ []
last_part [] some = absurd (omega (arith, some))
last_part (b ∷ bs) some = refl

-- without an LF the text is one line
pub one_line : (text : List ℕ) → 0 < length text → position is_lf text ≡ None → text_lines text ≡ text ∷ []
one_line text some =
    let place = position_or_len is_lf text in
    cond_both (ltb place (length text)) (Some place) None (λ (o : Option ℕ). o ≡ None → text_lines text ≡ text ∷ [])
    (λ _ found. cc)
    (λ past found.
    let end : length text ≤ place = ltb-false place (length text) past in
    ap lines_in (slice_split_none is_lf text (λ k d h. fails_before_first is_lf text k d (omega arith)))
    ∙ last_part text some)

-- ---- line after line

abbrev first_part : Result (OrderedKey × List ℕ) Status → Result OrderedKey Status
first_part (Ok q) = Ok q.0
first_part (Err why) = Err why

-- the key of both
pub key_first : (k : Result OrderedKey Status) (v : Result (List ℕ) Status) (p : OrderedKey × List ℕ) →
    of_both (λ k v. Ok (k, v)) k v ≡ Ok p → k ≡ Ok p.0
key_first (Ok k) (Ok v) p e = ap first_part e
key_first (Ok k) (Err why) p e = absurd (cc)
key_first (Err why) v p e = absurd (cc)

abbrev join : Records → Records → Result Records Status
join ps qs = Ok (ps ++ qs)

abbrev Pair : Type 0
Pair = OrderedKey × List ℕ

abbrev put : Pair → Records → Result Records Status
put p ps = Ok (p ∷ ps)

put_join : (done : Records) (p : Pair) (rest : Result Records Status) →
    of_both join (Ok done) (of_both put (Ok p) rest) ≡ of_both join (Ok (done ++ p ∷ [])) rest
put_join done p (Ok ps) = ap Ok (sym (append_assoc done (p ∷ []) ps))
put_join done p (Err why) = refl

-- the lines in front of the rest are records, these pairs, and there are so many
pub record IsReading (text : List ℕ) (rest : List ℕ) (number : ℕ) (pairs : Records) : Type 0 where
  pub given : lines_given (text_lines text) ≡ of_both join (Ok pairs) (lines_given (text_lines rest))
  pub wrong : wrong_line 1 (text_lines text) ≡ wrong_line (number + 1) (text_lines rest)
  pub few : number + length rest ≤ length text

-- one line more is a record
pub one_read : (text rest line behind : List ℕ) (number : ℕ) (records : Records) (record_read : Pair) →
    IsReading text rest number records → text_lines rest ≡ line ∷ text_lines behind →
    line_given line ≡ Ok record_read → length behind < length rest →
    IsReading text behind (number + 1) (records ++ record_read ∷ [])
one_read text rest line behind number records p reading cut is fewer = record {
  given = reading.given ∙ ap (λ ls. of_both join (Ok records) (lines_given ls)) cut
      ∙ ap (λ a. of_both join (Ok records) (of_both put a (lines_given (text_lines behind)))) is
      ∙ put_join records p (lines_given (text_lines behind));
  wrong = reading.wrong ∙ ap (wrong_line (number + 1)) cut
      ∙ ap (λ a. cond (is_ok a) (wrong_line (number + 1 + 1) (text_lines behind)) (number + 1)) is;
  few = omega (arith, reading.few, fewer);
}

-- ---- the key of a line that others follow

-- the first line is where the text begins
pub begins_with : (text line : List ℕ) (more : List (List ℕ)) → 0 < length text → text_lines text ≡ line ∷ more →
    (k : ℕ) × (line ≡ take k text)
begins_with text line more some cut = by (position is_lf text) refl
  where
    by : (o : Option ℕ) → position is_lf text ≡ o → (k : ℕ) × (line ≡ take k text)
    by (Some k) e = (k, sym (heads (sym (line_at text k e) ∙ cut)))
    by None e = (
      length text,
      sym (heads (sym (one_line text some e) ∙ cut)) ∙
          sym (take_all (length text) text (omega arith)),
    )

first_taken : (test : ℕ → Bool) (k : ℕ) (xs : List ℕ) → position_or_len test (take k xs) < length (take k xs) →
    position_or_len test xs ≡ position_or_len test (take k xs)
first_taken test zero xs less = absurd (omega (arith, less))
first_taken test (suc k) [] less = refl
first_taken test (suc k) (x ∷ xs) less = elim (test x) as (λ b.
    cond (not b) (1 + position_or_len test (take k xs)) 0 < suc (length (take k xs)) →
    cond (not b) (1 + position_or_len test xs) 0 ≡ cond (not b) (1 + position_or_len test (take k xs)) 0) [
      | true ↦ λ less. refl
      | false ↦ λ less. ap (λ n. 1 + n) (first_taken test k xs (omega (arith, less)))
    ] less

-- a place that is found in the front of a list is the first in all of it
record InFront (test : ℕ → Bool) (k : ℕ) (xs : List ℕ) (at : ℕ) : Type 0 where
  pub within : at ≤ k
  pub first : position test xs ≡ Some at

in_front : (test : ℕ → Bool) (k : ℕ) (xs : List ℕ) (at : ℕ) → position test (take k xs) ≡ Some at →
    InFront test k xs at
in_front test k xs at =
    let place = position_or_len test (take k xs) in
    cond_both (ltb place (length (take k xs))) (Some place) None (λ (o : Option ℕ). o ≡ Some at → InFront test k xs at)
    (λ inside found.
    let same : place ≡ at = cc in
    let less = ltb-true place (length (take k xs)) inside in
    let all : position_or_len test xs ≡ at = first_taken test k xs less ∙ same in
    let shorter = length-take k xs in
    record {
      within = omega (arith, less, same, shorter);
      first = ap (λ b. cond b (Some (position_or_len test xs)) None)
          (lt-ltb (position_or_len test xs) (length xs) (omega (arith, less, same, all, shorter)))
          ∙ ap (λ n. Some n) all;
    })
    (λ _ found. cc)

-- the record of a line that begins a text, by the text
pub key_in_front : (text : List ℕ) (k : ℕ) (p : Pair) → line_given (take k text) ≡ Ok p → (o : Option ℕ) →
    position is_tab (take k text) ≡ o →
    (tab : ℕ) × (position is_tab text ≡ Some tab) × (key_given (take tab text) ≡ Ok p.0)
key_in_front text k p is None e = absurd (no_record (sym (ap (cut_at (take k text)) e) ∙ is))
  where
    no_record : ◌≡◌ {A = Result Pair Status} (Err BadLine) (Ok p) → ⊥
    no_record e = cc
key_in_front text k p is (Some tab) e =
    let there = in_front is_tab k text tab e in
    let cut = sym (ap (cut_at (take k text)) e) ∙ is in (
      tab,
      there.first,
      ap (λ (front : List ℕ). key_given front) (sym (take-take tab k text there.within))
          ∙ key_first (key_given (take tab (take k text))) (value_given (drop (tab + 1) (take k text))) p cut,
    )

pub key_of_line : (text line : List ℕ) (more : List (List ℕ)) (p : Pair) → 0 < length text →
    text_lines text ≡ line ∷ more → line_given line ≡ Ok p →
    (tab : ℕ) × (position is_tab text ≡ Some tab) × (key_given (take tab text) ≡ Ok p.0)
key_of_line text line more p some cut is =
    let front = begins_with text line more some cut in
    key_in_front text front.0 p (ap line_given (sym front.1) ∙ is) (position is_tab (take front.0 text)) refl

pub tabs_are_one : (o : Option ℕ) (a b : ℕ) → o ≡ Some a → o ≡ Some b → a ≡ b
tabs_are_one o a b x y = let same : ◌≡◌ {A = Option ℕ} (Some a) (Some b) = sym x ∙ y in cc

pub no_tab : (o : Option ℕ) (b : ℕ) → o ≡ None → o ≡ Some b → ⊥
no_tab o b x y = none_some b (sym x ∙ y)
  where
    none_some : (b : ℕ) → ◌≡◌ {A = Option ℕ} None (Some b) → ⊥
    none_some b e = cc
