-- The fields of a line are the words that a space joins.
use Rattle.std.proofs.Common.{◌≡◌, ℕ, ◌+◌, ◌-◌, ◌≤◌, Bool, true, false, not, eqb, ltb, cond, List, [], ◌∷◌, length}
use Rattle.std.proofs.Common.{take, drop, Option, Some, None, All, refl, ap, ◌∙◌, arith}
use Rattle.std.specs.List.{join_with_byte, list_all, position_or_len, onto_first, AllByRecursion}
use Rattle.std.proofs.lemmas.Bool.{ltb-true, ltb-false, not-true, cond_both, and_parts, and_from}
use Rattle.std.proofs.lemmas.Grind.{common_steps}
use Rattle.std.proofs.lemmas.List.Splits.{slice_split_first, slice_split_none, slice_split_at}
use Rattle.std.proofs.lemmas.List.Sums.{fails_before_first, AllPass-from_list_all}
use Rattle.am_line_text.specs.Fields.{line_fields, has_no_space}

-- a split at the place of the first space
pub line_fields-at : (line : List ℕ) (k : ℕ) → cond (ltb (position_or_len (λ b. eqb b 32) line) (length line))
    (Some (position_or_len (λ b. eqb b 32) line)) None ≡ Some k → line_fields line ≡ take k line ∷ line_fields
    (take (length line - (k + 1)) (drop (k + 1) line))
line_fields-at line k =
    let place = position_or_len (λ b. eqb b 32) line in
    let P : Option ℕ → Type 0 = λ o. o ≡ Some k → line_fields line ≡ take k line ∷ line_fields
    (take (length line - (k + 1)) (drop (k + 1) line)) in
    cond_both (ltb place (length line)) (Some place) None P
    (λ inside found.
    let same : place ≡ k = cc in
    let tail : drop (k + 1) line ≡ take (length line - (k + 1)) (drop (k + 1) line) = grind (arith, common_steps) in
    slice_split_first (λ b. eqb b 32) line 0 (ltb-true place (length line) inside)
    ∙ ap (λ n. take n line ∷ line_fields (drop (n + 1) line)) same
    ∙ ap (λ xs. take k line ∷ line_fields xs) tail)
    (λ _ found. cc)

-- no space: the line is one field
pub line_fields-one : (line : List ℕ) → cond (ltb (position_or_len (λ b. eqb b 32) line) (length line))
    (Some (position_or_len (λ b. eqb b 32) line)) None ≡ None → line_fields line ≡ line ∷ []
line_fields-one line =
    let place = position_or_len (λ b. eqb b 32) line in
    let P : Option ℕ → Type 0 = λ o. o ≡ None → line_fields line ≡ line ∷ [] in
    cond_both (ltb place (length line)) (Some place) None P
    (λ _ found. cc)
    (λ past found.
    let end : length line ≤ place = ltb-false place (length line) past in
    slice_split_none (λ b. eqb b 32) line (λ k d h. fails_before_first (λ b. eqb b 32) line k d (omega arith)))

onto_first-cons : (x : ℕ) (parts : List (List ℕ)) → (f : List ℕ) × (fs : List (List ℕ)) × (onto_first x parts ≡ f ∷ fs)
onto_first-cons x [] = (x ∷ [], [], refl)
onto_first-cons x (part ∷ parts) = (x ∷ part, parts, refl)

-- a line has one field at least
pub line_fields-some : (line : List ℕ) → (f : List ℕ) × (fs : List (List ℕ)) × (line_fields line ≡ f ∷ fs)
line_fields-some [] = ([], [], refl)
line_fields-some (b ∷ bs) =
    let P : List (List ℕ) → Type 0 = λ parts. (f : List ℕ) × (fs : List (List ℕ)) × (parts ≡ f ∷ fs) in
    cond_both (eqb b 32) ([] ∷ line_fields bs) (onto_first b (line_fields bs)) P (λ _. ([], line_fields bs, refl))
    (λ _. onto_first-cons b (line_fields bs))

no_space : (word : List ℕ) → has_no_space word ≡ true → All (λ b. eqb b 32 ≡ false) word
no_space word h = λ k d inside. not-true _ (AllPass-from_list_all (λ b. not (eqb b 32)) word h k d inside)

-- words that a space joins are the fields
pub line_fields-join : (word : List ℕ) (words : List (List ℕ)) → has_no_space word ≡ true →
    AllByRecursion (λ w. has_no_space w ≡ true) words → line_fields (join_with_byte 32 (word ∷ words)) ≡ word ∷ words
line_fields-join word [] h hs = slice_split_none (λ b. eqb b 32) word (no_space word h)
line_fields-join word (next ∷ words) h hs =
    slice_split_at (λ b. eqb b 32) word 32 (join_with_byte 32 (next ∷ words)) (no_space word h) refl
    ∙ ap (λ parts. word ∷ parts) (line_fields-join next words hs.0 hs.1)

-- a test that others imply
pub list_all-weaker : (p q : ℕ → Bool) → ((b : ℕ) → p b ≡ true → q b ≡ true) → (bs : List ℕ) → list_all p bs ≡ true →
    list_all q bs ≡ true
list_all-weaker p q f [] h = refl
list_all-weaker p q f (b ∷ bs) h =
    let parts = and_parts (p b) (list_all p bs) h in
    and_from (q b) (list_all q bs) (f b parts.0) (list_all-weaker p q f bs parts.1)
