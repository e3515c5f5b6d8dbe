-- A text is cut at its first byte of a kind in one way.
use Rattle.std.proofs.Common.{◌≡◌, ℕ, ◌+◌, ◌-◌, ◌<◌, ◌≤◌, ltb, eqb, not, true, cond, List, [], ◌∷◌, ◌++◌, length}
use Rattle.std.proofs.Common.{get_or}
use Rattle.std.proofs.Common.{take, drop, Some, None, refl, sym, ap, ◌∙◌, arith, append_assoc}
use Rattle.std.specs.Prelude.{codes}
use Rattle.std.specs.List.{position, position_or_len}
use Rattle.std.proofs.lemmas.Bool.{cond_both, ltb-true, ltb-false, and_parts, and_from, eqb-true}
use Rattle.std.proofs.lemmas.Bool.Decides.{nat_tests}
use Rattle.std.proofs.lemmas.Grind.{common_steps}
use Rattle.std.proofs.lemmas.List.{drop_more, take-append-drop}
use Rattle.std.proofs.lemmas.List.Quantifiers.{position-Some}
use Rattle.std.proofs.lemmas.List.Sums.{fails_before_first, list_all-from_AllPass}
use Rattle.am_trace_text.specs.Cuts.{has_no, IsParted}

-- no byte of the kind stands before the first
none_before : (c : ℕ) (text : List ℕ) (k : ℕ) → k ≤ position_or_len (λ b. eqb b c) text → k ≤ length text →
    has_no c (take k text) ≡ true
none_before c text k e inside =
    list_all-from_AllPass (λ b. not (eqb b c)) (take k text) (λ j d h.
    let below : j < k = grind (arith, common_steps) in
    let same : get_or (take k text) j d ≡ get_or text j d = grind (arith, common_steps) in
    ap (λ b. not (eqb b c)) same ∙ ap not (fails_before_first (λ b. eqb b c) text j d (omega arith)))

pub before_cut : (c : ℕ) (text : List ℕ) (k : ℕ) → cond (ltb (position_or_len (λ b. eqb b c) text) (length text))
    (Some (position_or_len (λ b. eqb b c) text)) None ≡ Some k → has_no c (take k text) ≡ true
before_cut c text k =
    let place = position_or_len (λ b. eqb b c) text in
    cond_both (ltb place (length text)) (Some place) None (λ o. o ≡ Some k → has_no c (take k text) ≡ true)
    (λ inside found.
    let same : place ≡ k = cc in
    let below : place < length text = ltb-true place (length text) inside in
    none_before c text k (omega (arith, same)) (omega (arith, below, same)))
    (λ _ found. cc)

pub not_cut : (c : ℕ) (text : List ℕ) → cond (ltb (position_or_len (λ b. eqb b c) text) (length text))
    (Some (position_or_len (λ b. eqb b c) text)) None ≡ None → has_no c text ≡ true
not_cut c text =
    let place = position_or_len (λ b. eqb b c) text in
    cond_both (ltb place (length text)) (Some place) None (λ o. o ≡ None → has_no c text ≡ true)
    (λ inside found. cc)
    (λ past found.
    let end : length text ≤ place = ltb-false place (length text) past in
    list_all-from_AllPass (λ b. not (eqb b c)) text
    (λ j d h. ap not (fails_before_first (λ b. eqb b c) text j d (omega arith))))

-- the byte of the kind stands at the cut
pub whole_at_cut : (c : ℕ) (text : List ℕ) (k : ℕ) → position (λ b. eqb b c) text ≡ Some k → text ≡ take k text ++
    c ∷ take (length text - (k + 1)) (drop (k + 1) text)
whole_at_cut c text k found =
    let at = position-Some (λ b. eqb b c) text k c found in
    let inside : k < length text = at.0 in
    let byte : get_or text k c ≡ c = eqb-true (get_or text k c) c at.1 in
    let tail : drop (k + 1) text ≡ take (length text - (k + 1)) (drop (k + 1) text) = grind (arith, common_steps) in
    sym (take-append-drop k text) ∙ ap (λ l. take k text ++ l) (drop_more text k c inside) ∙
    (λ i. take k text ++ byte i ∷ tail i)

-- the byte of the kind isn't among those before the cut
heads : (c b : ℕ) (rest : List ℕ) → has_no c (b ∷ rest) ≡ true → b ≡ c → ⊥
heads c b rest h e = let p = (and_parts (not (eqb b c)) (has_no c rest) h).0 in grind (arith, nat_tests, p, e)

-- there is one way to cut
pub one_cut : (c : ℕ) (a b x y : List ℕ) → has_no c a ≡ true → has_no c x ≡ true → a ++ c ∷ b ≡ x ++ c ∷ y → (a ≡ x) ×
    (b ≡ y)
one_cut c [] b [] y h k e = (refl, cc)
one_cut c [] b (d ∷ x) y h k e = absurd (heads c d x k cc)
one_cut c (d ∷ a) b [] y h k e = absurd (heads c d a h cc)
one_cut c (d ∷ a) b (f ∷ x) y h k e =
    let rest : a ++ c ∷ b ≡ x ++ c ∷ y = cc in
    let first : d ≡ f = cc in
    let more = one_cut c a b x y (and_parts (not (eqb d c)) (has_no c a) h).1
    (and_parts (not (eqb f c)) (has_no c x) k).1 rest in
    (ap (λ z. z ∷ a) first ∙ ap (λ z. f ∷ z) more.0, more.1)

pub not_there : (c : ℕ) (a b text : List ℕ) → has_no c text ≡ true → text ≡ a ++ c ∷ b → ⊥
not_there c [] b [] h e = cc
not_there c [] b (d ∷ text) h e = heads c d text h cc
not_there c (f ∷ a) b [] h e = cc
not_there c (f ∷ a) b (d ∷ text) h e = not_there c a b text (and_parts (not (eqb d c)) (has_no c text) h).1 cc

pub has_no-append : (c : ℕ) (a b : List ℕ) → has_no c a ≡ true → has_no c b ≡ true → has_no c (a ++ b) ≡ true
has_no-append c [] b h k = k
has_no-append c (d ∷ a) b h k =
    let p = and_parts (not (eqb d c)) (has_no c a) h in
    and_from (not (eqb d c)) (has_no c (a ++ b)) p.0 (has_no-append c a b p.1 k)

-- the two parts of a line, by its cut at the bar
pub parts_by_cut : (line before after step reply : List ℕ) → line ≡ before ++ 124 ∷ after → has_no 124 before ≡ true →
    IsParted line step reply → (before ≡ step ++ 32 ∷ []) × (after ≡ 32 ∷ reply)
parts_by_cut line before after step reply e none h =
    let with_space : has_no 124 (step ++ 32 ∷ []) ≡ true = has_no-append 124 step (32 ∷ []) h.first refl in
    let regrouped : step ++ codes " | " ++ reply ≡ (step ++ 32 ∷ []) ++ 124 ∷ 32 ∷ reply =
    append_assoc step (codes " | ") reply ∙ sym (append_assoc step (32 ∷ []) (124 ∷ 32 ∷ reply)) in
    one_cut 124 before after (step ++ 32 ∷ []) (32 ∷ reply) none with_space (sym e ∙ h.parted ∙ regrouped)

-- what is the last byte of a text
pub last_byte : (step text : List ℕ) (last : ℕ) → text ++ last ∷ [] ≡ step ++ 32 ∷ [] → last ≡ 32
last_byte [] [] last e = cc
last_byte [] (b ∷ []) last e = cc
last_byte [] (b ∷ d ∷ text) last e = cc
last_byte (s ∷ []) [] last e = cc
last_byte (s ∷ t ∷ step) [] last e = cc
last_byte (s ∷ step) (b ∷ text) last e = last_byte step text last cc

pub some_byte : (step : List ℕ) → [] ≡ step ++ 32 ∷ [] → ⊥
some_byte [] e = cc
some_byte (s ∷ step) e = cc
