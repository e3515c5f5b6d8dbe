-- Records whose keys rise.
use Rattle.std.proofs.Common.{◌≡◌, ℕ, ◌<◌, zero, suc, Bool, true, false, [], ◌∷◌, length, get_or, refl, sym, ap, ◌∙◌}
use Rattle.std.proofs.Common.{arith, add-one}
use Rattle.std.proofs.lemmas.Bool.{and_parts, and_from, true≢false}
use Rattle.std.specs.declared.cmp.Ordering.TheVariants.{Less}
use Rattle.std.specs.Ordering.{is_lt}
use Rattle.std.specs.List.{AllByRecursion, IsAllAdjacentAnswer}
use Rattle.std.specs.FinMap.{is_sorted}
use Rattle.std.specs.FinMap.Entries.{below_all}
use Rattle.am_record.specs.OrderedKey.{OrderedKey, key_cmp, key_cmp-total, key_least}
use Rattle.am_record.specs.Plain.{Records, is_rising}
use Rattle.am_record.proofs.Lists.{AllByRecursion-map}
use Rattle.am_record.proofs.Orderings.{is_less}
use Rattle.am_record.proofs.FirstRows.{Record}

-- the key is below those of the records
abbrev pub Below : OrderedKey → Records → Type 0
Below k rs = AllByRecursion (λ (r : Record). key_cmp k r.0 ≡ Less) rs

below_parts : (k : OrderedKey) (rs : Records) → below_all key_cmp k rs ≡ true → Below k rs
below_parts k [] h = tt
below_parts k (r ∷ rs) h = let p = and_parts (is_lt (key_cmp k r.0)) (below_all key_cmp k rs) h in
    (is_less (key_cmp k r.0) p.0, below_parts k rs p.1)

below_from : (k : OrderedKey) (rs : Records) → Below k rs → below_all key_cmp k rs ≡ true
below_from k [] h = refl
below_from k (r ∷ rs) h = and_from (is_lt (key_cmp k r.0)) (below_all key_cmp k rs) (ap is_lt h.0) (below_from k rs h.1)

pub below_lower : (k l : OrderedKey) (rs : Records) → key_cmp k l ≡ Less → Below l rs → Below k rs
below_lower k l rs h b = AllByRecursion-map (λ (r : Record). key_cmp l r.0 ≡ Less)
    (λ (r : Record). key_cmp k r.0 ≡ Less) (λ r less. key_cmp-total.trans k l r.0 h less) rs b

-- ---- one record, and those after it

pub sorted_parts : (r : Record) (rs : Records) → is_sorted key_cmp (r ∷ rs) ≡ true → Below r.0 rs ×
    (is_sorted key_cmp rs ≡ true)
sorted_parts r rs h = let p = and_parts (below_all key_cmp r.0 rs) (is_sorted key_cmp rs) h in
    (below_parts r.0 rs p.0, p.1)

pub sorted_from : (r : Record) (rs : Records) → Below r.0 rs → is_sorted key_cmp rs ≡ true →
    is_sorted key_cmp (r ∷ rs) ≡ true
sorted_from r rs b h = and_from (below_all key_cmp r.0 rs) (is_sorted key_cmp rs) (below_from r.0 rs b) h

-- the records of a run rise, and records that rise are a run where there are some
pub run_sorted : (rs : Records) → is_rising rs ≡ true → is_sorted key_cmp rs ≡ true
run_sorted [] h = refl
run_sorted (r ∷ rs) h = h

pub sorted_run : (rs : Records) → 0 < length rs → is_sorted key_cmp rs ≡ true → is_rising rs ≡ true
sorted_run [] some h = absurd (omega arith)
sorted_run (r ∷ rs) some h = h

pub rising_none : (rs : Records) → length rs ≡ 0 → is_rising rs ≡ false
rising_none [] h = refl
rising_none (r ∷ rs) h = absurd (omega arith)

pub rising_some : (rs : Records) → 0 < length rs → is_rising rs ≡ is_sorted key_cmp rs
rising_some [] h = absurd (omega arith)
rising_some (r ∷ rs) h = refl

pub run_some : (rs : Records) → is_rising rs ≡ true → 0 < length rs
run_some [] h = absurd (true≢false (sym h))
run_some (r ∷ rs) h = omega arith

-- ---- each record against the next

abbrev Rises : Records → Type 0
Rises rs = (k : ℕ) (d : Record) → suc k < length rs → key_cmp (get_or rs k d).0 (get_or rs (suc k) d).0 ≡ Less

pub sorted_rises : (rs : Records) → Rises rs → is_sorted key_cmp rs ≡ true
sorted_rises [] h = refl
sorted_rises (r ∷ []) h = refl
sorted_rises (r ∷ s ∷ rs) h =
    let later : is_sorted key_cmp (s ∷ rs) ≡ true = sorted_rises (s ∷ rs) (λ k d less. h (suc k) d (omega arith)) in
    let first : key_cmp r.0 s.0 ≡ Less = h 0 r (omega arith) in
    sorted_from r (s ∷ rs) (first, below_lower r.0 s.0 rs first (sorted_parts s rs later).0) later

rises_sorted : (rs : Records) → is_sorted key_cmp rs ≡ true → Rises rs
rises_sorted [] h k d less = absurd (omega arith)
rises_sorted (r ∷ []) h k d less = absurd (omega arith)
rises_sorted (r ∷ s ∷ rs) h zero d less = (sorted_parts r (s ∷ rs) h).0.0
rises_sorted (r ∷ s ∷ rs) h (suc k) d less = rises_sorted (s ∷ rs) (sorted_parts r (s ∷ rs) h).1 k d (omega arith)

-- what a test of neighbours answers
pub adjacent_answer : (rs : Records) (b : Bool) →
    IsAllAdjacentAnswer (λ (x : Record) (y : Record) r. r ≡ is_lt (key_cmp x.0 y.0)) rs b → is_sorted key_cmp rs ≡ b
adjacent_answer rs true h = sorted_rises rs (λ k d less. is_less (key_cmp (get_or rs k d).0 (get_or rs (suc k) d).0)
    (sym (rw add-one at (h k d (omega arith)))))
adjacent_answer rs false h = by_cases (is_sorted key_cmp rs) refl
  where
    by_cases : (b : Bool) → is_sorted key_cmp rs ≡ b → is_sorted key_cmp rs ≡ false
    by_cases false e = e
    by_cases true e =
        let d : Record = (key_least, []) in
        let less : key_cmp (get_or rs h.0 d).0 (get_or rs (suc h.0) d).0 ≡ Less =
        rises_sorted rs e h.0 d (omega (arith, h.1)) in
        absurd (true≢false (sym (ap is_lt less) ∙ sym (rw add-one at (h.2 d))))
