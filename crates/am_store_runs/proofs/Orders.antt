-- The orders of records by their keys.
use Rattle.std.proofs.Common.{◌≡◌, ℕ, ◌+◌, ◌<◌, zero, suc, Bool, true, false, List, [], ◌∷◌, ◌++◌, length, get_or, drop}
use Rattle.std.proofs.Common.{Option}
use Rattle.std.proofs.Common.{Some, refl, sym, ap, ◌∙◌, subst, arith, add-one}
use Rattle.std.specs.Prelude.{MatchOption, nat_lt, slice_get, Vec}
use Rattle.std.specs.declared.alloc.Global.{Global}
use Rattle.std.proofs.Math.ListN.{get_or-map}
use Rattle.std.proofs.lemmas.Bool.{ltb-true}
use Rattle.std.proofs.lemmas.List.{length-map, map-append}
use Rattle.std.proofs.lemmas.List.Elements.{All-from_recursion, recursion_from_All}
use Rattle.std.proofs.lemmas.List.Sorted.{All-permutation, IsPermutation-map, length_permutation}
use Rattle.std.specs.Ordering.{is_lt}
use Rattle.std.specs.declared.cmp.Ordering.TheVariants.{Less}
use Rattle.std.specs.List.{AllByRecursion, IsAllAdjacentAnswer}
use Rattle.std.specs.List.Sorted.{IsPermutation, IsSorted}
use Rattle.am_record.specs.KeyFront.{key_front}
use Rattle.am_record.specs.OrderedKey.{OrderedKey, key_cmp, key_least}
use Rattle.am_record.specs.Plain.{Records}
use Rattle.am_record.proofs.FirstRows.{Record}
use Rattle.am_record.proofs.Lists.{AllByRecursion-push}
use Rattle.am_record.proofs.RisingRecords.{sorted_run, sorted_rises}
use Rattle.am_store_runs.specs.Cuts.{keys_of, NoneTwice, IsLeastTwice}
use Rattle.am_store_runs.specs.RecordPlaces.{IsSpot, AreSpots, IsOrder, IsByKey, AreOrders, keyed_by, keys_among}
use Rattle.am_store_runs.specs.RecordPlaces.{records_at}
use Rattle.am_store_runs.specs.RecordPlaces.{runs_named}
use Rattle.am_store_runs.specs.RecordPlaces.{spots_among}
use Rattle.am_store_runs.specs.declared.record_order.Spot.{Spot}
use Rattle.am_store_runs.proofs.Spots.{spots_permuted}
use Rattle.am_store_runs.proofs.Twice.{Ascends, ascends_by, rising_of, found_permuted}

-- ---- spots whose fronts rise name records that do

abbrev FrontsRise : List Spot → Type 0
FrontsRise ss = (k : ℕ) (d : Spot) → suc k < length ss → (get_or ss k d).front < (get_or ss (suc k) d).front

fronts_rise : (ss : List Spot) (b : Bool) →
    IsAllAdjacentAnswer (λ (x : Spot) (y : Spot) r. r ≡ nat_lt x.front y.front) ss b → b ≡ true → FrontsRise ss
fronts_rise ss true h e = λ k d less. ltb-true _ _ (sym (rw add-one at (h k d (omega arith))))
fronts_rise ss false h e = cc

pub named_long : (rs : Records) (ss : List Spot) → length (records_at rs ss) ≡ length ss
named_long rs ss = length-map ss (λ (s : Spot). get_or rs s.place (key_least, []))

module _ (follow : (a b : OrderedKey) → key_front a < key_front b → key_cmp a b ≡ Less) (rs : Records) where
  pub lower : (s t : Spot) → IsSpot rs s → IsSpot rs t → s.front < t.front →
      key_cmp (get_or rs s.place (key_least, [])).0 (get_or rs t.place (key_least, [])).0 ≡ Less
  lower s t is it less = follow _ _ (omega (arith, is.front, it.front, less))

  named_rise : (ss : List Spot) → AllByRecursion (IsSpot rs) ss → FrontsRise ss → (k : ℕ) (d : Record) →
      suc k < length (records_at rs ss) → key_cmp (get_or (records_at rs ss) k d).0
      (get_or (records_at rs ss) (suc k) d).0 ≡ Less
  named_rise [] all h k d less = absurd (omega arith)
  named_rise (s ∷ []) all h k d less = absurd (omega arith)
  named_rise (s ∷ t ∷ ss) all h zero d less = lower s t all.0 all.1.0 (h 0 s (omega arith))
  named_rise (s ∷ t ∷ ss) all h (suc k) d less =
      named_rise (t ∷ ss) all.1 (λ i e low. h (suc i) e (omega arith)) k d (omega arith)

  pub order_by_front : (ss : List Spot) (b : Bool) → AreSpots rs ss → 0 < length ss →
      IsAllAdjacentAnswer (λ (x : Spot) (y : Spot) r. r ≡ nat_lt x.front y.front) ss b → b ≡ true → IsOrder rs ss
  order_by_front ss b are some h e = record {
    are = are;
    rising = sorted_run (records_at rs ss) (omega (arith, some, named_long rs ss))
        (sorted_rises (records_at rs ss) (named_rise ss are.each (fronts_rise ss b h e)));
  }

-- ---- spots that were sorted by the keys of their records

abbrev IsKeyed : Records → OrderedKey × Spot → Type 0
IsKeyed rs p = p.0 ≡ (get_or rs p.1.place (key_least, [])).0

all_keyed : (rs : Records) (ss : List Spot) → AllByRecursion (IsKeyed rs) (keyed_by rs ss)
all_keyed rs [] = tt
all_keyed rs (s ∷ ss) = (refl, all_keyed rs ss)

spots_keyed : (rs : Records) (ss : List Spot) → spots_among (keyed_by rs ss) ≡ ss
spots_keyed rs [] = refl
spots_keyed rs (s ∷ ss) = ap (λ l. s ∷ l) (spots_keyed rs ss)

keys_keyed : (rs : Records) (ps : List (OrderedKey × Spot)) → AllByRecursion (IsKeyed rs) ps →
    keys_among ps ≡ keys_of (records_at rs (spots_among ps))
keys_keyed rs [] all = refl
keys_keyed rs (p ∷ ps) all = ap (λ k. k ∷ keys_among ps) all.0 ∙
    ap (λ ks. (get_or rs p.1.place (key_least, [])).0 ∷ ks) (keys_keyed rs ps all.1)

pub spots_moved : (rs : Records) (ss : List Spot) (ps : List (OrderedKey × Spot)) → IsByKey rs ss ps →
    IsPermutation ss (spots_among ps)
spots_moved rs ss ps by = subst (λ l. IsPermutation l (spots_among ps)) (spots_keyed rs ss)
    (IsPermutation-map (λ (p : OrderedKey × Spot). p.1) (keyed_by rs ss) ps by.same)

module _ (rs : Records) (ss : List Spot) (ps : List (OrderedKey × Spot)) (by : IsByKey rs ss ps)
    (keys : List OrderedKey) (are : keys ≡ keys_among ps) where
  key_at : (k : ℕ) (d : OrderedKey) (s : Spot) → get_or keys k d ≡ (get_or ps k (d, s)).0
  key_at k d s = ap (λ l. get_or l k d) are ∙ get_or-map (λ (p : OrderedKey × Spot). p.0) ps k (d, s)

  pub keys_sorted : IsSorted key_cmp keys
  keys_sorted k d low less =
      let s : Spot = record { front = 0; place = 0 } in
      (λ i. is_lt (key_cmp (key_at (k + 1) d s i) (key_at k d s i))) ∙
      by.sorted k (d, s) low (omega (
        arith,
        less,
        ap (λ (l : List OrderedKey). length l) are,
        length-map ps (λ (p : OrderedKey × Spot). p.0),
      ))

  keys_are : keys ≡ keys_of (records_at rs (spots_among ps))
  keys_are = are ∙ keys_keyed rs ps
      (recursion_from_All (IsKeyed rs) ps (All-permutation (IsKeyed rs) (keyed_by rs ss) ps by.same
      (All-from_recursion (IsKeyed rs) (keyed_by rs ss) (all_keyed rs ss))))

  records_moved : IsPermutation (records_at rs ss) (records_at rs (spots_among ps))
  records_moved = IsPermutation-map (λ (s : Spot). get_or rs s.place (key_least, [])) ss (spots_among ps)
      (spots_moved rs ss ps by)

  pub found_of : (found : Option OrderedKey) → MatchOption found (NoneTwice keys) (IsLeastTwice keys) →
      MatchOption found (NoneTwice (keys_of (records_at rs ss))) (IsLeastTwice (keys_of (records_at rs ss)))
  found_of found h =
      found_permuted found (keys_of (records_at rs ss)) (keys_of (records_at rs (spots_among ps)))
      (IsPermutation-map (λ (r : Record). r.0) (records_at rs ss) (records_at rs (spots_among ps)) records_moved)
      (subst (λ ks. MatchOption found (NoneTwice ks) (IsLeastTwice ks)) keys_are h)

  pub order_by_key : AreSpots rs ss → 0 < length ss → NoneTwice keys → IsOrder rs (spots_among ps)
  order_by_key spots some once =
      let run = records_at rs (spots_among ps) in
      record {
        are = spots_permuted rs ss (spots_among ps) (spots_moved rs ss ps by) spots;
        rising = sorted_run run
            (omega (arith, some, length_permutation (records_at rs ss) run records_moved, named_long rs ss))
            (rising_of run (subst Ascends (sym are ∙ keys_are) (ascends_by (λ (p : OrderedKey × Spot). p.0) ps
            by.sorted)) (subst NoneTwice keys_are once));
      }

-- ---- more orders

pub orders_more : (rs : Records) (os : List (Vec Spot Global)) (o : Vec Spot Global) → AreOrders rs os →
    IsOrder rs o.items → AreOrders rs (os ++ o ∷ [])
orders_more rs os o are is = record {
  each = AllByRecursion-push (λ (p : Vec Spot Global). IsOrder rs p.items) os o are.each is;
}

pub runs_more : (rs : Records) (os : List (Vec Spot Global)) (o : Vec Spot Global) →
    runs_named rs (os ++ o ∷ []) ≡ runs_named rs os ++ records_at rs o.items ∷ []
runs_more rs os o = map-append (λ (p : Vec Spot Global). records_at rs p.items) os (o ∷ [])

pub runs_long : (rs : Records) (os : List (Vec Spot Global)) → length (runs_named rs os) ≡ length os
runs_long rs os = length-map os (λ (p : Vec Spot Global). records_at rs p.items)

pub next_run : (rs : Records) (os : List (Vec Spot Global)) (n : ℕ) (o : Vec Spot Global) → n < length os →
    o ≡ get_or os n o → slice_get (drop n (runs_named rs os)) 0 ≡ Some (records_at rs o.items)
next_run rs [] n o less is = absurd (omega arith)
next_run rs (p ∷ os) zero o less is = ap (λ (q : Vec Spot Global). Some (records_at rs q.items)) (sym is)
next_run rs (p ∷ os) (suc n) o less is = next_run rs os n o (omega arith) is
