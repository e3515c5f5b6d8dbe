-- Spots that are put in order group by group, those of each group having one front.
use Rattle.std.proofs.Common.{◌≡◌, ℕ, ◌<◌, ◌≤◌, true, List, [], ◌∷◌, ◌++◌, length, get_or, take, drop}
use Rattle.std.proofs.Common.{refl, sym, ap, ◌∙◌, subst, arith, append_assoc}
use Rattle.std.proofs.lemmas.List.{append-nil, map-append, take-append-drop}
use Rattle.std.proofs.lemmas.List.Sorted.{IsPermutation-refl, IsPermutation-trans, IsPermutation-append}
use Rattle.std.proofs.lemmas.List.Sorted.{IsPermutation-map, length_permutation}
use Rattle.std.specs.declared.cmp.Ordering.TheVariants.{Less}
use Rattle.std.specs.List.{AllByRecursion}
use Rattle.std.specs.List.Sorted.{IsNonDecreasingBy, IsPermutation}
use Rattle.std.specs.FinMap.{is_sorted}
use Rattle.am_record.specs.KeyFront.{key_front}
use Rattle.am_record.specs.OrderedKey.{OrderedKey, key_cmp, key_least}
use Rattle.am_record.specs.Plain.{Records}
use Rattle.am_record.proofs.FirstRows.{Record}
use Rattle.am_record.proofs.Lists.{AllByRecursion-map, AllByRecursion-append}
use Rattle.am_record.proofs.Lists.{AllByRecursion-take, AllByRecursion-drop}
use Rattle.am_record.proofs.RisingRecords.{Below, sorted_parts, sorted_from, run_sorted, sorted_run}
use Rattle.am_store_runs.specs.Cuts.{IsPieceFault}
use Rattle.am_store_runs.specs.RecordPlaces.{IsSpot, AreSpots, IsOrder, IsGroupAdded, records_at}
use Rattle.am_store_runs.specs.declared.fault.LoadFault.{LoadFault}
use Rattle.am_store_runs.specs.declared.record_order.Spot.{Spot}
use Rattle.am_store_runs.proofs.Groups.{Climbs, alike, climbs_from, climbs_drop, group_alike, above_group, from_first}
use Rattle.am_store_runs.proofs.Orders.{lower, named_long}
use Rattle.am_store_runs.proofs.Pieces.{fault_permuted, fault_of_part}
use Rattle.am_store_runs.proofs.Spots.{all_permuted}

abbrev pub front : Spot → ℕ
front s = s.front

abbrev LiesBelow : List Spot → Spot → Type 0
LiesBelow ts s = AllByRecursion (λ (t : Spot). s.front < t.front) ts

-- those that are done rise by key, their fronts are below those of the spots that are left, and these don't fall
pub record IsSettling (rs : Records) (spots done left : List Spot) : Type 0 where
  pub are : AreSpots rs done
  pub others : AreSpots rs left
  pub same : IsPermutation spots (done ++ left)
  pub rising : is_sorted key_cmp (records_at rs done) ≡ true
  pub climbs : Climbs front left
  pub below : AllByRecursion (LiesBelow left) done

pub settling_begins : (rs : Records) (spots : List Spot) → AreSpots rs spots → IsNonDecreasingBy front spots →
    IsSettling rs spots [] spots
settling_begins rs spots are climbs = record {
  are = record { each = tt };
  others = are;
  same = IsPermutation-refl spots;
  rising = refl;
  climbs = climbs_from front spots climbs;
  below = tt;
}

records_at-append : (rs : Records) (ss ts : List Spot) → records_at rs (ss ++ ts) ≡ records_at rs ss ++ records_at rs ts
records_at-append rs ss ts = map-append (λ (s : Spot). get_or rs s.place (key_least, [])) ss ts

module _ (follow : (a b : OrderedKey) → key_front a < key_front b → key_cmp a b ≡ Less) (rs : Records) where
  below_named : (s : Spot) (ts : List Spot) → IsSpot rs s → AllByRecursion (IsSpot rs) ts → LiesBelow ts s →
      Below (get_or rs s.place (key_least, [])).0 (records_at rs ts)
  below_named s [] is are below = tt
  below_named s (t ∷ ts) is are below =
      (lower follow rs s t is are.0 below.0, below_named s ts is are.1 below.1)

  -- spots that rise, and after them others with higher fronts that do
  sorted_both : (ss ts : List Spot) → AllByRecursion (IsSpot rs) ss → AllByRecursion (IsSpot rs) ts →
      is_sorted key_cmp (records_at rs ss) ≡ true → is_sorted key_cmp (records_at rs ts) ≡ true →
      AllByRecursion (LiesBelow ts) ss → is_sorted key_cmp (records_at rs (ss ++ ts)) ≡ true
  sorted_both [] ts are others rising then below = then
  sorted_both (s ∷ ss) ts are others rising then below =
      let r : Record = get_or rs s.place (key_least, []) in
      let parts = sorted_parts r (records_at rs ss) rising in
      sorted_from r (records_at rs (ss ++ ts))
      (subst (Below r.0) (sym (records_at-append rs ss ts))
      (AllByRecursion-append (λ (q : Record). key_cmp r.0 q.0 ≡ Less) (records_at rs ss) (records_at rs ts) parts.0
      (below_named s ts are.0 others below.0)))
      (sorted_both ss ts are.1 others parts.1 then below.1)

  -- the next group is done
  pub group_settled : {spots done left after : List Spot} (n : ℕ) (d : Spot) → IsSettling rs spots done left →
      1 ≤ length left → n ≡ (get_or left 0 d).front →
      IsGroupAdded rs done (take (alike front n left) left) after →
      IsSettling rs spots after (drop (alike front n left) left)
  group_settled {spots} {done} {left} {after} n d h some first added =
      let k = alike front n left in
      let group = take k left in
      let rest = drop k left in
      let order = added.order in
      let above : AllByRecursion (λ (t : Spot). n < t.front) rest =
      above_group front n left (from_first front n d left some first h.climbs) h.climbs in
      let same_front : AllByRecursion (λ (s : Spot). s.front ≡ n) order =
      all_permuted (λ (s : Spot). s.front ≡ n) group order added.same (group_alike front n left) in
      let split : done ++ left ≡ done ++ (group ++ rest) = ap (λ (l : List Spot). done ++ l)
      (sym (take-append-drop k left)) in
      let before : AllByRecursion (LiesBelow group) done = AllByRecursion-map (LiesBelow left) (LiesBelow group)
      (λ s all. AllByRecursion-take (λ (t : Spot). s.front < t.front) k left all) done h.below in
      let below_order : AllByRecursion (LiesBelow order) done = AllByRecursion-map (LiesBelow group) (LiesBelow order)
      (λ s all. all_permuted (λ (t : Spot). s.front < t.front) group order added.same all) done before in
      let below_rest : AllByRecursion (LiesBelow rest) done = AllByRecursion-map (LiesBelow left) (LiesBelow rest)
      (λ s all. AllByRecursion-drop (λ (t : Spot). s.front < t.front) k left all) done h.below in
      let group_below : AllByRecursion (LiesBelow rest) order =
      AllByRecursion-map (λ (s : Spot). s.front ≡ n) (LiesBelow rest)
      (λ s same. AllByRecursion-map (λ (t : Spot). n < t.front) (λ (t : Spot). s.front < t.front)
      (λ t less. omega (arith, same, less)) rest above) order same_front in
      let moved : IsPermutation (done ++ (group ++ rest)) (done ++ (order ++ rest)) =
      IsPermutation-append done done (group ++ rest) (order ++ rest) (IsPermutation-refl done)
      (IsPermutation-append group order rest rest added.same (IsPermutation-refl rest)) in
      let all : (done ++ order) ++ rest ≡ after ++ rest = ap (λ (l : List Spot). l ++ rest) (sym added.all) in
      record {
        are = record {
          each = subst (AllByRecursion (IsSpot rs)) (sym added.all)
              (AllByRecursion-append (IsSpot rs) done order h.are.each added.is.are.each);
        };
        others = record { each = AllByRecursion-drop (IsSpot rs) k left h.others.each };
        same = IsPermutation-trans spots (done ++ left) (after ++ rest) h.same
            (subst (λ (l : List Spot). IsPermutation (done ++ left) l) (sym (append_assoc done order rest) ∙ all)
            (subst (λ (l : List Spot). IsPermutation l (done ++ (order ++ rest))) (sym split) moved));
        rising = ap (λ (l : List Spot). is_sorted key_cmp (records_at rs l)) added.all
            ∙ sorted_both done order h.are.each added.is.are.each h.rising
            (run_sorted (records_at rs order) added.is.rising) below_order;
        climbs = climbs_drop front k left h.climbs;
        below = subst (AllByRecursion (LiesBelow rest)) (sym added.all)
            (AllByRecursion-append (LiesBelow rest) done order below_rest group_below);
      }

-- no spot is left
settled_same : {rs : Records} {spots done : List Spot} (left : List Spot) → IsSettling rs spots done left →
    length left < 1 → IsPermutation spots done
settled_same {rs} {spots} {done} [] h none = subst (IsPermutation spots) (append-nil done) h.same
settled_same (t ∷ left) h none = absurd (omega (arith, none))

pub settled_order : {rs : Records} {spots done : List Spot} (left : List Spot) → IsSettling rs spots done left →
    length left < 1 → 0 < length spots → IsOrder rs done
settled_order {rs} {spots} {done} left h none some = record {
  are = h.are;
  rising = sorted_run (records_at rs done)
      (omega (arith, some, named_long rs done, length_permutation spots done (settled_same left h none))) h.rising;
}

-- ---- what keeps a group from being put in order

pub fault_of_group : {rs : Records} {spots done left : List Spot} (k : ℕ) (fault : LoadFault) →
    IsSettling rs spots done left → IsPieceFault (records_at rs (take k left)) fault →
    IsPieceFault (records_at rs spots) fault
fault_of_group {rs} {spots} {done} {left} k fault h is =
    let group = take k left in
    let rest = drop k left in
    let split : records_at rs (done ++ left) ≡ records_at rs done ++ (records_at rs group ++ records_at rs rest) =
    records_at-append rs done left
    ∙ ap (λ (l : List Spot). records_at rs done ++ records_at rs l) (sym (take-append-drop k left))
    ∙ ap (λ (l : Records). records_at rs done ++ l) (records_at-append rs group rest) in
    fault_permuted (records_at rs spots) (records_at rs (done ++ left)) fault
    (IsPermutation-map (λ (s : Spot). get_or rs s.place (key_least, [])) spots (done ++ left) h.same)
    (subst (λ (l : Records). IsPieceFault l fault) (sym split)
    (fault_of_part (records_at rs done) (records_at rs group) (records_at rs rest) fault is))
