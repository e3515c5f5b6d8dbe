use Rattle.std.proofs.Common.{ℕ, List, length, ◌-◌, ◌^◌, ◌<◌, ◌≤◌, take, drop, sym, ap, ◌∙◌, subst, arith}
use Rattle.std.proofs.lemmas.List.{length-take-le, length-drop}
use Rattle.am_index_leaf.specs.Leaf.{entries_of}
use Rattle.am_index.specs.Entries.{IsRising}
use Rattle.am_index.proofs.Lists.{rising-take}
use Rattle.am_index_leaf.proofs.BitLemmas.{cut_below, rest_below}
use Rattle.am_index_leaf.proofs.RisingEntries.{rising-drop}
use Rattle.am_index_leaf.proofs.Zips.{entries_of-take, entries_of-drop}
use Rattle.am_index_leaf.proofs.Leaves.{alike, counted, no_places, no_values}
use Rattle.am_index_leaf.specs.LeafCode.{Seen}
use Rattle.am_index_leaf.proofs.FittingValues.{fit_now}
use Rattle.am_record.proofs.Lists.{AllByRecursion-take, AllByRecursion-drop}
use Rattle.am_index_leaf.proofs.leaf.RawLeaf.split_into.Goals as goal

pub split_into-requires-clause-empty : goal.split_into-requires-clause-empty
split_into-requires-clause-empty c = no_places c.other.inside c.other.invariant
    ((ap (λ (s : Seen). s.entries) c.other.view_is) ∙ c.requires.empty)

pub split_into-requires-2-clause-empty : goal.split_into-requires-2-clause-empty
split_into-requires-2-clause-empty c = no_values c.other.inside c.other.invariant
    ((ap (λ (s : Seen). s.entries) c.other.view_is) ∙ c.requires.empty)

pub returns-clause-front : goal.returns-clause-front
returns-clause-front c =
    let a = c.self.inside in let held = c.self.invariant in let at = c.args.at in
    (λ j. entries_of (c.split_into.ensures.front j) (c.split_into-2.ensures.front j) (c.split_bits.ensures.below j))
    ∙ entries_of-take at a.places.items a.values.items a.ghosts
    ∙ ap (take at) (ap (λ (s : Seen). s.entries) c.self.view_is)

pub returns-clause-back : goal.returns-clause-back
returns-clause-back c =
    let a = c.self.inside in let held = c.self.invariant in let at = c.args.at in
    (λ j. entries_of (c.split_into.ensures.back j) (c.split_into-2.ensures.back j) (c.split_bits.ensures.above j))
    ∙ entries_of-drop at a.places.items a.values.items a.ghosts (alike a held)
    ∙ ap (drop at) (ap (λ (s : Seen). s.entries) c.self.view_is)

pub invariant_of-self : goal.invariant_of-self
invariant_of-self c =
    let a = c.self.inside in let held = c.self.invariant in let at = c.args.at in
    let le : at ≤ a.len = omega (
      arith,
      counted a held _ (ap (λ (s : Seen). s.entries) c.self.view_is),
      c.requires.in_range,
    ) in
    record {
      places = ap length c.split_into.ensures.front ∙ length-take-le at a.places.items (omega (arith, held.places));
      values = ap length c.split_into-2.ensures.front ∙ length-take-le at a.values.items (omega (arith, held.values));
      most = omega (arith, held.most);
      ghosts = subst (λ (m : ℕ). m < 2 ^ at) (sym c.split_bits.ensures.below) (cut_below a.ghosts at);
      fit = fit_now a.values.room _ c.split_into-2.ensures.room c.split_into-2.ensures.front
          (AllByRecursion-take (λ (v : List ℕ). length v ≤ a.values.room) at a.values.items held.fit);
      rising = subst IsRising (sym (returns-clause-front c))
          (rising-take at c.args.self.now.entries (subst IsRising (ap (λ (s : Seen). s.entries) c.self.view_is)
          held.rising));
    }

pub invariant_of-other : goal.invariant_of-other
invariant_of-other c =
    let a = c.self.inside in let held = c.self.invariant in let at = c.args.at in
    let le : at ≤ a.len = omega (
      arith,
      counted a held _ (ap (λ (s : Seen). s.entries) c.self.view_is),
      c.requires.in_range,
    ) in
    record {
      places = ap length c.split_into.ensures.back ∙ omega (arith, length-drop at a.places.items, held.places);
      values = ap length c.split_into-2.ensures.back ∙ omega (arith, length-drop at a.values.items, held.values);
      most = omega (arith, held.most);
      ghosts = subst (λ (m : ℕ). m < 2 ^ (a.len - at)) (sym c.split_bits.ensures.above)
          (rest_below a.ghosts at a.len le held.ghosts);
      fit = fit_now a.values.room _ (c.split_into-2.ensures.other_room ∙
          ap (λ (s : Seen). s.value_room) c.other.view_is ∙ c.requires.alike.values ∙
          sym (ap (λ (s : Seen). s.value_room) c.self.view_is)) c.split_into-2.ensures.back
          (AllByRecursion-drop (λ (v : List ℕ). length v ≤ a.values.room) at a.values.items held.fit);
      rising = subst IsRising (sym (returns-clause-back c))
          (rising-drop at c.args.self.now.entries (subst IsRising (ap (λ (s : Seen). s.entries) c.self.view_is)
          held.rising));
    }
