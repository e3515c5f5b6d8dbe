use Rattle.std.proofs.Common.{ℕ, length, ◌^◌, ◌<◌, sym, ap, ◌∙◌, subst, arith}
use Rattle.std.proofs.lemmas.List.{length-set}
use Rattle.am_index_leaf.specs.Leaf.{entries_of}
use Rattle.am_index_leaf.specs.Changes.{set_at}
use Rattle.am_index.specs.Entries.{IsRising}
use Rattle.am_index_leaf.proofs.BitLemmas.{changed_below}
use Rattle.am_index_leaf.proofs.RisingEntries.{rising-set_at}
use Rattle.am_index_leaf.proofs.Zips.{entries_of-set}
use Rattle.am_index_leaf.proofs.Leaves.{alike, counted}
use Rattle.am_index_leaf.specs.LeafCode.{Seen}
use Rattle.am_index_leaf.proofs.FittingValues.{fit_now, fit_set}
use Rattle.am_index_leaf.proofs.leaf.RawLeaf.set_at.Goals as goal

pub returns-clause-entries : goal.returns-clause-entries
returns-clause-entries c =
    let a = c.self.inside in let held = c.self.invariant in let at = c.args.at in
    (λ j. entries_of a.places.items (c.set.ensures.items j) (c.change_bit-self-inside.ensures j))
    ∙ entries_of-set a.places.items a.values.items a.ghosts at c.args.value c.args.is_ghost (alike a held)
    (omega (arith, held.places, counted a held _ (ap (λ (s : Seen). s.entries) c.self.view_is), c.requires.in_range))
    ∙ ap (λ l. set_at l at c.args.value c.args.is_ghost) (ap (λ (s : Seen). s.entries) c.self.view_is)

pub invariant_of-self : goal.invariant_of-self
invariant_of-self c =
    let a = c.self.inside in let held = c.self.invariant in let at = c.args.at in
    let rising : IsRising c.args.self.now.entries = subst IsRising (ap (λ (s : Seen). s.entries) c.self.view_is)
    held.rising in
    let below = changed_below a.ghosts at a.len c.args.is_ghost
    (omega (arith, counted a held _ (ap (λ (s : Seen). s.entries) c.self.view_is), c.requires.in_range))
    held.ghosts in
    record {
      places = held.places;
      values = ap length c.set.ensures.items ∙ length-set a.values.items at c.args.value ∙ held.values;
      most = held.most;
      ghosts = subst (λ (m : ℕ). m < 2 ^ a.len) (sym c.change_bit-self-inside.ensures) below;
      fit = fit_now a.values.room _ c.set.ensures.room c.set.ensures.items
          (fit_set a.values.room a.values.items at c.args.value held.fit
          (omega (arith, c.requires.fits, ap (λ (s : Seen). s.value_room) c.self.view_is)));
      rising = subst IsRising (sym (returns-clause-entries c))
          (rising-set_at c.args.self.now.entries at c.args.value c.args.is_ghost rising);
    }
