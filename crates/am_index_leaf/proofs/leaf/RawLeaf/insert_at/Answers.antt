use Rattle.std.proofs.Common.{◌≡◌, ℕ, ◌+◌, ◌^◌, ◌<◌, ◌≤◌, List, length, suc, sym, ap, ◌∙◌, subst, arith}
use Rattle.std.proofs.lemmas.List.Edits.{length-insert}
use Rattle.std.specs.List.{insert}
use Rattle.am_index_leaf.specs.Bits.{inserted_bit}
use Rattle.am_index_leaf.specs.Leaf.{entries_of}
use Rattle.am_index.specs.Entries.{IsRising}
use Rattle.am_index_leaf.proofs.BitLemmas.{inserted_below}
use Rattle.am_index_leaf.proofs.RisingEntries.{rising-insert}
use Rattle.am_index_leaf.proofs.Zips.{entries_of-insert}
use Rattle.am_index_leaf.proofs.Leaves.{alike, counted}
use Rattle.am_index_leaf.specs.LeafCode.{Seen}
use Rattle.am_index_leaf.proofs.FittingValues.{fit_now, fit_inserted}
use Rattle.am_index_leaf.proofs.leaf.RawLeaf.insert_at.Goals as goal

longer : {X : Type 0} (xs : List X) (i : ℕ) (x : X) {ys : List X} {n : ℕ} → length xs ≡ n → ys ≡ insert xs i x → i ≤ n →
    length ys ≡ n + 1
longer xs i x e is le = ap length is ∙ length-insert xs i x (omega arith) ∙ ap (λ k. k + 1) e

pub returns-clause-entries : goal.returns-clause-entries
returns-clause-entries c =
    let a = c.self.inside in let held = c.self.invariant in let at = c.args.at in
    (λ j. entries_of (c.insert.ensures.items j) (c.insert-2.ensures.items j) (c.insert_bit-self-inside.ensures j))
    ∙ entries_of-insert a.places.items a.values.items a.ghosts at _ _ c.args.entry.is_ghost (alike a held)
    (omega (
      arith,
      held.places,
      counted a held _ (ap (λ (s : Seen). s.entries) c.self.view_is),
      c.requires.place.in_range,
    ))
    ∙ ap (λ l. insert l at c.args.entry) (ap (λ (s : Seen). s.entries) c.self.view_is)

pub invariant_of-self : goal.invariant_of-self
invariant_of-self c =
    let a = c.self.inside in let held = c.self.invariant in let at = c.args.at in
    let rising : IsRising c.args.self.now.entries = subst IsRising (ap (λ (s : Seen). s.entries) c.self.view_is)
    held.rising in
    let below = inserted_below a.ghosts at a.len c.args.entry.is_ghost
    (omega (arith, counted a held _ (ap (λ (s : Seen). s.entries) c.self.view_is), c.requires.place.in_range))
    held.ghosts in
    let next : suc a.len ≡ a.len + 1 = omega arith in
    let le : at ≤ a.len = omega (
      arith,
      counted a held _ (ap (λ (s : Seen). s.entries) c.self.view_is),
      c.requires.place.in_range,
    ) in
    record {
      places = longer a.places.items at _ held.places c.insert.ensures.items le;
      values = longer a.values.items at _ held.values c.insert-2.ensures.items le;
      most = omega (arith, counted a held _ (ap (λ (s : Seen). s.entries) c.self.view_is), c.requires.room);
      ghosts = subst (λ (m : ℕ). m < 2 ^ (a.len + 1)) (sym c.insert_bit-self-inside.ensures)
          (subst (λ (k : ℕ). inserted_bit a.ghosts at c.args.entry.is_ghost < 2 ^ k) next below);
      fit = fit_now a.values.room _ c.insert-2.ensures.room c.insert-2.ensures.items
          (fit_inserted a.values.room a.values.items at c.args.entry.value held.fit
          (omega (arith, c.requires.fits.value_fits, ap (λ (s : Seen). s.value_room) c.self.view_is)));
      rising = subst IsRising (sym (returns-clause-entries c))
          (rising-insert c.args.self.now.entries at c.args.entry rising c.requires.place.in_range c.requires.place.below
          c.requires.place.above);
    }
