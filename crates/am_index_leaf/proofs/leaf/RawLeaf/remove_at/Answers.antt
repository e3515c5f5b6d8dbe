use Rattle.std.proofs.Common.{◌≡◌, ℕ, ◌-◌, ◌^◌, ◌<◌, List, length, suc, get_or, sym, ap, ◌∙◌, subst, arith}
use Rattle.std.proofs.lemmas.List.Edits.{length-remove}
use Rattle.std.specs.List.{remove}
use Rattle.am_index_leaf.specs.Leaf.{entries_of}
use Rattle.am_index.specs.Entries.{IsRising}
use Rattle.am_index_leaf.proofs.BitLemmas.{removed_below}
use Rattle.am_index_leaf.proofs.RisingEntries.{rising-remove}
use Rattle.am_index_leaf.proofs.Zips.{entry_of, entries_of-at, entries_of-remove}
use Rattle.am_index_leaf.proofs.Leaves.{alike, counted}
use Rattle.am_index_leaf.specs.LeafCode.{Seen}
use Rattle.am_index_leaf.proofs.FittingValues.{fit_now, fit_removed}
use Rattle.am_index_leaf.proofs.leaf.RawLeaf.remove_at.Goals as goal

shorter : {X : Type 0} (xs : List X) (i : ℕ) {ys : List X} {n : ℕ} → length xs ≡ n → ys ≡ remove xs i → i < n →
    length ys ≡ n - 1
shorter xs i e is lt = let less = length-remove xs i (omega arith) in ap length is ∙ omega arith

pub returns-clause-entry : goal.returns-clause-entry
returns-clause-entry c =
    let a = c.self.inside in let held = c.self.invariant in let at = c.args.at in
    let p = c.remove-part.result in let v = c.remove-value.result in
    let e = entry_of p v c.has_bit-is_ghost.result in
    (λ j. entry_of (c.remove-part.ensures.element j) (c.remove-value.ensures.element j) (c.has_bit-is_ghost.ensures j))
    ∙ sym (entries_of-at a.places.items a.values.items a.ghosts at p v e (alike a held)
    (omega (arith, held.places, counted a held _ (ap (λ (s : Seen). s.entries) c.self.view_is), c.requires)))
    ∙ ap (λ l. get_or l at e) (ap (λ (s : Seen). s.entries) c.self.view_is)

pub returns-clause-others : goal.returns-clause-others
returns-clause-others c =
    let a = c.self.inside in let held = c.self.invariant in let at = c.args.at in
    (λ j. entries_of (c.remove-part.ensures.others j) (c.remove-value.ensures.others j)
    (c.remove_bit-self-inside.ensures j))
    ∙ entries_of-remove a.places.items a.values.items a.ghosts at (alike a held)
    (omega (arith, held.places, counted a held _ (ap (λ (s : Seen). s.entries) c.self.view_is), c.requires))
    ∙ ap (λ l. remove l at) (ap (λ (s : Seen). s.entries) c.self.view_is)

pub invariant_of-self : goal.invariant_of-self
invariant_of-self c =
    let a = c.self.inside in let held = c.self.invariant in let at = c.args.at in
    let n = counted a held _ (ap (λ (s : Seen). s.entries) c.self.view_is) in
    let rising : IsRising c.args.self.now.entries = subst IsRising (ap (λ (s : Seen). s.entries) c.self.view_is)
    held.rising in
    let some : suc (a.len - 1) ≡ a.len = omega (arith, n, c.requires) in
    let below = removed_below a.ghosts at (a.len - 1) (omega (arith, n, c.requires))
    (subst (λ (k : ℕ). a.ghosts < 2 ^ k) (sym some) held.ghosts) in
    let lt : at < a.len = omega (arith, n, c.requires) in
    record {
      places = shorter a.places.items at held.places c.remove-part.ensures.others lt;
      values = shorter a.values.items at held.values c.remove-value.ensures.others lt;
      most = omega (arith, held.most);
      ghosts = subst (λ (m : ℕ). m < 2 ^ (a.len - 1)) (sym c.remove_bit-self-inside.ensures) below;
      fit = fit_now a.values.room _ c.remove-value.ensures.room c.remove-value.ensures.others
          (fit_removed a.values.room a.values.items at held.fit);
      rising = subst IsRising (sym (returns-clause-others c))
          (rising-remove c.args.self.now.entries at rising c.requires);
    }
