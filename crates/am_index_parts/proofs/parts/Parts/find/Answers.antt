use Rattle.std.proofs.Common.{◌≡◌, None, sym, ap, ◌∙◌}
use Rattle.am_index.specs.Entries.{find}
use Rattle.am_index_parts.specs.Partitions.{Partitions}
use Rattle.am_index_parts.proofs.KeyLooks.{nothing_in_final}
use Rattle.am_index_parts.proofs.parts.Parts.find.Goals as goal

pub returns-then-not-has_final-clause-found : goal.returns-then-not-has_final-clause-found
returns-then-not-has_final-clause-found g c =
    let none : find c.args.self.now.entries 0 c.args.key ≡ None =
    ap (λ (p : Partitions). find p.entries 0 c.args.key) (sym c.self.view_is) ∙
    nothing_in_final c.args.key c.self.invariant.2.counted (c.has_final.ensures c.if-not-has_final.true) in
    sym none ∙ ap (λ p. find c.args.self.now.entries p c.args.key) (sym c.if-part-eq0.true)
