use Rattle.std.proofs.Common.{sym, ap, ◌∙◌}
use Rattle.am_index.specs.Entries.{find}
use Rattle.am_index_parts.specs.Partitions.{Partitions}
use Rattle.am_index_parts.proofs.KeyLooks.{nothing_in_final}
use Rattle.am_index_parts.proofs.parts.Parts.look_in_final.Goals as goal

pub returns-then-not-has_final-clause-found : goal.returns-then-not-has_final-clause-found
returns-then-not-has_final-clause-found g c =
    sym (ap (λ (p : Partitions). find p.entries 0 c.args.key) (sym c.self.view_is) ∙
    nothing_in_final c.args.key c.self.invariant.2.counted (c.has_final.ensures c.if-not-has_final.true))
