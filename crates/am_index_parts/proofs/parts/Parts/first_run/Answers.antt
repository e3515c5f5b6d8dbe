use Rattle.std.proofs.Common.{subst}
use Rattle.am_index_parts.specs.MergedRanges.{HasNoneBefore}
use Rattle.am_index_parts.specs.Partitions.{Partitions}
use Rattle.am_index_parts.proofs.parts.Parts.first_run.Goals as goal

pub returns-clause-none_before : goal.returns-clause-none_before
returns-clause-none_before g c =
    subst (λ (p : Partitions). HasNoneBefore p.entries c.args.range c.first_run.result) c.self.view_is
    (c.first_run.ensures.none_before (g.I.PartIndex.entries c.self.inside.index) c.self.inside.runs
    c.self.invariant.4)
