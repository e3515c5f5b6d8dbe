use Rattle.std.proofs.Common.{◌≡◌, subst}
use Rattle.am_index_parts.specs.Catalogs.{runs_in}
use Rattle.am_index_parts.specs.Partitions.{Partitions}
use Rattle.am_index_parts.proofs.parts.Parts.open_runs.Goals as goal

pub returns-clause-counted : goal.returns-clause-counted
returns-clause-counted g c =
    subst (λ (p : Partitions). c.open_runs.result ≡ runs_in p.entries) c.self.view_is
    (c.open_runs.ensures (g.I.PartIndex.entries c.self.inside.index) c.self.invariant.0.rising c.self.invariant.2)
