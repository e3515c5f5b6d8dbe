use Rattle.std.proofs.Common.{subst}
use Rattle.std.proofs.lemmas.Result.{IfOk-weaker}
use Rattle.am_index_parts.specs.Catalogs.{AllStandIn}
use Rattle.am_index_parts.specs.Partitions.{Partitions}
use Rattle.am_index_parts.proofs.parts.Parts.parts_in.Goals as goal

pub returns-clause-every : goal.returns-clause-every
returns-clause-every g c =
    IfOk-weaker c.parts_in.result _ _ (λ parts all. subst (λ (p : Partitions). AllStandIn p.entries c.args.range
    parts.items) c.self.view_is (all (g.I.PartIndex.entries c.self.inside.index) c.self.invariant.2 c.self.invariant.3
    (c.first_run-first_run.ensures.none_before (g.I.PartIndex.entries c.self.inside.index) c.self.inside.runs
    c.self.invariant.4))) c.parts_in.ensures.every
