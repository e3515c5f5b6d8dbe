use Rattle.std.proofs.Common.{ap, ◌∙◌, sym, drop}
use Rattle.std.proofs.lemmas.List.{drop-drop}
use Rattle.am_store_runs.specs.RecordPlaces.{runs_named}
use Rattle.am_store_runs.proofs.cut.Cut.pass.Goals as goal

pub returns-then-self-len : goal.returns-then-self-len
returns-then-self-len g c =
    sym (drop-drop 1 c.self.inside.passed (runs_named (g.S.RecordSource.records c.self.inside.source.now)
    c.self.inside.orders.items)) ∙ ap (drop 1) c.self.view_is
