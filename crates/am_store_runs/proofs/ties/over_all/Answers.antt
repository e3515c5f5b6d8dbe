use Rattle.std.proofs.Common.{subst}
use Rattle.std.specs.Prelude.{MatchOption}
use Rattle.am_store_runs.specs.Cuts.{keys_of, NoneTwice, IsLeastTwice}
use Rattle.am_store_runs.proofs.Pieces.{only_memory}
use Rattle.am_store_runs.proofs.ties.over_all.Goals as goal

pub returns-in-Ok-None : goal.returns-in-Ok-None
returns-in-Ok-None g c =
    let keys = keys_of (g.S.RecordSource.records c.args.source.now) in
    only_memory (g.S.RecordSource.records c.args.source.now) c.args.fault c.requires
    (subst (λ found. MatchOption found (NoneTwice keys) (IsLeastTwice keys)) c.in-Ok-None.field-0-is
    c.in-Ok-None.ensures)
