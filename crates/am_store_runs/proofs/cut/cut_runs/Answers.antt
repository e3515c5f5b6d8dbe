use Rattle.am_store_runs.proofs.Pieces.{cut_to_end}
use Rattle.am_store_runs.proofs.cut.cut_runs.Goals as goal

pub returns-clause-cut : goal.returns-clause-cut
returns-clause-cut c =
    cut_to_end c.args.n c.args.records.now c.loop-run.runs.items c.loop-run.cut c.loop-run.invariant
    c.in_default.ensures.run
