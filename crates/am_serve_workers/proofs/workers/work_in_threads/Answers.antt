use Rattle.std.proofs.Common.{rules}
use denote.Exit.{no}
use denote.Param.{param}
use denote.Param.Send.{arg_sync, param_sync, shr_sync, sendable}
use denote.Struct.Field.{u64-field}
use Rattle.am_latch.proofs.Crosses.{latch_sync}
use Rattle.am_latch.specs.contracts.latch.Latch as Latch
use Rattle.am_serve_workers.proofs.Crosses.{captures_sync}
use Rattle.am_serve_workers.proofs.Gains.{all_turned}
use Rattle.am_serve_connections.proofs.turns.Upkeep.TheSendSync as upkeep
use Rattle.am_serve_connections.specs.contracts.turns.Upkeep as Upkeep
use Rattle.am_serve_workers.proofs.workers.work_in_threads.Goals as goal

pub for_each_mut-requires-sync-F : goal.for_each_mut-requires-sync-F
for_each_mut-requires-sync-F g c κs within = param_sync _ _ (arg_sync _ no _ (captures_sync _ _ _ _ _ _ _
    (shr_sync _ _ (param 1 g.row.R) (search (c.type_bounds, sendable) depth 10))
    (shr_sync _ _ (Latch.the_row (param 0 g.row.L) g.L.LatchName) (latch_sync (param 0 g.row.L) g.L.LatchName))
    (shr_sync _ _ u64-field.row (search sendable depth 10))
    (shr_sync _ _ u64-field.row (search sendable depth 10))
    (shr_sync _ _ Upkeep.the_row upkeep.the_sync)
    (shr_sync _ _ (param 2 g.row.G) (search (c.type_bounds, sendable) depth 10))))

pub returns : goal.returns
returns g c = all_turned _ _ _ _ _ c.for_each_mut.auto.s (λ i d lt. search rules)
