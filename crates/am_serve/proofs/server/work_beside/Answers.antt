use denote.Exit.{no}
use denote.Param.{param}
use denote.Param.Send.{arg_send, param_send, shr_send, sendable}
use Rattle.am_latch.proofs.Crosses.{latch_sync}
use Rattle.am_latch.specs.contracts.latch.Latch as Latch
use Rattle.am_serve_connections.specs.contracts.shared_state.SharedState as SharedState
use Rattle.am_serve.proofs.Crosses.{captures_send}
use Rattle.am_serve_connections.proofs.shared_state.SharedState.TheSendSync as shared
use Rattle.am_serve_drain.proofs.drain.Drain.TheSendSync as drain
use Rattle.am_serve.proofs.server.work_beside.Goals as goal

pub join-drain-requires-send-F : goal.join-drain-requires-send-F
join-drain-requires-send-F g c κs within = param_send _ _ (arg_send _ no _ (captures_send _ _ _ _ _
    (drain.the_send (param 0 g.row.L) (param 2 g.row.T) (param 3 g.row.V) g.L.LatchName g.T.PieceTaker g.V.Watcher
    (search (c.type_bounds, sendable) depth 10) (search (c.type_bounds, sendable) depth 10))
    (shr_send _ _ (param 1 g.row.R) (search (c.type_bounds, sendable) depth 10))
    (shr_send _ _ (Latch.the_row (param 0 g.row.L) g.L.LatchName) (latch_sync (param 0 g.row.L) g.L.LatchName))
    (shr_send _ _ (SharedState.the_row _)
    (shared.the_sync _))))
