use Rattle.std.proofs.Common.{◌∙◌, ℕ, rules, sym, subst, ap, length, arith, All, List}
use denote.Exit.{no}
use denote.Param.{param}
use denote.Param.Send.{arg_send, param_send, shr_send, sendable}
use Rattle.am_latch.proofs.Crosses.{latch_sync}
use Rattle.am_latch.specs.contracts.latch.Latch as Latch
use Rattle.am_serve_connections.specs.contracts.shared_state.SharedState as SharedState
use Rattle.am_serve_seat.specs.Seats.{IsNewSeat}
use Rattle.am_latch.specs.Receipts.{SeatState}
use Rattle.am_serve_connections.specs.Lifetimes.{most_sessions}
use Rattle.am_serve.specs.ServerTraces.{HasStored, IsOfSessions}
use Rattle.am_serve_seat.proofs.SeatOrder.{all_new, count_back, all_there, joined_seats, length-numbered}
use Rattle.am_serve.proofs.WorkedSeats.{all_of_workers, more_runs}
use Rattle.am_serve.proofs.InTurn.{all_came_back, all_of_turns, as_many_served}
use Rattle.am_serve_drain.proofs.TakenPieces.{taken_at_first}
use Rattle.am_serve.proofs.Crosses.{captures_send}
use Rattle.am_serve_connections.proofs.shared_state.SharedState.TheSendSync as shared
use Rattle.am_serve.proofs.server.Beside.TheSendSync as beside
use Rattle.am_serve.proofs.server.run.Goals as goal

pub join-beside-requires-send-F : goal.join-beside-requires-send-F
join-beside-requires-send-F g c κs within = param_send _ _ (arg_send _ no _ (captures_send _ _ _ _ _
    (shr_send _ _ (param 1 g.row.R) (search (c.type_bounds, sendable) depth 10))
    (shr_send _ _ (Latch.the_row (param 0 g.row.L) g.L.LatchName) (latch_sync (param 0 g.row.L) g.L.LatchName))
    (shr_send _ _ (SharedState.the_row _)
    (shared.the_sync _))
    (beside.the_send (param 0 g.row.L) (param 2 g.row.T) (param 3 g.row.V) g.L.LatchName g.T.PieceTaker g.V.Watcher
    (search (c.type_bounds, sendable) depth 10) (search (c.type_bounds, sendable) depth 10))))

pub assign_seats-requires-clause-fresh : goal.assign_seats-requires-clause-fresh
assign_seats-requires-clause-fresh g c = subst (All IsNewSeat) (sym c.in-Ok.ensures.seats) (all_new g.L.LatchName.seats)

pub assign_seats-requires-clause-runs : goal.assign_seats-requires-clause-runs
assign_seats-requires-clause-runs g c = more_runs c.args.shared.now.lifetime g.L.LatchName.most_runs c.requires.runs

pub assign_seats-requires-clause-few : goal.assign_seats-requires-clause-few
assign_seats-requires-clause-few g c = omega (
  arith,
  c.requires.few,
  ap length c.in-Ok.ensures.seats,
  length-numbered g.L.LatchName.seats,
)

pub take_seats-requires : goal.take_seats-requires
take_seats-requires g c =
    let back = all_came_back c.args.shared.now.lifetime c.args.shared.now.runs g.L.LatchName.most_runs
    (most_sessions c.args.shared.now.lifetime)
    c.in_ok-session_seats.session_seats.items c.join-beside.result.1.items
    c.in_ok-session_seats.worker_seats.items c.join-beside.result.0.worker_seats.items c.in-Ok.seats.items
    c.join-beside.ensures.second c.join-beside.ensures.first.1 c.in_ok-session_seats.ensures.seats in
    let all = count_back c.join-beside.result.1.items c.join-beside.result.0.worker_seats.items c.in-Ok.seats.items
    back in
    omega (arith, all, c.new-all.ensures.len, c.reserve.ensures.len, c.in_ok-reserve.ensures.ok, c.len.ensures)

pub unreachable-requires : goal.unreachable-requires
unreachable-requires g c =
    let back = all_came_back c.args.shared.now.lifetime c.args.shared.now.runs g.L.LatchName.most_runs
    (most_sessions c.args.shared.now.lifetime)
    c.in_ok-session_seats.session_seats.items c.join-beside.result.1.items
    c.in_ok-session_seats.worker_seats.items c.join-beside.result.0.worker_seats.items c.in-Ok.seats.items
    c.join-beside.ensures.second c.join-beside.ensures.first.1 c.in_ok-session_seats.ensures.seats in
    let all = count_back c.join-beside.result.1.items c.join-beside.result.0.worker_seats.items c.in-Ok.seats.items
    back in
    omega (
      arith,
      all,
      c.new-all.ensures.len,
      c.reserve.ensures.len,
      c.in_ok-reserve.ensures.ok,
      c.len.ensures,
      c.take_seats.ensures.len,
      c.take_seats.ensures.capacity,
      c.in_default-append.ensures.full,
      c.join-beside.result.0.worker_seats.ok,
    )

pub close_all-requires : goal.close_all-requires
close_all-requires g c =
    let back = all_came_back c.args.shared.now.lifetime c.args.shared.now.runs g.L.LatchName.most_runs
    (most_sessions c.args.shared.now.lifetime)
    c.in_ok-session_seats.session_seats.items c.join-beside.result.1.items
    c.in_ok-session_seats.worker_seats.items c.join-beside.result.0.worker_seats.items c.in-Ok.seats.items
    c.join-beside.ensures.second c.join-beside.ensures.first.1 c.in_ok-session_seats.ensures.seats in
    all_there g.L.LatchName.seats c.append.new.self.items c.take_seats.new.all.items c.reserve.new.self.items
    c.join-beside.result.0.worker_seats.items c.in-Ok.seats.items
    c.join-beside.result.1.items c.in-Ok-append.ensures.items c.take_seats.ensures.seats
    (◌∙◌ {A = List SeatState} c.reserve.ensures.items c.new-all.ensures.items) back c.in-Ok.ensures.seats

pub returns : goal.returns
returns g c =
    let served = c.join-beside.result.1.items in
    let worked = c.join-beside.result.0.worker_seats.items in
    let back = all_came_back c.args.shared.now.lifetime c.args.shared.now.runs g.L.LatchName.most_runs
    (most_sessions c.args.shared.now.lifetime)
    c.in_ok-session_seats.session_seats.items served c.in_ok-session_seats.worker_seats.items worked c.in-Ok.seats.items
    c.join-beside.ensures.second c.join-beside.ensures.first.1 c.in_ok-session_seats.ensures.seats in
    let seats = joined_seats c.append.new.self.items c.take_seats.new.all.items c.reserve.new.self.items worked served
    c.in-Ok-append.ensures.items c.take_seats.ensures.seats
    (◌∙◌ {A = List SeatState} c.reserve.ensures.items c.new-all.ensures.items) in
    record {
      sessions = served;
      workers = worked;
      all_sessions = as_many_served g.L.LatchName.most_runs (most_sessions c.args.shared.now.lifetime)
          c.in_ok-session_seats.session_seats.items
          served
          c.join-beside.ensures.second ∙ c.in_ok-session_seats.ensures.count;
      all_workers = omega (
        arith,
        count_back served worked c.in-Ok.seats.items back,
        as_many_served g.L.LatchName.most_runs (most_sessions c.args.shared.now.lifetime)
            c.in_ok-session_seats.session_seats.items served
            c.join-beside.ensures.second,
        c.in_ok-session_seats.ensures.count,
        ap length c.in-Ok.ensures.seats,
        length-numbered g.L.LatchName.seats,
      );
      served = subst (λ (n : ℕ). All (IsOfSessions n (most_sessions c.args.shared.now.lifetime)) served) c.requires.runs
          (all_of_turns g.L.LatchName.most_runs (most_sessions c.args.shared.now.lifetime)
          c.in_ok-session_seats.session_seats.items served c.join-beside.ensures.second
          c.in_ok-session_seats.ensures.sessions);
      worked = all_of_workers c.args.shared.now.lifetime c.args.shared.now.runs c.in_ok-session_seats.worker_seats.items
          worked
          c.join-beside.ensures.first.1
          c.in_ok-session_seats.ensures.workers;
      stored = subst (λ (p : ℕ × List SeatState).
          HasStored g.T.PieceTaker.took p.0 c.args.setup.pieces p.1 c.close_all.result)
          (λ i. (c.requires.runs i, seats i))
          (c.close_all.ensures.stored c.args.setup.pieces
          (taken_at_first g.T.PieceTaker.took _ _ _ _ _ _ _ (search rules) (search rules) (search rules)
          c.join-beside.ensures.first.0));
    }
