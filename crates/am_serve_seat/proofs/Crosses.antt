-- A place may go to another thread.
use denote.Ref.{NamedLft}
use denote.RattleType.{RattleType}
use denote.Param.Send.{IsSend, struct_send, recorded_send, plain_send, shr_send, view_send}
use denote.Struct.Declared as declared
use Rattle.am_latch.proofs.Crosses.{latch_sync}
use Rattle.am_latch.proofs.seat.Seat.TheSendSync as seat
use Rattle.am_latch.specs.contracts.latch.Latch as Latch
use Rattle.am_latch.specs.declared.latch_name.LatchName as latch_name
use Rattle.am_latch_counters.proofs.counters.Counters.TheSendSync as counters
use Rattle.am_latch_counters.proofs.counters.CounterSeat.TheSendSync as counter_seat
use Rattle.am_latch_counters.specs.contracts.counters.Counters as Counters
use Rattle.am_serve_connections.proofs.connections.Connections.TheSendSync as connections
use Rattle.am_serve_connections.proofs.pacer.MergePacer.TheSendSync as pacer
use Rattle.am_serve_connections.proofs.turnstile.Turnstile.TheSendSync as turnstile
use Rattle.am_serve_connections.specs.contracts.connections.Connections as Connections
use Rattle.am_serve_connections.specs.contracts.pacer.MergePacer as MergePacer
use Rattle.am_serve_connections.specs.contracts.turnstile.Turnstile as Turnstile
use Rattle.am_serve_seat.specs.contracts.session_seat.SessionSeat as SessionSeat
use Rattle.am_serve_seat.specs.contracts.session_seat.SessionSeat.TheInside as Inside

pub place_send : (a : NamedLft) (T : RattleType) (g : latch_name.Ghosts T.Denot) → IsSend (SessionSeat.the_row a T g)
place_send a T g = view_send (Inside.the_row a T g) _ _ _ _
    (recorded_send (Inside.the_field a T g).row _ _ (Inside.the_type a T g).to_one
    (struct_send (declared.shape (Inside.the_type a T g)) (
      shr_send _ _ (Latch.the_row T g) (latch_sync T g),
      (
        shr_send _ _ Counters.the_row counters.the_sync,
        (
          seat.the_send T g,
          (
            counter_seat.the_send,
            (
              plain_send _ _ _ _ _,
              (
                shr_send _ _ Turnstile.the_row turnstile.the_sync,
                (
                  shr_send _ _ Connections.the_row connections.the_sync,
                  (shr_send _ _ MergePacer.the_row pacer.the_sync, (plain_send _ _ _ _ _, (plain_send _ _ _ _ _, tt))),
                ),
              ),
            ),
          ),
        ),
      ),
    )))
