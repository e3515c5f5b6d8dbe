use Rattle.am_record.specs.Sessions.{active_after}
use Rattle.std.proofs.Common.{◌∙◌, ap, refl, List}
use Rattle.am_latch_ties.specs.declared.receipt.Receipt.{Receipt}
use Rattle.am_latch.specs.Ties.{open_of}
use Rattle.am_serve_seat.specs.SessionSeats.{SessionSeatState, open_at}
use Rattle.am_serve_seat.proofs.Calls.{active_behind, makes_call}
use Rattle.am_serve_seat.proofs.session_seat.SessionSeatBackend.call.Goals as goal

pub returns-clause-steps : goal.returns-clause-steps
returns-clause-steps g c = makes_call _ _ _ _ _ c.hold_few.new.seat _ _ c.self.view_is c.hold_few.ensures
    c.call_on-reply.ensures.called c.call_on-reply.ensures.memory c.publish.ensures refl

pub returns-clause-active : goal.returns-clause-active
returns-clause-active g c =
    active_behind _ c.call_on-reply.new.self c.args.step c.call_on-reply.result c.call_on-reply.ensures.bounded
    c.call_on-reply.ensures.called
    ∙ ap (λ (rs : List Receipt). active_after (open_of rs) c.call_on-reply.result) c.hold_few.ensures.receipts
    ∙ ap (λ (p : SessionSeatState). active_after (open_at p) c.call_on-reply.result) c.self.view_is
