use Rattle.am_serve.specs.ServerTraces.{IsSameSeat, HoldsNoReceipt}
use Rattle.am_serve.proofs.InTurn.{turn_served, turn_refused, all_let_go}
use Rattle.am_serve.proofs.turns.serve_in_turn.Goals.{then-drew, else-drew}
use Rattle.am_serve.proofs.turns.serve_in_turn.Goals as goal

pub sessions-preserved : goal.sessions-preserved
sessions-preserved g c =
    let gone : IsSameSeat c.if-drew.session_seat c.let_go.new.self = record {
      number = c.let_go.ensures.same.2;
      receipts = c.let_go.ensures.same.3;
    } in
    let free : HoldsNoReceipt c.let_go.new.self.seat = all_let_go c.if-drew.session_seat c.let_go.new.self
    c.let_go.ensures.same.3 c.let_go.ensures.gone c.let_go.ensures.kept in elim c.if-drew.branch [
      | then-drew w ↦ turn_served _ _ c.args.session_seat.now c.sessions.session_seat c.draw-drew.new.self
          w.serve_at_place.new.session_seat c.if-drew.session_seat c.let_go.new.self c.draw-drew.result
          c.sessions.invariant w.if-drew.true c.draw-drew.ensures w.serve_at_place.ensures.left
          w.serve_at_place.ensures.idle w.serve_at_place.ensures.seat w.session_seat-is gone free
      | else-drew w ↦ turn_refused _ _ c.args.session_seat.now c.sessions.session_seat c.draw-drew.new.self
          c.if-drew.session_seat c.let_go.new.self c.draw-drew.result c.sessions.invariant c.draw-drew.ensures
          w.session_seat-is gone free
    ]
