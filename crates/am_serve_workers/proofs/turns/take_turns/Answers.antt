use Rattle.std.proofs.Common.{arith, refl}
use Rattle.am_serve_workers.proofs.Gains.{unturned, turned_on, at_most, one_taken, one_turn_more}
use Rattle.am_serve_workers.proofs.turns.take_turns.Goals as goal

pub loop-turn-init : goal.loop-turn-init
loop-turn-init g c = record {
  turned = unturned _ _ _ _;
  on = ((λ i. record { clean = c.front_of.ensures i; read = c.front.ensures i }), refl);
}

pub loop-turn-preserved : goal.loop-turn-preserved
loop-turn-preserved g c =
    record {
      turned = turned_on _ _ _ _ _ _ _ c.loop-turn.invariant.turned
          (one_taken _ _ _ _ _ _ _ _ _ c.take_turn-done.ensures);
      on = one_turn_more _ _ _ _ _ _ _ _ _ _ _ c.loop-turn.invariant.on c.take_turn-done.ensures;
    }

pub returns-in-Refused-SeatFull-clause-turned : goal.returns-in-Refused-SeatFull-clause-turned
returns-in-Refused-SeatFull-clause-turned g c = at_most _ _ _ _ _ _ (omega (arith, c.loop-turn-test.true))
    (turned_on _ _ _ _ _ _ _ c.loop-turn.invariant.turned (one_taken _ _ _ _ _ _ _ _ _ c.take_turn-done.ensures))

pub returns-in-Refused-SeatFull-clause-on : goal.returns-in-Refused-SeatFull-clause-on
returns-in-Refused-SeatFull-clause-on g c = (
  _,
  omega (arith, c.loop-turn-test.true),
  _,
  one_turn_more _ _ _ _ _ _ _ _ _ _ _ c.loop-turn.invariant.on c.take_turn-done.ensures,
)
