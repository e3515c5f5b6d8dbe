use Rattle.std.proofs.Common.{length, ◌-◌, ◌≡◌, ◌≤◌, ◌||◌, ltb, take}
use Rattle.am_line_sink.specs.SinkWrites.{Gave}
use Rattle.am_line_sink.proofs.sink.give_all.Given as goal

abbrev pub invariant-loop-done : goal.invariant-loop-done
invariant-loop-done g l = record {
  within : l.done ≤ length l.piece;
  given : Gave g.K.Sink.holds l.fn.sink (take l.done l.piece) l.sink;
  pending : g.K.Sink.pending l.sink ≡ (g.K.Sink.pending l.fn.sink || ltb 0 l.done);
  ok : g.K.Sink.failures l.sink ≡ g.K.Sink.failures l.fn.sink;
}

abbrev pub decreases-loop-done : goal.decreases-loop-done
decreases-loop-done g l = length l.piece - l.done
