use Rattle.std.proofs.Common.{◌≡◌, ℕ, List}
use Rattle.am_line_source.specs.Lines.{IsReading}
use Rattle.am_line_source.proofs.input.read_line.Given as goal

abbrev pub invariant-pieces : goal.invariant-pieces
invariant-pieces g l = record {
  line : (before : List ℕ) (first : _) →
      IsReading g.S.AnsweredSource.comes before first l.fn.line l.fn.input l.fn.source →
      IsReading g.S.AnsweredSource.comes before first l.line l.input l.source;
  ok : g.S.AnsweredSource.failures l.source ≡ g.S.AnsweredSource.failures l.fn.source;
}
