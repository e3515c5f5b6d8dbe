use Rattle.std.proofs.Common.{◌≡◌, length, take}
use Rattle.am_c_steps.specs.AnswerParts.{rows_over}
use Rattle.am_c_steps.proofs.answers.write_rows.Given as goal

abbrev pub invariant-loop-at : goal.invariant-loop-at
invariant-loop-at l = record {
  written : l.rows ≡ rows_over (take l.at l.fn.pairs) l.fn.rows;
  all : length l.rows ≡ length l.fn.rows;
  same : l.pairs ≡ l.fn.pairs;
}
