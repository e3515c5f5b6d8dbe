use Rattle.std.proofs.Common.{◌≡◌, ◌++◌, drop}
use Rattle.am_record.specs.Plain.{fresh, answers_on, left_on}
use Rattle.am_record_model.proofs.plain.alone.Given as goal

abbrev pub invariant-loop-op : goal.invariant-loop-op
invariant-loop-op l = record {
  answered : answers_on l.ops (fresh l.fn.plain.map) ≡ l.replies.items ++ answers_on (drop l.op-index l.ops) l.plain;
  left_so_far : left_on l.ops (fresh l.fn.plain.map) ≡ left_on (drop l.op-index l.ops) l.plain;
}
