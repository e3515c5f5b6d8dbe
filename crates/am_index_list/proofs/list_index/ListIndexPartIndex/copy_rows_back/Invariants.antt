use Rattle.std.proofs.Common.{◌≤◌, vec_capacity}
use Rattle.am_index.proofs.Rows.{AreCopiedBack}
use Rattle.am_index_list.proofs.list_index.ListIndexPartIndex.copy_rows_back.Given as goal

abbrev pub invariant-loop-at : goal.invariant-loop-at
invariant-loop-at l = record {
  copied : AreCopiedBack l.self l.fn.part l.fn.range l.fn.max l.fn.rows.items l.rows.items l.at;
  room : vec_capacity l.fn.rows ≤ vec_capacity l.rows;
}
