use Rattle.std.proofs.Common.{◌≡◌, ◌++◌, ◌≤◌, eqb, take, drop, length}
use Rattle.std.specs.List.{take_while}
use Rattle.am_index.proofs.batch.Batch.push_part.Given as goal

abbrev pub invariant-loop-entry : goal.invariant-loop-entry
invariant-loop-entry l = record {
  fits : length l.self ≤ 16;
  same : take 16 (l.self ++ take_while (λ e. eqb e.part l.fn.part) (drop l.entry-index l.list)) ≡ take 16
      (l.fn.self ++ take_while (λ e. eqb e.part l.fn.part) l.list);
}
