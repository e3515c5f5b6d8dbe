use Rattle.std.proofs.Common.{◌+◌, ◌≤◌, vec_len, vec_capacity, length}
use Rattle.am_store.specs.StoreSteps.{HasRun}
use Rattle.am_store.proofs.step_lists.run.Given as goal

abbrev pub invariant-loop-step : goal.invariant-loop-step
invariant-loop-step g l = record {
  taken : HasRun l.fn.store l.yielded l.fn.replies.items l.store l.replies.items;
  room : vec_len l.replies + length l.steps ≤ vec_capacity l.replies + length l.yielded;
}
