use Rattle.std.proofs.Common.{arith}
use Rattle.am_serve_workers.proofs.Gains.{first_turned, all_gain, all_moved-append}
use Rattle.am_serve_workers.proofs.workers.work_all.Goals as goal

pub overflow_sub-result : goal.overflow_sub-result
overflow_sub-result g c =
    let gain = all_gain _ _ _ _ _ c.work_in_threads.ensures in
    omega (arith, gain, c.moved_by-before.ensures, c.moved_by.ensures)

pub returns-clause-turned : goal.returns-clause-turned
returns-clause-turned g c =
    rw c.split_at_mut-workers.ensures.value (first_turned _ _ _ _ _ _ c.work_in_threads.ensures)

pub returns-clause-moved : goal.returns-clause-moved
returns-clause-moved g c =
    let workers = c.split_at_mut-workers.result.0.now in
    let idle = c.split_at_mut-workers.result.1.now in
    let worked = c.work_in_threads.new.workers in
    let gain = all_gain _ _ _ _ _ c.work_in_threads.ensures in
    rw c.split_at_mut-workers.ensures.value (omega (
      arith,
      gain,
      c.moved_by-before.ensures,
      c.moved_by.ensures,
      all_moved-append workers idle,
      all_moved-append worked idle,
    ))
