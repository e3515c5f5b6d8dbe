use Rattle.std.proofs.Common.{true, ◌-◌, arith}
use Rattle.std.specs.Prelude.{slice_index_or}
use Rattle.am_index_parts.proofs.Filters.{may_be_set, may_be_at}
use Rattle.am_index_parts.proofs.run_filters.RunFilters.enter_run.Goals as goal

pub returns-in_err-push-clause-kept : goal.returns-in_err-push-clause-kept
returns-in_err-push-clause-kept c = λ live run n it.
    may_be_set live run n c.make_room.new.self.generations.items (c.len-newest.result - 1) c.index_mut.result.now
    c.push.new.self c.index_mut.ensures.value (c.push.ensures.kept live run n) (c.make_room.ensures.kept live run n it)

pub returns-clause-entered : goal.returns-clause-entered
returns-clause-entered c = λ k d lt.
    may_be_at true c.args.part (slice_index_or c.args.numbers.now k d) c.make_room.new.self.generations.items
    (c.len-newest.result - 1) c.push.new.self
    (omega (arith, c.len-newest.ensures, c.in_ok-make_room.ensures.some)) (c.in_ok-push.ensures.entered k d lt)

pub returns-clause-kept : goal.returns-clause-kept
returns-clause-kept c = λ live run n it.
    may_be_set live run n c.make_room.new.self.generations.items (c.len-newest.result - 1) c.index_mut.result.now
    c.push.new.self c.index_mut.ensures.value (c.push.ensures.kept live run n) (c.make_room.ensures.kept live run n it)
