use Rattle.std.proofs.Common.{length-set, ◌∙◌}
use Rattle.am_index_parts.proofs.Filters.{may_be_set}
use Rattle.am_index_parts.proofs.run_filters.RunFilters.sleep.Goals as goal

pub returns-then-sleep-clause-kept : goal.returns-then-sleep-clause-kept
returns-then-sleep-clause-kept c = λ live run n other it.
    may_be_set live run n c.loop-at.self.generations.items _ c.index_mut.result.now c.sleep.new.self
    c.index_mut.ensures.value (c.sleep.ensures live run n other) (c.loop-at.invariant.kept live run n other it)

pub loop-at-preserved : goal.loop-at-preserved
loop-at-preserved c = record {
  hash = c.loop-at.invariant.hash;
  many = length-set c.loop-at.self.generations.items _ c.sleep.new.self ∙ c.loop-at.invariant.many;
  kept = λ live run n other it. may_be_set live run n c.loop-at.self.generations.items _ c.index_mut.result.now
      c.sleep.new.self c.index_mut.ensures.value (c.sleep.ensures live run n other)
      (c.loop-at.invariant.kept live run n other it);
}
