use Rattle.std.proofs.Common.{List, length, length-set, rules, sym, ◌∙◌, subst}
use Rattle.std.specs.Prelude.{not, ◌==◌}
use Rattle.std.proofs.lemmas.Fn.{filter_same}
use Rattle.am_index_parts.specs.declared.run_filters.Generation.{Generation}
use Rattle.am_index_parts.specs.RunFilters.{MayBeIn}
use Rattle.am_index_parts.proofs.Filters.{may_be_set, may_be_in_others}
use Rattle.am_index_parts.proofs.run_filters.RunFilters.let_go.Goals as goal

pub loop-at-preserved : goal.loop-at-preserved
loop-at-preserved c = record {
  hash = c.loop-at.invariant.hash;
  many = length-set c.loop-at.self.generations.items c.loop-at.at c.let_go.new.self ∙ c.loop-at.invariant.many;
  kept = λ live run n stays it. may_be_set live run n c.loop-at.self.generations.items c.loop-at.at
      c.index_mut.result.now
      c.let_go.new.self c.index_mut.ensures.value (c.let_go.ensures live run n stays)
      (c.loop-at.invariant.kept live run n stays it);
}

pub returns-clause-kept : goal.returns-clause-kept
returns-clause-kept c = λ live run n stays it.
    subst (λ (l : List Generation). MayBeIn live l run n)
    (sym (filter_same _ (λ (g : Generation). not (length g.runs.items == 0)) _ (λ x b f' called. search rules) _ _
    c.retain.ensures.filtered)) (may_be_in_others live run n c.loop-at.self.generations.items
    (c.loop-at.invariant.kept live run n stays it))
