use Rattle.std.proofs.Common.{◌≡◌, ◌≢◌, ℕ, get_or, set, length-set, true, false, sym, ap, ◌∙◌}
use Rattle.std.proofs.Common.{⊎_elim, subst, arith}
use Rattle.std.proofs.lemmas.Bool.{cases_eq}
use Rattle.std.proofs.lemmas.List.{get_or-set_same, get_or-set_other}
use Rattle.am_index_parts.specs.declared.run_filters.Generation.{Generation}
use Rattle.am_index_parts.specs.RunFilters.{IsNamedIn}
use Rattle.am_index_parts.proofs.Filters.{may_be_set, may_be_woken}
use Rattle.am_index_parts.proofs.run_filters.RunFilters.wake.Goals as goal

pub loop-at-preserved : goal.loop-at-preserved
loop-at-preserved c =
    let gs = c.loop-at.self.generations.items in
    let at = c.loop-at.at in
    let part = c.args.part in
    let new = c.wake.new.self in
    record {
      hash = c.loop-at.invariant.hash;
      many = length-set gs at new ∙ c.loop-at.invariant.many;
      kept = λ live run n it. may_be_set live run n gs at c.index_mut.result.now new c.index_mut.ensures.value
          (c.wake.ensures.kept live run n) (c.loop-at.invariant.kept live run n it);
      woken = λ k d n lt it.
          ⊎_elim
          (λ (same : k ≡ at).
          let here : get_or (set gs at new) k d ≡ new = ap (λ (i : ℕ). get_or (set gs at new) i d) same ∙
          get_or-set_same gs at new d (omega (
            arith,
            c.loop-at-test.true,
            c.loop-at.invariant.many,
            c.len-at-end.ensures,
          ))
          in
          subst (λ (g : Generation). IsNamedIn true g part n) (sym here)
          (c.wake.ensures.woken n (subst (λ (g : Generation). IsNamedIn false g part n) here it)))
          (λ (other : k ≢ at).
          let there = get_or-set_other gs at k new d other in
          subst (λ (g : Generation). IsNamedIn true g part n) (sym there)
          (c.loop-at.invariant.woken k d n (omega (arith, lt, other))
          (subst (λ (g : Generation). IsNamedIn false g part n) there it)))
          (cases_eq k at);
    }

pub returns-clause-woken : goal.returns-clause-woken
returns-clause-woken c = λ n it.
    may_be_woken c.args.part n c.loop-at.self.generations.items
    (λ k d lt. c.loop-at.invariant.woken k d n (omega (
      arith,
      lt,
      c.loop-at.invariant.many,
      c.len-at-end.ensures,
      c.loop-at-test.false,
    ))) it
