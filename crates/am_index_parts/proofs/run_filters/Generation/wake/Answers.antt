use Rattle.std.proofs.Common.{◌≡◌, ◌≢◌, ◌≤◌, ℕ, List, get_or, set, length-set, sym, ap, ◌∙◌}
use Rattle.std.proofs.Common.{⊎_elim, subst, arith}
use Rattle.std.proofs.lemmas.Bool.{cases_eq}
use Rattle.std.proofs.lemmas.List.{get_or-set_same, get_or-set_other}
use Rattle.am_index_filter.specs.Covers.{is_marked}
use Rattle.am_index_parts.specs.declared.run_filters.RunFilter.{RunFilter}
use Rattle.am_index_parts.proofs.Filters.{named_set, named_awake}
use Rattle.am_index_parts.proofs.run_filters.Generation.wake.Goals as goal

pub loop-at-preserved : goal.loop-at-preserved
loop-at-preserved c =
    let fs = c.loop-at.self.runs.items in
    let at = c.loop-at.at in
    let old = c.index_mut.result.now in
    let new = c.wake.new.self in
    record {
      all = c.loop-at.invariant.all;
      first = c.loop-at.invariant.first;
      last = c.loop-at.invariant.last;
      awake = c.loop-at.invariant.awake;
      many = length-set fs at new ∙ c.loop-at.invariant.many;
      kept = λ live run n it. named_set live run n fs at old new c.index_mut.ensures.value
          (λ is. (
            c.wake.ensures.part ∙ is.0,
            ap (λ (ws : List ℕ). is_marked ws n) c.wake.ensures.filter ∙ is.1,
            λ yes. c.wake.ensures.kept (is.2 yes),
          )) (c.loop-at.invariant.kept live run n it);
      woken = λ k d lt is.
          ⊎_elim
          (λ (same : k ≡ at).
          let here : get_or (set fs at new) k d ≡ new = ap (λ (i : ℕ). get_or (set fs at new) i d) same ∙
          get_or-set_same fs at new d (omega (
            arith,
            c.loop-at-test.true,
            c.loop-at.invariant.many,
            c.len-at-end.ensures,
          ))
          in
          ap (λ (f : RunFilter). f.is_awake) here ∙
          c.wake.ensures.woken (ap (λ (f : RunFilter). f.part) (sym here) ∙ is))
          (λ (other : k ≢ at).
          let there = get_or-set_other fs at k new d other in
          ap (λ (f : RunFilter). f.is_awake) there ∙
          c.loop-at.invariant.woken k d (omega (arith, lt, other)) (ap (λ (f : RunFilter). f.part) (sym there) ∙ is))
          (cases_eq k at);
    }

pub returns-clause-woken : goal.returns-clause-woken
returns-clause-woken c = λ n it. record {
  from = it.from;
  to = it.to;
  awake = λ _. c.loop-at.invariant.awake;
  covered = it.covered;
  named = named_awake c.args.part n c.loop-at.self.runs.items
      (λ k d lt. c.loop-at.invariant.woken k d (omega (
        arith,
        lt,
        c.loop-at.invariant.many,
        c.len-at-end.ensures,
        c.loop-at-test.false,
      ))) it.named;
}

pub returns-clause-kept : goal.returns-clause-kept
returns-clause-kept c = λ live run n it. record {
  from = subst (λ (p : ℕ). p ≤ run) (sym c.loop-at.invariant.first) it.from;
  to = subst (λ (p : ℕ). run ≤ p) (sym c.loop-at.invariant.last) it.to;
  awake = λ _. c.loop-at.invariant.awake;
  covered = ap (λ (ws : List ℕ). is_marked ws n) c.loop-at.invariant.all ∙ it.covered;
  named = c.loop-at.invariant.kept live run n it.named;
}
