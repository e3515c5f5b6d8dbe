use Rattle.std.proofs.Common.{List, true, refl, sym, subst, arith}
use Rattle.std.specs.Prelude.{slice_index_or}
use Rattle.am_index_parts.specs.declared.run_filters.RunFilter.{RunFilter}
use Rattle.am_index_parts.specs.RunFilters.{IsNamed}
use Rattle.am_index_parts.proofs.Filters.{named_last, named_before}
use Rattle.am_index_parts.proofs.run_filters.Generation.push.Goals as goal

pub returns-clause-entered : goal.returns-clause-entered
returns-clause-entered c = λ k d lt.
    let n = slice_index_or c.args.numbers.now k d in
    record {
      from = omega (arith, c.min-self.ensures);
      to = omega (arith, c.max-self.ensures);
      awake = λ _. refl;
      covered = c.enter_all.ensures.covered k d lt;
      named = subst (λ (l : List RunFilter). IsNamed true l c.args.run.part n) (sym c.in_ok-push.ensures.items)
          (named_last true c.args.run.part n c.args.self.now.runs.items c.args.run refl (c.requires.covered k d lt)
          c.requires.awake);
    }

pub returns-clause-kept : goal.returns-clause-kept
returns-clause-kept c = λ live part n it.
    record {
      from = omega (arith, c.min-self.ensures, it.from);
      to = omega (arith, c.max-self.ensures, it.to);
      awake = λ _. refl;
      covered = c.enter_all.ensures.kept n it.covered;
      named = subst (λ (l : List RunFilter). IsNamed live l part n) (sym c.in_ok-push.ensures.items)
          (named_before live part n c.args.self.now.runs.items c.args.run it.named);
    }
