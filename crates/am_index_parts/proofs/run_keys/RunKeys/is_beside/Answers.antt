use Rattle.std.proofs.Common.{sym, ◌∙◌, subst}
use Rattle.std.specs.Prelude.{Option}
use Rattle.am_index_parts.specs.RunKeys.{LiesBetween}
use Rattle.am_index_parts.specs.declared.run_keys.Ends.{Ends}
use Rattle.am_index_parts.proofs.KnownKeys.{met_between, is_false}
use Rattle.am_index_parts.proofs.run_keys.RunKeys.is_beside.Goals as goal

pub returns-in-Some : goal.returns-in-Some
returns-in-Some c = λ beside key there it.
    let ends = c.in-Some.ends in
    let between = subst (λ (o : Option Ends). LiesBetween o key) c.in-Some.is it in
    met_between ends.lo ends.hi c.args.range key (sym c.meet.ensures ∙ is_false c.meet.result beside) there between.0
    between.1
