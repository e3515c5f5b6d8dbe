use Rattle.std.proofs.Common.{eqb, sym, ◌∙◌, rules, tests, ap}
use Rattle.std.specs.Prelude.{is_some}
use Rattle.std.proofs.lemmas.Iterator.{YieldsList-from_slice}
use Rattle.std.proofs.lemmas.Iterator.Search.{position_from_yields_List}
use Rattle.am_line_source.proofs.LineEnds.{before_lf, without_lf}
use Rattle.am_replica_lines.proofs.line.first_line.Goals as goal

pub returns-in_err-end-clause-exact : goal.returns-in_err-end-clause-exact
returns-in_err-end-clause-exact c =
    let bytes = c.args.bytes.now in
    let place = position_from_yields_List (λ b. eqb b 10) _ _ c.position.result c.position.ensures.ran
    (YieldsList-from_slice bytes cc) (λ x b q k. search (rules, tests)) in
    ap is_some c.from_residual.ensures ∙ sym (without_lf bytes (sym place ∙ c.in_err-end.was))

pub returns-clause-one : goal.returns-clause-one
returns-clause-one c =
    let bytes = c.args.bytes.now in
    let place = position_from_yields_List (λ b. eqb b 10) _ _ c.position.result c.position.ensures.ran
    (YieldsList-from_slice bytes cc) (λ x b q k. search (rules, tests)) in
    (before_lf bytes c.in_ok-end.end (sym place ∙ c.in_ok-end.was)).0

pub returns-clause-exact : goal.returns-clause-exact
returns-clause-exact c =
    let bytes = c.args.bytes.now in
    let place = position_from_yields_List (λ b. eqb b 10) _ _ c.position.result c.position.ensures.ran
    (YieldsList-from_slice bytes cc) (λ x b q k. search (rules, tests)) in
    sym (before_lf bytes c.in_ok-end.end (sym place ∙ c.in_ok-end.was)).1
