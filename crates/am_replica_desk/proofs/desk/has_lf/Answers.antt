use Rattle.std.proofs.Common.{eqb, sym, ◌∙◌, rules, tests}
use Rattle.std.proofs.lemmas.Iterator.{YieldsList-from_slice}
use Rattle.std.proofs.lemmas.Iterator.Search.{position_from_yields_List}
use Rattle.am_replica_desk.proofs.Line.{found_lf}
use Rattle.am_replica_desk.proofs.desk.has_lf.Goals as goal

pub returns : goal.returns
returns c =
    let bytes = c.args.line.now in
    let place = position_from_yields_List (λ b. eqb b 10) _ _ c.position.result c.position.ensures.ran
    (YieldsList-from_slice bytes cc) (λ x b q k. search (rules, tests)) in
    c.is_some.ensures ∙ found_lf bytes c.position.result (sym place)
