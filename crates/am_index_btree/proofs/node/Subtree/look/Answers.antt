use Rattle.std.proofs.Common.{ℕ, Result, IfOk, IfErr, sym, ◌∙◌, subst}
use Rattle.am_index.specs.Places.{IsPlaceOf, IsGapFor}
use Rattle.am_index.proofs.Searches.{find_absent, find_found}
use Rattle.am_index_btree.proofs.node.Subtree.look.Goals as goal

pub returns-in_default-clause-found : goal.returns-in_default-clause-found
returns-in_default-clause-found c =
    let es = c.spot-spot.result.leaf.now.entries in
    sym (sym c.spot-spot.ensures.leaf ∙ find_absent es c.args.part c.args.key c.in_default.field-0
    (subst (λ (at : Result ℕ ℕ). IfErr at (IsGapFor es c.args.part c.args.key)) c.in_default.is
    c.spot-spot.ensures.absent))

pub returns-clause-found : goal.returns-clause-found
returns-clause-found c =
    let es = c.spot-spot.result.leaf.now.entries in
    sym (sym c.spot-spot.ensures.leaf ∙ find_found es c.args.part c.args.key c.in-Ok.at
    (subst (λ (at : Result ℕ ℕ). IfOk at (IsPlaceOf es c.args.part c.args.key)) c.in-Ok.is c.spot-spot.ensures.found)
    c.get-entry.result c.get-entry.ensures)
