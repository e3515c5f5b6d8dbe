use Rattle.std.proofs.Common.{sym, subst, ◌∙◌, inr, List, ℕ}
use Rattle.am_resp_text.specs.Counts.{HasNoCr}
use Rattle.am_resp_text.proofs.FirstCr.{around_cr, without_cr}
use Rattle.am_resp_text.proofs.read.split_at_cr.Goals as goal

pub returns-in-Some-clause-front : goal.returns-in-Some-clause-front
returns-in-Some-clause-front c =
    let bytes = c.args.bytes.now in
    let cr = around_cr bytes c.in-Some.end (sym c.position_of.ensures ∙ c.in-Some.is) in
    subst (λ (xs : List ℕ). HasNoCr xs) (sym c.split_at.ensures.front) cr.0

pub returns-in-Some-clause-behind : goal.returns-in-Some-clause-behind
returns-in-Some-clause-behind c =
    let bytes = c.args.bytes.now in
    let cr = around_cr bytes c.in-Some.end (sym c.position_of.ensures ∙ c.in-Some.is) in
    inr (cr.1.0, c.split_at.ensures.back ∙ cr.1.1)

pub returns-in-None-clause-front : goal.returns-in-None-clause-front
returns-in-None-clause-front c = without_cr c.args.bytes.now (sym c.position_of.ensures ∙ c.in-None.is)
