use Rattle.std.proofs.Common.{rules, ◌≡◌, ◌==◌, ◌∙◌, ap}
use Rattle.std.specs.Prelude.{is_some}
use Rattle.std.proofs.lemmas.Iterator.{YieldsList-from_slice}
use Rattle.std.proofs.lemmas.Iterator.Search.{position_from_yields_List}
use Rattle.am_audit_replies.specs.declared.active.Active.{Active}
use Rattle.am_audit_replies.specs.OwnAnswers.{place_in}
use Rattle.am_audit_replies.proofs.Places.{there}
use Rattle.am_audit_replies.proofs.active.place_of.Goals as goal

pub returns-clause-active : goal.returns-clause-active
returns-clause-active c =
    let is : c.position.result ≡ place_in c.args.all.now c.args.tx =
    position_from_yields_List (λ (x : Active). x.number == c.args.tx) _ _ c.position.result c.position.ensures.ran
    (YieldsList-from_slice c.args.all.now cc) (λ x b q k. search rules) in
    ap is_some is ∙ there c.args.tx c.args.all.now
