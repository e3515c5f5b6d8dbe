use Rattle.std.proofs.Common.{ap, sym, ◌∙◌, map, get_or}
use Rattle.am_audit_replies.specs.OwnAnswers.{placed_answer}
use Rattle.am_audit_replies.proofs.Places.{place_is, own_there}
use Rattle.am_audit_replies.proofs.active.own_answers.Goals as goal

pub returns : goal.returns
returns c tx asked =
    let all = c.args.all.now in
    let at = place_is tx all c.args.place asked in
    let d = c.index-all-place.result in
    ap (map placed_answer) c.deref.ensures.value
    ∙ ap (λ n. map placed_answer (get_or all n d).own.items) (sym at.1) ∙ sym (own_there tx all d at.0)
