use Rattle.std.proofs.Common.{List, ◌∷◌, ◌++◌, [], map, get_or, refl, ap, ◌∙◌}
use Rattle.std.proofs.lemmas.List.{map-append}
use Rattle.am_audit_replies.specs.declared.active.OwnAnswer.{OwnAnswer}
use Rattle.am_audit_replies.specs.OwnAnswers.{placed_answer}
use Rattle.am_audit_replies.proofs.Places.{place_is, answered_there}
use Rattle.am_audit_replies.proofs.active.keep_answer.Goals as goal

pub returns : goal.returns
returns c tx asked =
    let at = place_is tx c.args.all.now c.args.place asked in
    let own = ap (map placed_answer) (c.push_reserved.ensures.items ∙
    ap (λ (own : List OwnAnswer). own ++ c.args.kept ∷ []) c.in_ok-reserve.ensures.items)
    ∙ map-append placed_answer (get_or c.args.all.now c.args.place c.index-all-place.result).own.items
    (c.args.kept ∷ []) in
    answered_there tx (placed_answer c.args.kept) c.args.all.now c.args.place c.index-all-place.result _ at.0 at.1
    refl own
