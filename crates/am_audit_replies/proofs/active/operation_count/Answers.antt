use Rattle.std.proofs.Common.{◌≡◌, ◌∙◌, sym, ap, arith, length, map, get_or}
use Rattle.std.proofs.lemmas.List.{length-map}
use Rattle.am_audit_replies.specs.OwnAnswers.{placed_answer}
use Rattle.am_audit_replies.proofs.Places.{place_is, listed_there, own_there, not_there}
use Rattle.am_audit_replies.proofs.active.operation_count.Goals as goal

pub returns-in-Some-clause-found : goal.returns-in-Some-clause-found
returns-in-Some-clause-found c tx asked =
    let at = place_is tx c.args.all.now c.in-Some.place (sym asked ∙ c.in-Some.is) in
    let d = c.index-all-place.result in
    let here = get_or c.args.all.now c.in-Some.place d in
    let full = here.own.ok.0 in
    let counted : c.len.result ≡ length here.own.items = omega (arith, c.len.ensures, full) in (
      listed_there tx c.args.all.now at.0,
      counted ∙ sym (length-map here.own.items placed_answer)
          ∙ ap (λ n. length (map placed_answer (get_or c.args.all.now n d).own.items)) (sym at.1) ∙
          sym (ap length (own_there tx c.args.all.now d at.0)),
    )

pub returns-in-None-clause-none : goal.returns-in-None-clause-none
returns-in-None-clause-none c tx asked = not_there tx c.args.all.now (sym asked ∙ c.in-None.is)
