use Rattle.std.proofs.Common.{List, rules, arith, ◌<◌, ◌≡◌, refl, sym, ap, ◌∙◌, ◌+◌, map}
use Rattle.std.specs.Prelude.{◌^◌}
use Rattle.std.proofs.lemmas.Result.{on_ok_weaker}
use Rattle.am_law_serial.specs.Trace.{runs_made}
use Rattle.am_law_serial.specs.Machine.{view}
use Rattle.am_audit_replies.specs.declared.active.Active.{Active}
use Rattle.am_audit_replies.specs.OwnAnswers.{PlacedAnswer, listed, place_in, with_own, left_by_all}
use Rattle.am_audit_replies.proofs.Actives.{items_kept}
use Rattle.am_audit.proofs.Performs.{takes_refused, takes_answer, made_fits, made_by}
use Rattle.am_audit.proofs.checker.Checker.perform.Goals as goal

pub returns-then-is_refusal-clause-takes : goal.returns-then-is_refusal-clause-takes
returns-then-is_refusal-clause-takes g c =
    on_ok_weaker c.verdict.result
    (λ right. takes_refused g.at.0 c.args.self.now _ g.at.1 c.args.tx c.args.op c.args.reply
    c.requires.0
    (sym c.is_refusal.ensures ∙ c.if-is_refusal.true) right refl refl refl refl c.look-asked.ensures.same refl)
    c.verdict.ensures.right

pub returns-clause-takes : goal.returns-clause-takes
returns-clause-takes g c =
    let answered = sym c.is_refusal.ensures ∙ c.if-is_refusal.false in
    let asked = ap (λ (all : List Active). place_in all c.args.tx) c.deref.ensures.value ∙ c.requires.1.1.1.1.1 in
    let made = c.in_ok-made.ensures.made ∙ ap (λ (own : List PlacedAnswer). runs_made
    (left_by_all own c.args.self.now.committed).map c.args.op c.args.reply)
    (c.own_answers-own.ensures c.args.tx asked) in
    takes_answer _ c.args.self.now g.at.1 c.requires.0 c.args.tx c.args.op c.requires.1.1.0 g.at.0 _
    c.args.reply c.args.position
    _ c.requires.1.0 refl answered c.in_default.ensures.right
    refl refl (ap (λ n. c.args.self.now.runs + n) (made_by _ c.args.self.now g.at.1 c.requires.0 c.args.tx c.args.op
    c.args.reply c.requires.1.1.0 _ c.deref.ensures.value _ made))
    (ap (map listed) (items_kept c.args.self.now.active c.keep_answer.new.all c.deref_mut.result.now
    c.deref_mut.ensures.value c.keep_answer.auto.all) ∙ c.in_ok-keep_answer.ensures c.args.tx
    (ap (λ all. place_in all c.args.tx) c.deref_mut.ensures.value ∙ c.requires.1.1.1.1.1) ∙
    ap (λ all. with_own c.args.tx
    (c.args.position, (c.args.op, c.args.reply)) (map listed all)) c.deref_mut.ensures.value)
    (c.ask-asked.ensures.granted (c.in_default.ensures.granted answered)) c.in_ok-made.ensures.same

pub overflow_add-self : goal.overflow_add-self
overflow_add-self g c =
    let most : c.args.self.now.most_runs < 2 ^ 32 = search rules in
    let few : c.args.self.now.runs < 2 ^ 32 = search rules in
    let is = c.requires.1.1.1.1.0 in
    let counted = c.requires.0.runs in
    let fits = made_fits g.at.0 g.at.1.state.runs (2 ^ 32) g.at.1.state c.args.tx (view g.at.1.state c.args.tx).map
    c.args.op c.args.reply c.requires.1.1.0 (omega (arith, most, is)) (omega (arith, few, counted)) in
    let asked = ap (λ (all : List Active). place_in all c.args.tx) c.deref.ensures.value ∙ c.requires.1.1.1.1.1 in
    let made : c.in_ok-made.made ≡ runs_made (view g.at.1.state c.args.tx).map c.args.op c.args.reply =
    made_by _ c.args.self.now g.at.1 c.requires.0 c.args.tx c.args.op c.args.reply c.requires.1.1.0 _
    c.deref.ensures.value _ (c.in_ok-made.ensures.made ∙ ap (λ (own : List PlacedAnswer). runs_made
    (left_by_all own c.args.self.now.committed).map c.args.op c.args.reply)
    (c.own_answers-own.ensures c.args.tx asked)) in
    omega (arith, fits, counted, made)
