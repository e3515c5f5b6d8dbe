use Rattle.std.proofs.Common.{◌≡◌, ◌-◌, take, drop, Ok, Err, sym, ap, ◌∙◌, inl}
use Rattle.std.proofs.lemmas.List.{take_min, drop_min}
use Rattle.am_c_steps.specs.Structs.{struct_given, structs_given}
use Rattle.am_c_steps.proofs.PairsGiven.{pushed}
use Rattle.am_c_steps.proofs.Layouts.{in_front, one_struct, no_struct}
use Rattle.am_c_steps.proofs.structs.add_structs.Goals as goal

pub loop-left-preserved : goal.loop-left-preserved
loop-left-preserved c =
    let l = c.args.layout.now in
    let rest = c.loop-left.rest.now in
    let left = c.loop-left.left in
    let first = c.split_at.ensures.front ∙ ap (λ n. take n rest) c.min.ensures ∙ take_min l.size rest in
    let behind = c.split_at.ensures.back ∙ ap (λ n. drop n rest) c.min.ensures ∙ drop_min l.size rest in
    let made : struct_given l (take l.size rest) ≡ Ok c.in-Ok.pair =
    ap (struct_given l) (sym first) ∙ sym c.pair.ensures ∙ c.in-Ok.is in
    let items = pushed c.push.result c.is_err.result _ _ _ c.is_err.ensures.value c.if-is_err.false
    c.push.ensures.items in
    (λ j. in_front (items j) (structs_given l (behind j) (left - 1))) ∙
    one_struct l rest left c.loop-left.pairs.items c.loop-left-test.true c.in-Ok.pair made ∙ c.loop-left.invariant

pub returns-in-Err-clause-wrong : goal.returns-in-Err-clause-wrong
returns-in-Err-clause-wrong c =
    let l = c.args.layout.now in
    let rest = c.loop-left.rest.now in
    let first = c.split_at.ensures.front ∙ ap (λ n. take n rest) c.min.ensures ∙ take_min l.size rest in
    let wrong : struct_given l (take l.size rest) ≡ Err c.in-Err.why =
    ap (struct_given l) (sym first) ∙ sym c.pair.ensures ∙ c.in-Err.is in
    inl (sym c.loop-left.invariant ∙
    no_struct l rest c.loop-left.left c.loop-left.pairs.items c.loop-left-test.true c.in-Err.why wrong)
