use Rattle.std.proofs.Common.{IsSome, sym, ap, ◌∙◌, subst}
use Rattle.std.specs.Option.{option_copied}
use Rattle.std.proofs.lemmas.Bool.{false≢true}
use Rattle.am_record.proofs.Spans.{ordered, spanned}
use Rattle.am_record.proofs.step.span.Goals as goal

pub unreachable-requires-in_default-new : goal.unreachable-requires-in_default-new
unreachable-requires-in_default-new c =
    let first = ap option_copied (sym c.in-Some-Some.is-0) ∙ c.first.ensures.value in
    let last = ap option_copied (sym c.in-Some-Some.is-1) ∙ c.last.ensures.value in
    false≢true (subst IsSome c.in_default-new.is (c.new.ensures.ordered.1
    (ordered c.args.records.now c.in-Some-Some.first.now c.in-Some-Some.last.now c.requires first last)))

pub returns : goal.returns
returns c =
    let first = ap option_copied (sym c.in-Some-Some.is-0) ∙ c.first.ensures.value in
    let last = ap option_copied (sym c.in-Some-Some.is-1) ∙ c.last.ensures.value in
    c.in-Some.ensures.value ∙ spanned c.args.records.now c.in-Some-Some.first.now c.in-Some-Some.last.now c.requires
    first
    last
