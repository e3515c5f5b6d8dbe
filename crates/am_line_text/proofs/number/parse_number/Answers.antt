use Rattle.std.proofs.Common.{◌≡◌, true, ◌∙◌, sym, ap, subst, Ok, Err}
use Rattle.std.specs.Str.Parse.{ParsesUnsigned}
use Rattle.std.proofs.lemmas.Bool.{cond-true}
use Rattle.std.proofs.lemmas.Fmt.{IsAscii-from_digits}
use Rattle.std.proofs.lemmas.Str.{IsUtf8-from_ascii}
use Rattle.am_line_text.specs.Numbers.{is_numeral, numeral_value, number_for}
use Rattle.am_line_text.specs.declared.fault.LineFault.TheVariants.{Syntax}
use Rattle.am_line_text.proofs.Numerals.{are_digits, is_numeral-digits, parsed}
use Rattle.am_line_text.proofs.number.parse_number.Goals as goal

pub unreachable-requires : goal.unreachable-requires
unreachable-requires c =
    let text = c.args.field.now in
    let numeral : is_numeral text ≡ true = sym c.is_numeral.ensures ∙ c.if-not-is_numeral.false in
    c.in-Err.ensures.cases.0 (IsUtf8-from_ascii text
    (IsAscii-from_digits text (are_digits.to text (is_numeral-digits text numeral))))

pub returns : goal.returns
returns c =
    let text = c.args.field.now in
    let numeral : is_numeral text ≡ true = sym c.is_numeral.ensures ∙ c.if-not-is_numeral.false in
    let read = subst (λ bs. ParsesUnsigned 64 10 bs c.parse.result) c.in-Ok.ensures.cases.0 c.parse.ensures.value.0 in
    ap Ok (c.ok.ensures.value ∙ parsed text c.parse.result read numeral)
    ∙ sym (cond-true (is_numeral text) (Ok (number_for (numeral_value text))) (Err Syntax) numeral)
