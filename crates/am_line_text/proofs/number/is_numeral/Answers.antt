use Rattle.std.proofs.Common.{sym, ◌∙◌, rules, tests}
use Rattle.std.specs.Char.{is_ascii_digit}
use Rattle.std.proofs.lemmas.Iterator.{YieldsList-from_slice}
use Rattle.std.proofs.lemmas.Iterator.Search.{all_from_yields_List}
use Rattle.am_line_text.proofs.Numerals.{is_numeral-no_zero}
use Rattle.am_line_text.proofs.number.is_numeral.Goals as goal

pub returns-then-first-ne48 : goal.returns-then-first-ne48
returns-then-first-ne48 c =
    let text = c.args.text.now in
    let all = all_from_yields_List is_ascii_digit _ _ c.all.result c.all.ensures.ran (YieldsList-from_slice text cc)
    (λ x b q k. search (rules, tests)) in
    is_numeral-no_zero text c.in-Some.first.now c.in-Some.rest.now c.in-Some.ensures.cases.0 (sym all ∙ c.if-all.true)
    c.if-first-ne48.true
