use Rattle.std.proofs.Common.{not, ◌&&◌, sym, ap, ◌∙◌, rules, tests}
use Rattle.std.specs.Char.{is_ascii_graphic}
use Rattle.std.specs.List.{list_all}
use Rattle.std.proofs.lemmas.Iterator.{YieldsList-from_slice}
use Rattle.std.proofs.lemmas.Iterator.Search.{all_from_yields_List}
use Rattle.am_line_text.proofs.value.is_value_text.Goals as goal

pub returns-then-not-is_empty : goal.returns-then-not-is_empty
returns-then-not-is_empty c =
    let text = c.args.text.now in
    let all = all_from_yields_List is_ascii_graphic _ _ c.all.result c.all.ensures.ran (YieldsList-from_slice text cc)
    (λ x b q k. search (rules, tests)) in
    all ∙ ap (λ b. not b && list_all is_ascii_graphic text) (sym c.if-not-is_empty.true ∙ c.is_empty.ensures)
