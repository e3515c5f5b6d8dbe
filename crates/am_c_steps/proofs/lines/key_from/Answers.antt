use Rattle.std.proofs.Common.{◌<◌, ◌-◌, ap, ◌∙◌, rules, tests, arith, length, take, drop}
use Rattle.std.proofs.lemmas.List.{length-drop}
use Rattle.std.proofs.lemmas.Iterator.{YieldsList-from_slice}
use Rattle.std.proofs.lemmas.Iterator.Search.{position_from_yields_List}
use Rattle.std.specs.List.{position}
use Rattle.am_c_steps.specs.Lines.{is_tab}
use Rattle.am_c_steps.specs.Texts.{key_given}
use Rattle.am_c_steps.proofs.CutLines.{all_from, key_of_line, tabs_are_one, no_tab}
use Rattle.am_c_steps.proofs.lines.key_from.Goals as goal

pub returns-in-Some : goal.returns-in-Some
returns-in-Some c line more pair cut given =
    let text = c.args.text.now in
    let start = c.args.start in
    let from = all_from text start in
    let some : 0 < length (drop start text) = omega (arith, c.requires, length-drop start text) in
    let found = key_of_line (drop start text) line more pair some cut given in
    let place = position_from_yields_List is_tab _ _ c.position.result c.position.ensures.ran
    (YieldsList-from_slice (take (length text - start) (drop start text)) cc) (λ x b q k. search (rules, tests)) in
    let same = tabs_are_one c.position.result c.in-Some.tab found.0 c.in-Some.is
    (place ∙ ap (position is_tab) from ∙ found.1) in
    c.key_given.ensures ∙ (λ i. key_given (take (same i) (from i))) ∙ found.2

pub returns-in-None : goal.returns-in-None
returns-in-None c line more pair cut given =
    let text = c.args.text.now in
    let start = c.args.start in
    let from = all_from text start in
    let some : 0 < length (drop start text) = omega (arith, c.requires, length-drop start text) in
    let found = key_of_line (drop start text) line more pair some cut given in
    let place = position_from_yields_List is_tab _ _ c.position.result c.position.ensures.ran
    (YieldsList-from_slice (take (length text - start) (drop start text)) cc) (λ x b q k. search (rules, tests)) in
    absurd (no_tab c.position.result found.0 c.in-None.is (place ∙ ap (position is_tab) from ∙ found.1))
