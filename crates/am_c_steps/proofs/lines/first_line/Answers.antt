use Rattle.std.proofs.Common.{List, ℕ, ◌∷◌, sym, ap, ◌∙◌, rules, tests, take}
use Rattle.std.proofs.lemmas.Iterator.{YieldsList-from_slice}
use Rattle.std.proofs.lemmas.Iterator.Search.{position_from_yields_List}
use Rattle.am_c_steps.specs.Lines.{is_lf, text_lines}
use Rattle.am_c_steps.proofs.CutLines.{behind, line_at, one_line}
use Rattle.am_c_steps.proofs.lines.first_line.Goals as goal

pub returns-in-Some-clause-line : goal.returns-in-Some-clause-line
returns-in-Some-clause-line c =
    let text = c.args.text.now in
    let place = position_from_yields_List is_lf _ _ c.position.result c.position.ensures.ran
    (YieldsList-from_slice text cc) (λ x b q k. search (rules, tests)) in
    line_at text c.in-Some.end (sym place ∙ c.in-Some.is)
    ∙ ap (λ (rest : List ℕ). take c.in-Some.end text ∷ text_lines rest) (sym (behind text c.in-Some.end))

pub returns-in-None-clause-line : goal.returns-in-None-clause-line
returns-in-None-clause-line c =
    let text = c.args.text.now in
    let place = position_from_yields_List is_lf _ _ c.position.result c.position.ensures.ran
    (YieldsList-from_slice text cc) (λ x b q k. search (rules, tests)) in
    one_line text c.requires (sym place ∙ c.in-None.is)
