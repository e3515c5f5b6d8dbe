use Rattle.std.proofs.Common.{List, ℕ, sym, ap, ◌∙◌, rules, tests, take}
use Rattle.std.proofs.lemmas.Iterator.{YieldsList-from_slice}
use Rattle.std.proofs.lemmas.Iterator.Search.{position_from_yields_List}
use Rattle.am_c_steps.specs.Lines.{is_tab, record_of, cut_at}
use Rattle.am_c_steps.proofs.CutLines.{behind}
use Rattle.am_c_steps.proofs.lines.line_pair.Goals as goal

pub returns-in-Some : goal.returns-in-Some
returns-in-Some c =
    let line = c.args.line.now in
    let place = position_from_yields_List is_tab _ _ c.position.result c.position.ensures.ran
    (YieldsList-from_slice line cc) (λ x b q k. search (rules, tests)) in
    c.record_of.ensures ∙ ap (λ (value : List ℕ). record_of (take c.in-Some.tab line) value) (behind line c.in-Some.tab)
    ∙ ap (cut_at line) (sym c.in-Some.is ∙ place)

pub returns-in-None : goal.returns-in-None
returns-in-None c =
    let line = c.args.line.now in
    let place = position_from_yields_List is_tab _ _ c.position.result c.position.ensures.ran
    (YieldsList-from_slice line cc) (λ x b q k. search (rules, tests)) in
    ap (cut_at line) (sym c.in-None.is ∙ place)
