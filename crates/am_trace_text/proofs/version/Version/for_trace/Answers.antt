use Rattle.std.proofs.Common.{◌≡◌, sym, ◌∙◌, rules, tests}
use Rattle.std.specs.List.{list_any}
use Rattle.std.proofs.lemmas.Bool.{cond-true, cond-false}
use Rattle.std.proofs.lemmas.Iterator.{YieldsList-from_slice}
use Rattle.std.proofs.lemmas.Iterator.Search.{any_from_yields_List}
use Rattle.am_trace_text.specs.Versions.{needs_three}
use Rattle.am_trace_text.specs.declared.version.Version.TheVariants.{Two, Three}
use Rattle.am_trace_text.proofs.version.Version.for_trace.Goals as goal

pub returns-then-any : goal.returns-then-any
returns-then-any c =
    let is : c.any.result ≡ list_any needs_three c.args.trace.now = any_from_yields_List needs_three _ _ c.any.result
    c.any.ensures.ran (YieldsList-from_slice c.args.trace.now cc) (λ x b q k. search (rules, tests)) in
    sym (cond-true (list_any needs_three c.args.trace.now) Three Two (sym is ∙ c.if-any.true))

pub returns-else-any : goal.returns-else-any
returns-else-any c =
    let is : c.any.result ≡ list_any needs_three c.args.trace.now = any_from_yields_List needs_three _ _ c.any.result
    c.any.ensures.ran (YieldsList-from_slice c.args.trace.now cc) (λ x b q k. search (rules, tests)) in
    sym (cond-false (list_any needs_three c.args.trace.now) Three Two (sym is ∙ c.if-any.false))
