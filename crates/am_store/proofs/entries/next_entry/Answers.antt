use Rattle.std.proofs.Common.{sym, ◌∙◌}
use Rattle.am_store.proofs.EntryWalks.{here, there, nowhere}
use Rattle.am_store.proofs.entries.next_entry.Goals as goal

pub returns-in-Some : goal.returns-in-Some
returns-in-Some g c = λ before behind is. here c.args.parts.now.entries c.args.entry.now c.after.ensures.sound before
    behind is c.after.result c.in-Some.next c.after.ensures.found c.in-Some.is

pub returns-in_err-checked_add : goal.returns-in_err-checked_add
returns-in_err-checked_add g c = λ before behind is.
    c.from_residual.ensures ∙ nowhere c.args.parts.now.entries c.args.entry.now c.after.ensures.sound before behind is
    c.in_err-checked_add.ensures (sym c.in_default.is ∙ c.after.ensures.found)

pub returns : goal.returns
returns g c = λ before behind is.
    there c.args.parts.now.entries c.args.entry.now c.after.ensures.sound before behind is c.next_any.result
    c.in_ok-checked_add.field-0 c.least.result c.least.ensures.least (sym c.in_default.is ∙ c.after.ensures.found)
    c.in_ok-checked_add.ensures.1 c.next_any.ensures.found
