use Rattle.std.proofs.Common.{arith}
use Rattle.am_store_merge.proofs.Walks.{goes_on_here, goes_on_there, goes_on_nowhere}
use Rattle.am_store_merge.proofs.walk.place_after.Goals as goal

pub returns-in-Some-clause-next : goal.returns-in-Some-clause-next
returns-in-Some-clause-next g c = goes_on_here c.args.parts.now.entries c.after.ensures.sound.rising c.args.range
    c.args.entry.now c.requires c.in-Some.next c.in-Some.ensures.found

pub returns-in_err-checked_add-clause-none : goal.returns-in_err-checked_add-clause-none
returns-in_err-checked_add-clause-none g c =
    let over = c.in_err-checked_add.ensures in
    rw c.from_residual.ensures (goes_on_nowhere c.args.parts.now.entries c.after.ensures.sound.rising c.args.range
    c.args.entry.now c.requires c.in_default.ensures.found (omega (arith, over)) c.after.ensures.sound.fits)

pub returns-clause-next : goal.returns-clause-next
returns-clause-next g c =
    rw c.lo.ensures.value (goes_on_there c.args.parts.now.entries c.after.ensures.sound.rising c.args.range
    c.args.entry.now c.requires c.in_default.ensures.found c.in_ok-checked_add.field-0
    c.in_ok-checked_add.ensures.1)
