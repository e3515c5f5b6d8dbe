use Rattle.std.proofs.Common.{◌<◌, ◌-◌, List, length, subst, sym}
use Rattle.am_record.specs.declared.entry.Entry.{Entry}
use Rattle.am_store.specs.EntryWalks.{IsListed}
use Rattle.am_store.proofs.EntryWalks.{starts, goes_on, goes_down, ends}
use Rattle.am_store.proofs.entries.all_entries.Goals as goal

pub loop-next-init : goal.loop-next-init
loop-next-init g c =
    subst (λ (es : List Entry). IsListed c.args.parts.now.entries es c.next_any-next.result)
    (sym c.new-entries.ensures.items)
    (starts c.args.parts.now.entries c.least.result c.next_any-next.result c.least.ensures.least
    c.next_any-next.ensures.found)

pub loop-next-smaller : goal.loop-next-smaller
loop-next-smaller g c =
    let es = c.args.parts.now.entries in
    subst (λ (done : List Entry). length es - length done < length es - length c.loop-next.entries.items)
    (sym c.in_ok-push.ensures.items)
    (goes_down es c.loop-next.entries.items c.loop-next.next c.in-Some.entry c.loop-next.invariant c.in-Some.is)

pub loop-next-preserved : goal.loop-next-preserved
loop-next-preserved g c =
    let es = c.args.parts.now.entries in
    subst (λ (done : List Entry). IsListed es done c.next_entry-next.result) (sym c.in_ok-push.ensures.items)
    (goes_on es c.loop-next.entries.items c.loop-next.next c.next_entry-next.result c.in-Some.entry
    c.loop-next.invariant c.in-Some.is c.next_entry-next.ensures)

pub returns : goal.returns
returns g c = ends c.args.parts.now.entries c.loop-next.entries.items c.loop-next.next c.loop-next.invariant
    c.in_default.is
