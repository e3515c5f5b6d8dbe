use Rattle.std.proofs.Common.{IsSome, Option, get_or, sym, ap, ◌∙◌, subst}
use Rattle.std.specs.Prelude.{is_some, not}
use Rattle.std.proofs.lemmas.List.{get_or_default}
use Rattle.am_record.specs.declared.entry.Entry.{Entry}
use Rattle.am_index.specs.Content.{live_value}
use mathlib.Core.Bool.{false≢true}
use Rattle.am_index.specs.Entries.{Slot, IsRising}
use Rattle.am_index.proofs.Searches.{find_absent, find_found}
use Rattle.am_index.proofs.Content.{slot_live}
use Rattle.am_index_btree.proofs.Leaves.{set_at_found, rising_set_at}
use Rattle.am_index_btree.proofs.set.set_in_leaf.Goals as goal

pub unreachable-requires : goal.unreachable-requires
unreachable-requires c =
    let none = find_absent c.args.leaf.now.entries c.args.part c.args.key c.in_default.field-0
    c.in_default.ensures.absent in
    false≢true (subst IsSome none c.requires.stands)

pub returns-clause-entries : goal.returns-clause-entries
returns-clause-entries c = c.set_at.ensures.entries ∙ set_at_found c.args.value c.args.is_ghost c.args.leaf.now.entries
    c.args.part c.args.key c.in-Ok.at c.in-Ok.ensures.found

pub returns-clause-rising : goal.returns-clause-rising
returns-clause-rising c = subst IsRising (sym c.set_at.ensures.entries)
    (rising_set_at c.args.value c.args.is_ghost c.args.leaf.now.entries c.in-Ok.at c.in-Ok.ensures.rising)

pub returns-clause-was_live : goal.returns-clause-was_live
returns-clause-was_live c =
    let d : Entry = record { part = c.args.part; key = c.args.key; value = c.args.value; is_ghost = c.args.is_ghost } in
    let e = get_or c.args.leaf.now.entries c.in-Ok.at d in
    ap not (c.is_ghost-was_live.ensures d) ∙ sym (slot_live e) ∙
    ap (λ (o : Option Slot). is_some (live_value o))
    (sym (find_found c.args.leaf.now.entries c.args.part c.args.key c.in-Ok.at c.in-Ok.ensures.found e
    (get_or_default c.args.leaf.now.entries c.in-Ok.at d e c.in-Ok.ensures.found.in_range)))
