use Rattle.std.proofs.Common.{IsSome, ◌∙◌, subst}
use mathlib.Core.Bool.{false≢true}
use Rattle.am_index.proofs.Searches.{find_absent, entry_at_found}
use Rattle.am_index_btree.proofs.CutLeaves.{cut_found}
use Rattle.am_index_btree.proofs.remove.remove_from_leaf.Goals as goal

pub unreachable-requires : goal.unreachable-requires
unreachable-requires c =
    let none = find_absent c.args.leaf.now.entries c.args.part c.args.key c.in_default.field-0
    c.in_default.ensures.absent in
    false≢true (subst IsSome none c.requires.present)

pub returns-clause-entry : goal.returns-clause-entry
returns-clause-entry c = entry_at_found c.args.leaf.now.entries c.args.part c.args.key c.in-Ok.at c.in-Ok.ensures.found
    c.get-entry.result c.get-entry.ensures

pub returns-clause-others : goal.returns-clause-others
returns-clause-others c = c.cut.ensures.entries ∙ cut_found c.args.leaf.now.entries c.args.part c.args.key
    c.in-Ok.at c.in-Ok.ensures.found c.get-entry.result c.get-entry.ensures c.min-count.result
