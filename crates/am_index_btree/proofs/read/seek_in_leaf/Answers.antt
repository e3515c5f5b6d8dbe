use Rattle.std.proofs.Common.{◌∙◌, option_copied}
use Rattle.am_index_btree.proofs.Seeks.{any_at, ghost_at}
use Rattle.am_index_btree.proofs.read.seek_in_leaf.Goals as goal

pub returns-in-Any-clause-found : goal.returns-in-Any-clause-found
returns-in-Any-clause-found c = c.entry_at.ensures ∙ any_at c.args.wanted (option_copied c.args.from)
    c.args.leaf.now.entries c.index_from-at.result c.in-Any.is c.index_from-at.ensures.begins

pub returns-in-Ghost-clause-found : goal.returns-in-Ghost-clause-found
returns-in-Ghost-clause-found c = c.ghost_from.ensures ∙ ghost_at c.args.wanted (option_copied c.args.from)
    c.args.leaf.now.entries c.index_from-at.result c.in-Ghost.is c.index_from-at.ensures.begins
