use Rattle.std.proofs.Common.{◌≡◌, true, suc, drop}
use Rattle.std.specs.Prelude.{option_copied}
use Rattle.std.specs.List.{AllByRecursion}
use Rattle.am_index_btree.specs.declared.read.Wanted.TheVariants.{Any}
use Rattle.am_index_btree.specs.Seek.{first_wanted, is_onward}
use Rattle.am_index_btree.specs.Nodes.{all_entries}
use Rattle.am_index_btree.proofs.node.Subtree.+seek.Given as goal

abbrev pub decreases-seek : goal.decreases-seek
decreases-seek l = goal.size-seek l

abbrev pub invariant-loop-child : goal.invariant-loop-child
invariant-loop-child l = record {
  same : first_wanted Any (option_copied l.from) (all_entries (drop l.child-index l.child-items)) ≡ first_wanted
      Any (option_copied l.fn.from) l.fn.self.entries;
  behind : AllByRecursion (λ e. is_onward (option_copied l.from) e ≡ true)
      (all_entries (drop (suc l.child-index) l.child-items));
}
