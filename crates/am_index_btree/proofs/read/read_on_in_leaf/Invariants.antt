use Rattle.std.proofs.Common.{eqb, drop}
use Rattle.std.specs.List.{take_while}
use Rattle.am_index_btree.specs.Seek.{all_such}
use Rattle.am_index_btree.proofs.ChildWalks.{IsWalked}
use Rattle.am_index_btree.proofs.read.read_on_in_leaf.Given as goal

abbrev pub invariant-loop-at : goal.invariant-loop-at
invariant-loop-at l = IsWalked 16 l.fn.batch l.batch
    (take_while (λ e. eqb e.part l.fn.part) (drop l.at l.leaf.entries))
    (all_such l.fn.start l.leaf.entries l.fn.part l.fn.key)
