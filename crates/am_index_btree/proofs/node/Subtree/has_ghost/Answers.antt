use Rattle.std.proofs.Common.{eqb, sym, ap, ◌∙◌, subst}
use Rattle.std.specs.Prelude.{not}
use Rattle.am_index_leaf.specs.Ghosts.{has_ghost}
use Rattle.am_index_btree.specs.Shape.{Shape}
use Rattle.am_index_btree.specs.Nodes.{shape_of, IsTree}
use Rattle.am_index_btree.proofs.Marks.{any_mark}
use Rattle.am_index_btree.proofs.node.Subtree.has_ghost.Goals as goal

pub returns-in-Inner : goal.returns-in-Inner
returns-in-Inner c =
    ap (λ n. not (eqb n 0)) (subst IsTree c.in-Inner.is c.self.invariant).1 ∙ any_mark c.in-Inner.field-1.items ∙
    ap (λ (s : Shape). has_ghost s.entries) (sym (ap shape_of c.in-Inner.is) ∙ c.self.view_is)
