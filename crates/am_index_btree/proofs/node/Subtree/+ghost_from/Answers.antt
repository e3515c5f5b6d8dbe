use Rattle.std.proofs.Common.{option_copied, sym, ◌∙◌, rules, arith}
use Rattle.am_index_btree.proofs.Inner.{over}
use Rattle.am_index_btree.proofs.Marks.{marks_are}
use Rattle.am_index_btree.proofs.GhostWalks.{within, ghost_here, ghost_behind, ghost_later, no_later, next_within}
use Rattle.am_index_btree.proofs.GhostWalks.{in_next}
use Rattle.am_index_btree.proofs.node.Subtree.+ghost_from.Goals as goal
use Rattle.am_index_btree.proofs.node.Subtree.+ghost_from.Goals.{then-has_bit+in_default, else-has_bit}

pub child_from-at-requires : goal.child_from-at-requires
child_from-at-requires t c = (over c.in-Inner.is c.self.invariant c.self.view_is).asked

pub has_bit-requires : goal.has_bit-requires
has_bit-requires t c =
    let node = over c.in-Inner.is c.self.invariant c.self.view_is in
    let are = marks_are c.in-Inner.is c.self.invariant in
    let lt = within node are (option_copied c.args.from) _ c.child_from-at.ensures in
    omega (arith, lt, node.inner.most)

pub index-requires : goal.index-requires
index-requires t c =
    let node = over c.in-Inner.is c.self.invariant c.self.view_is in
    let are = marks_are c.in-Inner.is c.self.invariant in
    let lt = within node are (option_copied c.args.from) _ c.child_from-at.ensures in
    omega (arith, lt, c.in-Inner.children.ok.0)

pub ghost_from-requires : goal.ghost_from-requires
ghost_from-requires t c =
    let node = over c.in-Inner.is c.self.invariant c.self.view_is in
    let are = marks_are c.in-Inner.is c.self.invariant in
    let lt = within node are (option_copied c.args.from) _ c.child_from-at.ensures in
    let falls = node.falls c.child_from-at.result c.index.result.now lt c.index.ensures in
    (search rules, tt)

pub returns-in-Some-clause-found : goal.returns-in-Some-clause-found
returns-in-Some-clause-found t c =
    let node = over c.in-Inner.is c.self.invariant c.self.view_is in
    ghost_here node (marks_are c.in-Inner.is c.self.invariant) (option_copied c.args.from) _ c.child_from-at.ensures
    c.index.result.now c.index.ensures c.in-Some.entry c.in-Some.ensures.found

pub overflow_add-at : goal.overflow_add-at
overflow_add-at t c =
    let node = over c.in-Inner.is c.self.invariant c.self.view_is in
    let are = marks_are c.in-Inner.is c.self.invariant in
    let lt = within node are (option_copied c.args.from) _ c.child_from-at.ensures in
    omega (arith, lt, node.inner.most)

pub next_bit-requires : goal.next_bit-requires
next_bit-requires t c =
    let node = over c.in-Inner.is c.self.invariant c.self.view_is in
    let are = marks_are c.in-Inner.is c.self.invariant in
    let lt = within node are (option_copied c.args.from) _ c.child_from-at.ensures in
    omega (arith, lt, node.inner.most)

pub returns-in_err-next-in-Inner-clause-found : goal.returns-in_err-next-in-Inner-clause-found
returns-in_err-next-in-Inner-clause-found t c =
    let node = over c.in-Inner.is c.self.invariant c.self.view_is in
    let are = marks_are c.in-Inner.is c.self.invariant in
    let from = option_copied c.args.from in let child = c.child_from-at.ensures in
    let none = sym (no_later node are from _ child c.in_err-next-in-Inner.ensures.none) in
    elim c.if-has_bit.branch [
      | then-has_bit+in_default w ↦
          c.from_residual.ensures ∙ none ∙
          ghost_behind node are from _ child w.index.result.now w.index.ensures w.in_default.ensures.found
      | else-has_bit w ↦
          c.from_residual.ensures ∙ none ∙ ghost_later node are from _ child
          (sym c.has_bit.ensures ∙ w.if-has_bit.false)
    ]

pub index-requires-in-Inner : goal.index-requires-in-Inner
index-requires-in-Inner t c =
    let node = over c.in-Inner.is c.self.invariant c.self.view_is in
    let lt = next_within node (marks_are c.in-Inner.is c.self.invariant) (option_copied c.args.from) _
    c.child_from-at.ensures c.in_ok-next-in-Inner.next c.in_ok-next-in-Inner.ensures.first in
    omega (arith, lt, c.in-Inner.children.ok.0)

pub ghost_from-requires-in-Inner : goal.ghost_from-requires-in-Inner
ghost_from-requires-in-Inner t c =
    let node = over c.in-Inner.is c.self.invariant c.self.view_is in
    let lt = next_within node (marks_are c.in-Inner.is c.self.invariant) (option_copied c.args.from) _
    c.child_from-at.ensures c.in_ok-next-in-Inner.next c.in_ok-next-in-Inner.ensures.first in
    let falls = node.falls c.in_ok-next-in-Inner.next c.index-in-Inner.result.now lt c.index-in-Inner.ensures in
    (search rules, tt)

pub returns-in_ok-next-in-Inner-clause-found : goal.returns-in_ok-next-in-Inner-clause-found
returns-in_ok-next-in-Inner-clause-found t c =
    let node = over c.in-Inner.is c.self.invariant c.self.view_is in
    let are = marks_are c.in-Inner.is c.self.invariant in
    let from = option_copied c.args.from in let child = c.child_from-at.ensures in
    let found = c.ghost_from-in-Inner.ensures.found ∙ in_next node are from _ child c.in_ok-next-in-Inner.next
    c.in_ok-next-in-Inner.ensures.first c.index-in-Inner.result.now c.index-in-Inner.ensures in
    elim c.if-has_bit.branch [
      | then-has_bit+in_default w ↦
          found ∙ ghost_behind node are from _ child w.index.result.now w.index.ensures w.in_default.ensures.found
      | else-has_bit w ↦ found ∙ ghost_later node are from _ child (sym c.has_bit.ensures ∙ w.if-has_bit.false)
    ]
