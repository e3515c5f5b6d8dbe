use Rattle.std.proofs.Common.{drop, length-drop, arith}
use Rattle.am_index_btree.proofs.Marks.{marks_fit, byte_small}
use Rattle.am_index_btree.proofs.ghosts.marks_of.Goals as goal

pub overflow_mul-marks : goal.overflow_mul-marks
overflow_mul-marks c =
    let left = length-drop c.child.at c.args.children.now in
    let h = marks_fit (drop c.child.at c.args.children.now) 31 (omega (arith, left, c.requires, c.child-test.true)) in
    omega (arith, h, c.child.invariant.so_far)

pub overflow_add-marks : goal.overflow_add-marks
overflow_add-marks c =
    let left = length-drop c.child.at c.args.children.now in
    let h = marks_fit (drop c.child.at c.args.children.now) 31 (omega (arith, left, c.requires, c.child-test.true)) in
    omega (arith, h, c.child.invariant.so_far, c.from.ensures, byte_small c.has_ghost.result)
