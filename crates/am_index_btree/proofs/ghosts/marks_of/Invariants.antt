use Rattle.std.proofs.Common.{◌≡◌, ◌≤◌, length, drop}
use Rattle.am_index_btree.specs.Ghosts.{marks_of}
use Rattle.am_index_btree.proofs.ghosts.marks_of.Given as goal

-- the bits of the later children
abbrev pub invariant-child : goal.invariant-child
invariant-child l = record {
  range : l.at ≤ length l.children;
  so_far : l.marks ≡ marks_of (drop l.at l.children);
}

abbrev pub decreases-child : goal.decreases-child
decreases-child l = l.at
