use Rattle.std.specs.Prelude.{option_copied}
use Rattle.std.proofs.Common.{◌≡◌, ◌≤◌, ◌-◌, length, take, None}
use Rattle.std.specs.List.{AllByRecursion}
use Rattle.am_index.specs.Entries.{find, all_inserted}
use Rattle.am_index_btree.specs.EntriesBetween.{GoesAmong}
use Rattle.am_index_btree.proofs.insert_among.put_all_among.Given as goal

abbrev pub invariant-put : goal.invariant-put
invariant-put l = record {
  range : l.added ≤ length l.more;
  among : AllByRecursion (GoesAmong l.initial.leaf.entries (option_copied l.bound)) (take l.added l.more);
  free : AllByRecursion (λ e. find l.initial.leaf.entries e.part e.key ≡ None) (take l.added l.more);
  entries : l.leaf.entries ≡ all_inserted (take l.added l.more) l.initial.leaf.entries;
  same_room : l.leaf.value_room ≡ l.initial.leaf.value_room;
}

abbrev pub decreases-put : goal.decreases-put
decreases-put l = length l.more - l.added
