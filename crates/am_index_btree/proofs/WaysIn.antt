-- The child that an entry goes to whose place is free, and what an insert there makes of the node.
use Rattle.std.proofs.Common.{◌≡◌, ℕ, ◌+◌, ◌-◌, ◌<◌, None, List, length, get_or, set, sym, ap, ◌∙◌, subst, arith}
use Rattle.std.specs.List.{insert}
use Rattle.am_record.specs.declared.entry.Entry.{Entry}
use Rattle.am_index.specs.Entries.{find, insert_entry}
use Rattle.am_index_btree.specs.declared.separator.Separator.{Separator}
use Rattle.am_index_btree.specs.declared.insert.Split.{Split}
use Rattle.am_index_btree.specs.Shape.{Shape}
use Rattle.am_index_btree.specs.Rooms.{KeepsRoom}
use Rattle.am_index_btree.specs.InsertResults.{HasSplit, RoomIsSplit}
use Rattle.am_index_btree.specs.Separators.{lowered, IsReach, IsChildFor}
use Rattle.am_index_btree.specs.Nodes.{all_entries, depth_of, inner_shape, AreFilledChildren, AreChildren}
use Rattle.am_index_btree.proofs.Inner.{IsOver}
use Rattle.am_index_btree.proofs.ChildEdits.{way_down}
use Rattle.am_index_btree.proofs.OneChild.{IsEdited}
use Rattle.am_index_btree.proofs.ChildInserts.{before, before_is, child_from_reach, one_inner, one_entries, set_deep}
use Rattle.am_index_btree.proofs.ChildInserts.{two_children, two_entries, children_are}
use Rattle.am_index_btree.proofs.ValueRooms.{keeps_set, keeps_split}

pub record IsWayIn (x : Entry) (s : Shape) (ls : List Separator) (ks : List Shape) (n at : ℕ) (k : Shape) : Type 0 where
  pub at_is : at ≡ before n
  pub inside : at < length ks
  pub here : k ≡ get_or ks (before n) k
  pub child : IsChildFor ls x.part x.key at
  pub absent : find (all_entries ks) x.part x.key ≡ None
  pub absent_there : find k.entries x.part x.key ≡ None
  pub falls : k.depth < s.depth

pub way_in : {s : Shape} {ls : List Separator} {ks : List Shape} {rk n at : ℕ} {k : Shape} (node : IsOver s ls ks rk)
    (x : Entry) → IsReach ls x.part x.key n → at ≡ n - 1 → k ≡ get_or ks at k → find s.entries x.part x.key ≡ None →
    IsWayIn x s ls ks n at k
way_in {s} {ls} {ks} {rk} {n} {at} {k} node x reach at_is here absent =
    let first : at ≡ before n = at_is ∙ sym (before_is n) in
    let child = subst (IsChildFor ls x.part x.key) (sym first)
    (child_from_reach ls x.part x.key n node.asked.some reach) in
    let way = way_down node child here in
    record {
      at_is = first;
      inside = omega (arith, child.in_range, node.as_many);
      here = here ∙ ap (λ (j : ℕ). get_or ks j k) first;
      child = child;
      absent = sym (ap (λ (t : Shape). find t.entries x.part x.key) node.seen) ∙ absent;
      absent_there = sym way.found ∙ absent;
      falls = way.falls;
    }

-- the child was split, and its new sibling comes behind it
pub record IsSplitBelow (x : Entry) (s : Shape) (ls : List Separator) (ks : List Shape) (at : ℕ) (k' : Shape)
    (split : Split) : Type 0 where
  pub children : AreFilledChildren (depth_of (set ks at k')) (insert ls (at + 1) split.separator)
      (insert (set ks at k') (at + 1) split.right)
  pub depth : depth_of (set ks at k') ≡ s.depth
  pub entries : all_entries (insert (set ks at k') (at + 1) split.right) ≡ insert_entry s.entries x
  pub rooms : KeepsRoom s (inner_shape (insert (set ks at k') (at + 1) split.right))

module _ {s : Shape} {ls : List Separator} {ks : List Shape} {rk n at : ℕ} {k : Shape} (node : IsOver s ls ks rk)
    (x : Entry) (r : IsReach ls x.part x.key n) (f : IsWayIn x s ls ks n at k) (k' : Shape) (L : List Separator)
    (low : L ≡ lowered ls n x) where
  abbrev c : AreChildren (depth_of ks) ls ks
  c = node.inner.children

  to_seen : insert_entry (all_entries ks) x ≡ insert_entry s.entries x
  to_seen = sym (ap (λ (t : Shape). insert_entry t.entries x) node.seen)

  inside : before n < length ks
  inside = omega (arith, f.at_is, f.inside)

  depth_kept : k'.depth ≡ k.depth → depth_of (set ks (before n) k') ≡ s.depth
  depth_kept deep = set_deep x (depth_of ks) ls ks n k c node.inner.some r f.absent f.here k' deep ∙
      sym (ap (λ (t : Shape). t.depth) node.seen)

  pub one_more : k'.depth ≡ k.depth → k'.entries ≡ insert_entry k.entries x → KeepsRoom k k' →
      IsEdited s L (set ks at k') rk (λ es. insert_entry es x)
  one_more deep holds keeps =
      subst (λ (j : ℕ). IsEdited s L (set ks j k') rk (λ es. insert_entry es x)) (sym f.at_is) (record {
        inner = one_inner x (depth_of ks) ls ks n k c node.inner.some r f.absent f.here k' deep holds keeps.have L low
            rk node.inner.room node.inner.most;
        entries = one_entries x (depth_of ks) ls ks n k c node.inner.some r f.absent f.here k' deep holds ∙ to_seen;
        depth = depth_kept deep;
        rooms = subst (λ (t : Shape). KeepsRoom t (inner_shape (set ks (before n) k'))) (sym node.seen)
            (keeps_set ks (before n) k c.rising c.roomed inside f.here k' keeps);
      })

  pub two_more : (split : Split) → HasSplit k.depth (insert_entry k.entries x) k' split →
      RoomIsSplit k k' split.right → IsSplitBelow x s L ks at k' split
  two_more split h room =
      subst (λ (j : ℕ). IsSplitBelow x s L ks j k' split) (sym f.at_is) (record {
        children = two_children x (depth_of ks) ls ks n k c node.inner.some r f.absent f.here k' split h room.roomed
            room.right_roomed L low;
        depth = depth_kept h.depth;
        entries = two_entries x (depth_of ks) ls ks n k c node.inner.some r f.absent f.here k' split h ∙ to_seen;
        rooms = subst (λ (t : Shape). KeepsRoom t (inner_shape (insert (set ks (before n) k') (before n + 1)
            split.right))) (sym node.seen)
            (keeps_split ks (before n) k c.rising c.roomed inside f.here k' split.right
            (insert (set ks (before n) k') (before n + 1) split.right)
            (children_are x (depth_of ks) ls ks n k c node.inner.some r f.absent f.here k' split h) room);
      })
