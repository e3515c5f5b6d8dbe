use Rattle.std.proofs.Common.{◌≡◌, ◌<◌, ◌≤◌, length, ◌++◌, get_or, take, drop, sym, ap, ◌∙◌, subst, length-drop}
use Rattle.std.proofs.Common.{length-take, arith}
use Rattle.std.proofs.lemmas.List.Edits.{length-insert}
use Rattle.std.specs.List.{insert}
use Rattle.am_index_btree.specs.declared.separator.Separator.{Separator}
use Rattle.am_index_btree.specs.Separators.{separator_place}
use Rattle.am_index.specs.Places.{AllBelow, NoneBelow}
use Rattle.am_index_leaf.specs.Bits.{inserted_bit}
use Rattle.am_index_btree.specs.Splits.{lower_size}
use Rattle.am_index_btree.specs.Ghosts.{marks_of}
use Rattle.am_index_btree.specs.Nodes.{all_entries, depth_of}
use Rattle.am_index_btree.proofs.Halves.{half_stays, size_range}
use Rattle.am_index_btree.proofs.ChildHalves.{inner_from, depth_level, all_entries_cut, children_taken}
use Rattle.am_index_btree.proofs.ChildHalves.{children_dropped}
use Rattle.am_index_btree.proofs.ChildHalves.{parted_cut, parted_lengths, some_entries, many_entries, get_dropped}
use Rattle.am_index_btree.proofs.Marks.{marks_fit, marks_insert}
use Rattle.am_index_btree.proofs.ValueRooms.{same_children, cut_keeps}
use Rattle.am_index_btree.proofs.insert.add_child.Goals as goal

pub returns-then-len-lt-ROOM-clause-inner : goal.returns-then-len-lt-ROOM-clause-inner
returns-then-len-lt-ROOM-clause-inner c =
    let i = c.args.at in let s = c.args.split in
    let ls = insert c.args.separators.now i s.separator in let ks = insert c.args.children.now.items i s.right in
    let d = depth_of c.args.children.now.items in
    let count = c.args.children.now.ok.0 in
    let long = length-insert c.args.children.now.items i s.right (omega (arith, c.requires.in_range)) in
    inner_from d ls ks c.put.new.self c.put-then-len-lt-ROOM.new.v.items _ c.put.ensures
    c.put-then-len-lt-ROOM.ensures.items c.requires.children
    (omega arith) (omega (arith, c.if-len-lt-ROOM.true, c.len.ensures))
    (omega (arith, c.put-then-len-lt-ROOM.ensures.capacity, c.requires.room))

pub returns-then-len-lt-ROOM-clause-holds : goal.returns-then-len-lt-ROOM-clause-holds
returns-then-len-lt-ROOM-clause-holds c =
    let i = c.args.at in let s = c.args.split in let ks = insert c.args.children.now.items i s.right in
    let d = depth_of c.args.children.now.items in
    let count = c.args.children.now.ok.0 in
    let long = length-insert c.args.children.now.items i s.right (omega (arith, c.requires.in_range)) in (
      ap depth_of c.put-then-len-lt-ROOM.ensures.items ∙ depth_level d ks (omega arith) c.requires.children.level,
      ap all_entries c.put-then-len-lt-ROOM.ensures.items,
    )

pub invariant_of-result : goal.invariant_of-result
invariant_of-result c =
    let i = c.args.at in let s = c.args.split in let m = lower_size c.keep_of-keep.result i in
    let ls = insert c.args.separators.now i s.separator in let ks = insert c.args.children.now.items i s.right in
    let d = depth_of c.args.children.now.items in
    let count = c.args.children.now.ok.0 in let range = size_range c.keep_of-keep.result i c.keep_of-keep.ensures.keeps
    c.keep_of-keep.ensures.room in
    let long = length-insert c.args.children.now.items i s.right (omega (arith, c.requires.in_range)) in
    let cut = length-drop m ks in (
      inner_from d (drop m ls) (drop m ks) c.split_put.new.upper c.split_put-2.new.upper.items _
          c.split_put.ensures.back c.split_put-2.ensures.back (children_dropped m d ls ks c.requires.children)
          (omega (arith, c.if-len-lt-ROOM.false, c.len.ensures)) (omega (arith, c.requires.most))
          (omega (arith, c.split_put-2.ensures.capacity, c.in-Some.spare.room)),
      c.marks_of-upper_marks.ensures ∙ ap marks_of c.deref-2.ensures.value,
    )

pub returns-clause-inner : goal.returns-clause-inner
returns-clause-inner c =
    let i = c.args.at in let s = c.args.split in let m = lower_size c.keep_of-keep.result i in
    let ls = insert c.args.separators.now i s.separator in let ks = insert c.args.children.now.items i s.right in
    let d = depth_of c.args.children.now.items in
    let count = c.args.children.now.ok.0 in let range = size_range c.keep_of-keep.result i c.keep_of-keep.ensures.keeps
    c.keep_of-keep.ensures.room in
    let long = length-insert c.args.children.now.items i s.right (omega (arith, c.requires.in_range)) in
    let cut = length-take m ks in
    inner_from d (take m ls) (take m ks) c.split_put.new.self c.split_put-2.new.v.items _ c.split_put.ensures.front
    c.split_put-2.ensures.front (children_taken m d ls ks c.requires.children)
    (omega arith) (omega arith) (omega (arith, c.split_put-2.ensures.capacity, c.requires.room))

pub returns-clause-holds : goal.returns-clause-holds
returns-clause-holds c =
    let i = c.args.at in let s = c.args.split in let m = lower_size c.keep_of-keep.result i in
    let ls = insert c.args.separators.now i s.separator in let ks = insert c.args.children.now.items i s.right in
    let d = depth_of c.args.children.now.items in
    let count = c.args.children.now.ok.0 in let range = size_range c.keep_of-keep.result i c.keep_of-keep.ensures.keeps
    c.keep_of-keep.ensures.room in
    let long = length-insert c.args.children.now.items i s.right (omega (arith, c.requires.in_range)) in
    let full : m < length ks = omega (arith, c.if-len-lt-ROOM.false, c.len.ensures) in
    let cut = length-take m ks in let left = length-drop m ks in
    let all = c.requires.children in
    let lower = children_taken m d ls ks all in let upper = children_dropped m d ls ks all in
    let front = c.split_put-2.ensures.front in let back = c.split_put-2.ensures.back in
    let first = c.get-first.result in
    let low : first ≡ get_or ls m first = c.get-first.ensures ∙
    ap (λ es. get_or es 0 first) c.split_put.ensures.back ∙ get_dropped m ls first in
    let apart = parted_cut m ls ks first all.parted all.filled (omega (arith, parted_lengths ls ks all.parted)) in
    record {
      depth = ap depth_of front ∙ depth_level d (take m ks) (omega arith) lower.level;
      right_depth = ap depth_of back ∙ depth_level d (drop m ks) (omega arith) upper.level;
      entries = ap (λ js. all_entries js ++ all_entries c.split_put-2.new.upper.items) front ∙
          ap (λ js. all_entries (take m ks) ++ all_entries js) back ∙ all_entries_cut m ks;
      below = subst (λ js. AllBelow (separator_place first) (all_entries js)) (sym front)
          (subst (λ (l : Separator). AllBelow (separator_place l) (all_entries (take m ks))) (sym low) apart.0);
      others = subst (λ js. NoneBelow (separator_place first) (all_entries js)) (sym back)
          (subst (λ (l : Separator). NoneBelow (separator_place l) (all_entries (drop m ks))) (sym low) apart.1);
      left_some = subst (λ js. 0 < length (all_entries js)) (sym front)
          (some_entries (take m ks) (omega arith) lower.filled);
      left_half = subst (λ js. 16 ≤ length (all_entries js)) (sym front)
          (omega (
            arith,
            many_entries (take m ks) lower.filled,
            half_stays _ c.keep_of-keep.result i
                c.keep_of-keep.ensures.size,
            cut,
            full,
          ));
      right_some = subst (λ js. 0 < length (all_entries js)) (sym back)
          (some_entries (drop m ks) (omega arith) upper.filled);
    }

pub returns-then-len-lt-ROOM-clause-rooms : goal.returns-then-len-lt-ROOM-clause-rooms
returns-then-len-lt-ROOM-clause-rooms c =
    same_children (insert c.args.children.now.items c.args.at c.args.split.right) c.put-then-len-lt-ROOM.new.v.items
    c.put-then-len-lt-ROOM.ensures.items c.requires.children.roomed

pub returns-clause-rooms : goal.returns-clause-rooms
returns-clause-rooms c =
    cut_keeps (lower_size c.keep_of-keep.result c.args.at)
    (insert c.args.children.now.items c.args.at c.args.split.right)
    c.split_put-2.new.v.items c.split_put-2.new.upper.items c.split_put-2.ensures.front c.split_put-2.ensures.back
    c.requires.children.roomed

-- ---- the bits

pub insert_bit-requires-clause-room : goal.insert_bit-requires-clause-room
insert_bit-requires-clause-room c =
    let count = c.args.children.now.ok.0 in
    let h = marks_fit c.args.children.now.items 31 (omega (arith, c.if-len-lt-ROOM.true, c.len.ensures)) in
    omega (arith, h, c.requires.marked)

pub returns-then-len-lt-ROOM-clause-marked : goal.returns-then-len-lt-ROOM-clause-marked
returns-then-len-lt-ROOM-clause-marked c =
    let i = c.args.at in let ks = c.args.children.now.items in let right = c.args.split.right in
    let count = c.args.children.now.ok.0 in
    c.insert_bit.ensures ∙
    (λ j. inserted_bit (c.requires.marked j) i (c.has_ghost.ensures j)) ∙
    marks_insert ks i right (omega (arith, c.requires.in_range)) ∙
    sym (ap marks_of c.put-then-len-lt-ROOM.ensures.items)

pub marks_of-upper_marks-requires : goal.marks_of-upper_marks-requires
marks_of-upper_marks-requires c =
    let i = c.args.at in let m = lower_size c.keep_of-keep.result i in
    let ks = insert c.args.children.now.items i c.args.split.right in
    let count = c.args.children.now.ok.0 in let range = size_range c.keep_of-keep.result i c.keep_of-keep.ensures.keeps
    c.keep_of-keep.ensures.room in
    let long = length-insert c.args.children.now.items i c.args.split.right (omega (arith, c.requires.in_range)) in
    let cut = length-drop m ks in
    omega (arith, ap length c.deref-2.ensures.value, ap length c.split_put-2.ensures.back, c.requires.most)

pub get-first-requires : goal.get-first-requires
get-first-requires c =
    let i = c.args.at in let m = lower_size c.keep_of-keep.result i in
    let ls = insert c.args.separators.now i c.args.split.separator in
    let count = c.args.children.now.ok.0 in let range = size_range c.keep_of-keep.result i c.keep_of-keep.ensures.keeps
    c.keep_of-keep.ensures.room in
    let long = length-insert c.args.separators.now i c.args.split.separator
    (omega (arith, c.requires.in_range, c.requires.pairs)) in
    let cut = length-drop m ls in
    omega (arith, ap length c.split_put.ensures.back, c.requires.pairs, c.if-len-lt-ROOM.false, c.len.ensures)
