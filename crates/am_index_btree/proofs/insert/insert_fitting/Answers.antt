use Rattle.std.proofs.Common.{◌≡◌, ℕ, ◌<◌, List, [], ◌∷◌, zero, suc, length, get_or}
use Rattle.std.proofs.Common.{refl, sym, ap, ◌∙◌, subst, length-take, arith}
use Rattle.am_record.specs.EntryOrder.{place_of}
use Rattle.am_index.specs.Entries.{IsRising}
use Rattle.am_index.proofs.Searches.{insert_gap, rising_insert_gap, find_present}
use Rattle.am_index.proofs.Lists.{rising_front}
use Rattle.std.specs.List.{insert}
use Rattle.std.proofs.lemmas.List.Edits.{length-insert}
use Rattle.am_index_btree.specs.Separators.{separator_place}
use Rattle.am_index_btree.proofs.ValueRooms.{leaf_keeps, leaves_keep}
use Rattle.am_index_btree.specs.Splits.{lower_size}
use Rattle.am_index_btree.proofs.Halves.{half_stays, size_range}
use Rattle.am_index_btree.proofs.LeafSplit.{joined, rising_both, rising_upper, upper_long, parted_at}
use Rattle.am_index_btree.proofs.insert.insert_fitting.Goals as goal

pub returns-then-len-lt-ROOM-clause-ok : goal.returns-then-len-lt-ROOM-clause-ok
returns-then-len-lt-ROOM-clause-ok c = (
  (
    refl,
    c.insert_at.ensures.entries ∙
        insert_gap c.args.leaf.now.entries c.args.entry.now c.in-Err.at c.in-Err.ensures.absent,
  ),
  (
    tt,
    leaf_keeps c.args.leaf.now c.insert_at.new.self c.len.ensures.room
        (omega (arith, c.insert_at.ensures.same_room.values)),
  ),
)

pub returns-then-len-lt-ROOM-clause-rising : goal.returns-then-len-lt-ROOM-clause-rising
returns-then-len-lt-ROOM-clause-rising c = subst IsRising (sym c.insert_at.ensures.entries)
    (rising_insert_gap c.args.leaf.now.entries c.args.entry.now c.in-Err.at c.in-Err.ensures.absent
    c.in-Err.ensures.rising)

pub invariant_of-right : goal.invariant_of-right
invariant_of-right c =
    let xs = c.args.leaf.now.entries in let x = c.args.entry.now in let i = c.in-Err.at in
    let gap = c.in-Err.ensures.absent
    in let m = lower_size c.keep_of.result i in
    let out = c.in_ok-upper.ensures in
    let range = size_range c.keep_of.result i c.keep_of.ensures.keeps c.keep_of.ensures.room in
    let long = upper_long xs x i gap c.in-Err.ensures.rising m c.split_insert-split.new.leaf.entries
    c.in_ok-upper.upper.entries out.front out.back in (
      omega (arith, c.len-len.ensures.most, c.len-len.ensures.all),
      (
        rising_upper xs x i gap c.in-Err.ensures.rising m c.split_insert-split.new.leaf.entries
            c.in_ok-upper.upper.entries out.front out.back,
        c.len-3.ensures.room,
      ),
    )

pub get-requires : goal.get-requires
get-requires c =
    let xs = c.args.leaf.now.entries in let x = c.args.entry.now in let i = c.in-Err.at in
    let gap = c.in-Err.ensures.absent
    in let m = lower_size c.keep_of.result i in
    let out = c.in_ok-upper.ensures in
    let range = size_range c.keep_of.result i c.keep_of.ensures.keeps c.keep_of.ensures.room in
    let long = upper_long xs x i gap c.in-Err.ensures.rising m c.split_insert-split.new.leaf.entries
    c.in_ok-upper.upper.entries out.front out.back in
    omega (arith, c.len-len.ensures.all, c.if-len-lt-ROOM.false)

pub returns-clause-ok : goal.returns-clause-ok
returns-clause-ok c =
    let xs = c.args.leaf.now.entries in let x = c.args.entry.now in let i = c.in-Err.at in
    let gap = c.in-Err.ensures.absent
    in let m = lower_size c.keep_of.result i in
    let out = c.in_ok-upper.ensures in let lower = c.split_insert-split.new.leaf.entries in
    let upper = c.in_ok-upper.upper.entries in
    let range = size_range c.keep_of.result i c.keep_of.ensures.keeps c.keep_of.ensures.room in
    let long = upper_long xs x i gap c.in-Err.ensures.rising m lower upper out.front out.back in
    let longer = length-insert xs i x gap.in_range in
    let some : 0 < length upper = omega (arith, c.len-len.ensures.all, c.if-len-lt-ROOM.false) in
    let cut = length-take m (insert xs i x) in
    let first = c.get.result in
    let separator = c.of-separator.result in
    let risen = rising_both xs x i gap c.in-Err.ensures.rising m lower upper out.front out.back in
    let parted = parted_at lower upper (separator_place separator) risen some
    (λ d. ap separator_place c.of-separator.ensures ∙
    ap place_of (c.get.ensures ∙ same_default upper 0 first d some)) in (
      record {
        depth = refl;
        right_depth = refl;
        entries = joined xs x i gap c.in-Err.ensures.rising m lower upper out.front out.back;
        below = parted.0;
        others = parted.1;
        left_some = omega (arith, ap length out.front);
        left_half = omega (
          arith,
          half_stays _ c.keep_of.result i c.keep_of.ensures.size,
          ap length out.front,
          c.len-len.ensures.all,
          c.if-len-lt-ROOM.false,
        );
        right_some = some;
      },
      (
        c.in_ok-spares.ensures,
        leaves_keep c.args.leaf.now c.split_insert-split.new.leaf c.in_ok-upper.upper c.len-2.ensures.room
            c.len-3.ensures.room (omega (arith, out.room)) (omega (arith, out.upper_room)),
      ),
    )
  where
    same_default : {X : Type 0} (xs : List X) (k : ℕ) (c d : X) → k < length xs → get_or xs k c ≡ get_or xs k d
    same_default [] k c d lt = absurd (omega arith)
    same_default (x ∷ xs) zero c d lt = refl
    same_default (x ∷ xs) (suc k) c d lt = same_default xs k c d (omega arith)

pub returns-clause-rising : goal.returns-clause-rising
returns-clause-rising c =
    let xs = c.args.leaf.now.entries in let x = c.args.entry.now in let i = c.in-Err.at in
    let gap = c.in-Err.ensures.absent
    in let m = lower_size c.keep_of.result i in
    let out = c.in_ok-upper.ensures in
    rising_front c.split_insert-split.new.leaf.entries c.in_ok-upper.upper.entries
    (rising_both xs x i gap c.in-Err.ensures.rising m c.split_insert-split.new.leaf.entries c.in_ok-upper.upper.entries
    out.front out.back)

pub unreachable-requires : goal.unreachable-requires
unreachable-requires c = find_present c.args.leaf.now.entries c.args.entry.now.part c.args.entry.now.key
    c.in_default.field-0 c.in_default.ensures.found c.requires.absent
