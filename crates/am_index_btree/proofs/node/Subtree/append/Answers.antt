use Rattle.std.proofs.Common.{◌≡◌, ◌<◌, ◌+◌, ◌-◌, ℕ, suc, List, [], ◌++◌, length, get_or, take, sym, ap, ◌∙◌}
use Rattle.std.proofs.Common.{subst, add-one, append-nil, arith}
use Rattle.std.specs.Prelude.{IsSome}
use Rattle.std.proofs.lemmas.List.{get_or_default}
use Rattle.am_record.specs.OrderedKey.{key_least}
use Rattle.am_record.specs.declared.entry.Entry.{Entry}
use Rattle.am_record.proofs.Outcomes.{on_ok}
use Rattle.am_record.proofs.FirstRows.{Record}
use Rattle.am_index.specs.Entries.{find, insert_entry, remove_entry, IsRising}
use Rattle.am_index.specs.Runs.{live_entry, run_entries}
use Rattle.am_index.proofs.Rooms.{keep_all}
use Rattle.am_index.proofs.Runs.{rising_with_run}
use Rattle.am_index_btree.specs.Shape.{Shape}
use Rattle.am_index_btree.proofs.ChildInserts.{insert_some}
use Rattle.am_index_btree.proofs.NewRoots.{tree_rises}
use Rattle.am_index_btree.proofs.ValueRooms.{tree_roomed, keeps_further}
use Rattle.am_index_btree.proofs.LeafFills.{left_rise, further}
use Rattle.am_index_btree.proofs.AppendedRecords.{free, put, stands, out}
use Rattle.am_index_btree.proofs.CutLeaves.{just_one}
use Rattle.am_index_btree.proofs.node.Subtree.append.Goals as goal

pub put-init : goal.put-init
put-init g c = record {
  most = omega arith;
  so_far = sym (append-nil c.args.self.now.entries);
  rooms = keep_all c.args.self.now.roomy c.args.self.now.entries
      (tree_roomed c.self.inside.node c.self.invariant c.args.self.now c.self.view_is);
}

pub insert-requires : goal.insert-requires
insert-requires g c =
    let part = c.args.part in let rs = g.S.RecordSource.records c.args.records.now in let i = c.put.added in
    let r = c.get-key.result in
    let lt : i < length rs = omega (arith, c.put-test.true, c.len-count.ensures) in
    ap (λ (l : List Entry). find l part r.0) c.put.invariant.so_far ∙
    free part c.args.self.now.entries rs c.requires.above c.requires.rising i r lt
    (c.get-key.ensures ∙ get_or_default rs i _ r lt)

pub fill_last-added-requires-clause-some : goal.fill_last-added-requires-clause-some
fill_last-added-requires-clause-some g c =
    subst (λ (l : List Entry). 0 < length l) (sym
    (on_ok c.insert.result (sym c.is_err.ensures.value ∙ c.if-is_err.false) c.insert.ensures.ok))
    (insert_some c.put.self.entries _)

pub fill_last-added-requires-clause-rising : goal.fill_last-added-requires-clause-rising
fill_last-added-requires-clause-rising g c =
    let part = c.args.part in let rs = g.S.RecordSource.records c.args.records.now in let i = c.put.added in
    let es = c.args.self.now.entries in let r = c.get-key.result in
    let lt : i < length rs = omega (arith, c.put-test.true, c.len-count.ensures) in
    let is : c.insert.new.self.entries ≡ insert_entry c.put.self.entries (live_entry part r) =
    on_ok c.insert.result (sym c.is_err.ensures.value ∙ c.if-is_err.false) c.insert.ensures.ok in
    let now : c.insert.new.self.entries ≡ es ++ run_entries part (take (i + 1) rs) =
    rw add-one (put part es rs c.requires.above c.requires.rising i r lt
    (c.get-key.ensures ∙ get_or_default rs i _ r lt) c.put.invariant.so_far is) in
    let tree = subst (λ (s : Shape). IsRising s.entries) c.self.view_is
    (tree_rises c.self.inside.node c.self.invariant) in
    let all = rising_with_run part es rs tree c.requires.above c.requires.rising in
    left_rise part es rs all (i + 1) now

pub put-preserved : goal.put-preserved
put-preserved g c =
    let part = c.args.part in let rs = g.S.RecordSource.records c.args.records.now in let i = c.put.added in
    let es = c.args.self.now.entries in let r = c.get-key.result in
    let lt : i < length rs = omega (arith, c.put-test.true, c.len-count.ensures) in
    let is : c.insert.new.self.entries ≡ insert_entry c.put.self.entries (live_entry part r) =
    on_ok c.insert.result (sym c.is_err.ensures.value ∙ c.if-is_err.false) c.insert.ensures.ok in
    let now : c.insert.new.self.entries ≡ es ++ run_entries part (take (i + 1) rs) =
    rw add-one (put part es rs c.requires.above c.requires.rising i r lt
    (c.get-key.ensures ∙ get_or_default rs i _ r lt) c.put.invariant.so_far is) in
    let tree = subst (λ (s : Shape). IsRising s.entries) c.self.view_is
    (tree_rises c.self.inside.node c.self.invariant) in
    let all = rising_with_run part es rs tree c.requires.above c.requires.rising in
    let roomed = tree_roomed c.self.inside.node c.self.invariant c.args.self.now c.self.view_is in
    record {
      most = c.fill_last-added.ensures.most;
      so_far = further part es rs all (i + 1) c.fill_last-added.result now c.fill_last-added.ensures.entries;
      rooms = keeps_further c.args.self.now c.insert.new.self c.fill_last-added.new.self roomed
          (run_entries part (take (i + 1) rs)) now
          (keeps_further c.args.self.now c.put.self c.insert.new.self roomed (run_entries part (take i rs))
          c.put.invariant.so_far c.put.invariant.rooms c.insert.ensures.rooms)
          c.fill_last-added.ensures.rooms;
    }

pub remove-requires-clause-present : goal.remove-requires-clause-present
remove-requires-clause-present g c =
    let part = c.args.part in let rs = g.S.RecordSource.records c.args.records.now in
    let i : ℕ = c.take.added - 1 in let es = c.args.self.now.entries in let r : Record = get_or rs i (key_least, []) in
    let lt : i < length rs = omega (arith, c.take-test.true, c.take.invariant.most) in
    let at : c.take.added ≡ suc i = omega (arith, c.take-test.true) in
    let was = subst (λ (n : ℕ). c.take.self.entries ≡ es ++ run_entries part (take n rs)) at c.take.invariant.so_far in
    subst (λ k. IsSome (find c.take.self.entries part k)) (sym c.key.ensures)
    (stands part es rs c.requires.above c.requires.rising i r lt (get_or_default rs i _ r lt) was)

pub take-preserved : goal.take-preserved
take-preserved g c =
    let part = c.args.part in let rs = g.S.RecordSource.records c.args.records.now in
    let i : ℕ = c.take.added - 1 in let es = c.args.self.now.entries in let r : Record = get_or rs i (key_least, []) in
    let lt : i < length rs = omega (arith, c.take-test.true, c.take.invariant.most) in
    let at : c.take.added ≡ suc i = omega (arith, c.take-test.true) in
    let was = subst (λ (n : ℕ). c.take.self.entries ≡ es ++ run_entries part (take n rs)) at c.take.invariant.so_far in
    record {
      most = omega (arith, c.take.invariant.most);
      so_far = out part es rs c.requires.above c.requires.rising i r lt (get_or_default rs i _ r lt) was
          (c.remove.ensures.others ∙ just_one c.take.self.entries part c.key.result c.remove.result.count
          c.remove.ensures.some c.remove.ensures.most ∙
          ap (λ k. remove_entry c.take.self.entries part k) c.key.ensures);
      rooms = keeps_further c.args.self.now c.take.self c.remove.new.self
          (tree_roomed c.self.inside.node c.self.invariant c.args.self.now c.self.view_is)
          (run_entries part (take c.take.added rs)) c.take.invariant.so_far c.take.invariant.rooms
          c.remove.ensures.rooms;
    }
