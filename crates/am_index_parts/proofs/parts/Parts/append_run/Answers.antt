use Rattle.std.proofs.Common.{◌≡◌, ◌+◌, ◌≤◌, ◌++◌, List, sym, ap, ◌∙◌, subst, arith}
use Rattle.std.specs.List.{AllByRecursion}
use Rattle.am_record.specs.Plain.{insert_all}
use Rattle.am_record.specs.declared.entry.Entry.{Entry}
use Rattle.am_index.specs.Content.{content, HasContent}
use Rattle.am_index.specs.Runs.{run_entries}
use Rattle.am_index_parts.specs.Catalogs.{IsCatalog}
use Rattle.am_index_parts.specs.MergedRanges.{AreMerged}
use Rattle.am_index_parts.specs.Partitions.{Partitions, AreWellFormed, AreAllAbsent, LivesInNoRun, NoneLiveIn}
use Rattle.am_index_parts.specs.RunKeys.{AreKnown}
use Rattle.am_index_parts.proofs.KnownKeys.{known_appended}
use Rattle.am_index_parts.proofs.KeyLooks.{all_absent}
use Rattle.am_index_parts.proofs.OneRunMore.{is_next, next_rises, next_content, next_sound}
use Rattle.am_index_parts.proofs.MergedKnowledge.{merged_appended}
use Rattle.am_index_parts.proofs.parts.Parts.append_run.Goals as goal

pub append_run-requires-clause-above : goal.append_run-requires-clause-above
append_run-requires-clause-above g c =
    let rs = g.S.RecordSource.records c.args.records.now in
    (is_next _ c.self.inside.runs rs
    (subst (λ (p : Partitions). AllByRecursion (λ (e : Entry). e.part ≤ p.runs) p.entries) (sym c.self.view_is)
    c.requires.above) c.requires.rising).above

pub append_run-requires-clause-rising : goal.append_run-requires-clause-rising
append_run-requires-clause-rising g c =
    let rs = g.S.RecordSource.records c.args.records.now in
    next_rises c.self.inside.runs rs c.self.invariant.0
    (subst (λ (p : Partitions). AllByRecursion (λ (e : Entry). e.part ≤ p.runs) p.entries) (sym c.self.view_is)
    c.requires.above) c.requires.rising

pub invariant_of-self-2 : goal.invariant_of-self-2
invariant_of-self-2 g c =
    let rs = g.S.RecordSource.records c.args.records.now in
    let es = g.I.PartIndex.entries c.self.inside.index in
    let runs : c.self.inside.runs ≡ c.args.self.now.runs = ap (λ (p : Partitions). p.runs) c.self.view_is in
    let above = subst (λ (p : Partitions). AllByRecursion (λ (e : Entry). e.part ≤ p.runs) p.entries)
    (sym c.self.view_is) c.requires.above in
    let none = subst (λ (p : Partitions). NoneLiveIn p.entries 0 rs) (sym c.self.view_is)
    c.requires.in_final in
    let dead = all_absent c.self.invariant.0 rs none.none c.in_ok-enter_keys.ensures.dead in
    let is = c.in_ok-append_run.ensures.ok in (
      subst AreWellFormed (sym is)
          (next_sound c.self.inside.runs rs c.self.invariant.0 above c.requires.rising dead
          (omega (arith, runs, c.requires.room))),
      omega (arith, runs, c.requires.room),
      subst (λ (es : List Entry). IsCatalog es c.push.new.self) (sym is)
          (c.push.ensures _ rs c.len-2.ensures (c.make_room.ensures.same _ c.self.invariant.2)
          (is_next _ c.self.inside.runs rs above c.requires.rising)),
      subst (λ (es : List Entry). AreKnown es c.enter_keys.new.keys) (sym is)
          (known_appended c.enter_keys.new.keys es c.enter_keys.ensures.known (c.self.inside.runs + 1)
          rs c.in_ok-enter_keys.ensures.entered),
      subst (λ (es : List Entry). AreMerged es (c.self.inside.runs + 1) c.reserve.new.self.list.items) (sym is)
          (merged_appended es c.self.inside.runs rs c.reserve.new.self.list.items
          (subst (AreMerged es c.self.inside.runs) (sym c.reserve.ensures) c.self.invariant.4)),
      c.append_run.ensures.rooms.have,
    )

pub let_go-requires : goal.let_go-requires
let_go-requires g c =
    let es = g.I.PartIndex.entries c.self.inside.index in
    record { counted = (es, c.make_room.ensures.same es c.self.invariant.2); order = c.self.invariant.3.order }

pub enter_keys-requires-clause-known : goal.enter_keys-requires-clause-known
enter_keys-requires-clause-known g c =
    let es = g.I.PartIndex.entries c.self.inside.index in
    c.let_go.ensures es (c.make_room.ensures.same es c.self.invariant.2) c.self.invariant.3

pub invariant_of-self-in_err-enter_keys : goal.invariant_of-self-in_err-enter_keys
invariant_of-self-in_err-enter_keys g c =
    let es = g.I.PartIndex.entries c.self.inside.index in (
      c.self.invariant.0,
      c.self.invariant.1,
      c.make_room.ensures.same es c.self.invariant.2,
      c.enter_keys.ensures.known,
      subst (AreMerged es c.self.inside.runs) (sym c.reserve.ensures) c.self.invariant.4,
      c.self.invariant.5,
    )

pub invariant_of-self-in_err-append_run : goal.invariant_of-self-in_err-append_run
invariant_of-self-in_err-append_run g c =
    let es = g.I.PartIndex.entries c.self.inside.index in
    let same = c.in_err-append_run.ensures.err in (
      subst AreWellFormed (sym same) c.self.invariant.0,
      c.self.invariant.1,
      subst (λ (l : List Entry). IsCatalog l c.make_room.new.self) (sym same)
          (c.make_room.ensures.same es c.self.invariant.2),
      subst (λ (l : List Entry). AreKnown l c.enter_keys.new.keys) (sym same) c.enter_keys.ensures.known,
      subst (λ (l : List Entry). AreMerged l c.self.inside.runs c.reserve.new.self.list.items) (sym same)
          (subst (AreMerged es c.self.inside.runs) (sym c.reserve.ensures) c.self.invariant.4),
      c.append_run.ensures.rooms.have,
    )

pub returns-clause-dead : goal.returns-clause-dead
returns-clause-dead g c =
    let rs = g.S.RecordSource.records c.args.records.now in
    let none = subst (λ (p : Partitions). NoneLiveIn p.entries 0 rs) (sym c.self.view_is)
    c.requires.in_final in
    subst (λ (p : Partitions). AreAllAbsent p.entries rs) c.self.view_is
    (all_absent c.self.invariant.0 rs none.none c.in_ok-enter_keys.ensures.dead)

pub returns-clause-content : goal.returns-clause-content
returns-clause-content g c =
    let now = c.args.self.now in
    let records = g.S.RecordSource.records c.args.records.now in
    let sound = subst (λ (p : Partitions). AreWellFormed p.entries) c.self.view_is c.self.invariant.0 in
    let dead = all_absent sound records c.requires.in_final.none
    (subst (λ (p : Partitions). AllByRecursion (λ r. LivesInNoRun p.entries r.0) records) c.self.view_is
    c.in_ok-enter_keys.ensures.dead) in
    let is : g.I.PartIndex.entries c.append_run.new.self ≡ now.entries ++ run_entries (now.runs + 1) records =
    c.in_ok-append_run.ensures.ok ∙
    ap (λ (p : Partitions). p.entries ++ run_entries (p.runs + 1) records) c.self.view_is in
    subst (λ (es : List Entry). HasContent es (insert_all records (content now.entries))) (sym is)
    (next_content now.runs records sound c.requires.above c.requires.rising dead)
