use Rattle.std.proofs.Common.{◌≡◌, ◌<◌, ℕ, List, true, length, get_or, inr, sym, ap, ◌∙◌, subst}
use Rattle.am_record.specs.Interval.{within}
use Rattle.am_record.specs.KeyNumber.{key_number, numbers_of}
use Rattle.am_record.specs.OrderedKey.{OrderedKey}
use Rattle.am_record.specs.declared.hash_key.HashKey.{HashKey}
use Rattle.am_record.proofs.FirstRows.{Record}
use Rattle.am_record.proofs.Lists.{AllByRecursion-map}
use Rattle.am_index_parts.specs.declared.apart_runs.ApartRuns.{ApartRuns}
use Rattle.am_index_parts.specs.declared.run_filters.RunFilters.{RunFilters}
use Rattle.am_index_parts.specs.ApartRuns.{AreInOrder}
use Rattle.am_index_parts.specs.RunKeys.{IsFiltered, IsKnown}
use Rattle.am_index_parts.proofs.KnownKeys.{known_more, none_lives_there, all_clear, each_entered}
use Rattle.am_index_parts.proofs.run_entry.enter_keys.Goals as goal

pub returns-then-is_clear-clause-dead : goal.returns-then-is_clear-clause-dead
returns-then-is_clear-clause-dead g c =
    let rs = g.S.RecordSource.records c.args.records.now in
    none_lives_there (g.I.PartIndex.entries c.args.index.now) c.args.keys.now c.range_of-range.result c.requires.known
    (c.is_clear.ensures.apart c.if-is_clear.true) (c.is_clear.ensures.others c.if-is_clear.true) rs
    c.range_of-range.ensures

pub returns-then-is_clear-clause-known : goal.returns-then-is_clear-clause-known
returns-then-is_clear-clause-known g c =
    known_more (g.I.PartIndex.entries c.args.index.now) c.args.keys.now c.enter_apart.new.self
    (λ _. c.enter_apart.ensures.order) c.enter_apart.ensures.kept c.requires.known

pub returns-then-is_clear-clause-entered : goal.returns-then-is_clear-clause-entered
returns-then-is_clear-clause-entered g c =
    let rs = g.S.RecordSource.records c.args.records.now in
    AllByRecursion-map (λ (r : Record). within c.range_of-range.result r.0 ≡ true)
    (λ (r : Record). IsKnown c.enter_apart.new.self true c.args.part r.0)
    (λ r there. c.in_ok-enter_apart.ensures.entered r.0 there) rs c.range_of-range.ensures

pub live_in_none-requires-clause-clear : goal.live_in_none-requires-clause-clear
live_in_none-requires-clause-clear g c = λ sure.
    let rs = g.S.RecordSource.records c.args.records.now in
    all_clear c.end_meeting.new.keys.apart.list.items c.range_of-range.result rs
    (c.in_ok-are_known.ensures.clear sure) c.range_of-range.ensures

pub returns-in_err-enter_run-clause-known : goal.returns-in_err-enter_run-clause-known
returns-in_err-enter_run-clause-known g c =
    known_more (g.I.PartIndex.entries c.args.index.now) c.end_meeting.new.keys c.enter_run.new.self
    (subst (λ (a : ApartRuns). AreInOrder a.list.items) (sym c.enter_run.ensures.apart)) c.enter_run.ensures.kept
    c.end_meeting.ensures.known

pub returns-clause-known : goal.returns-clause-known
returns-clause-known g c =
    known_more (g.I.PartIndex.entries c.args.index.now) c.end_meeting.new.keys c.enter_run.new.self
    (subst (λ (a : ApartRuns). AreInOrder a.list.items) (sym c.enter_run.ensures.apart)) c.enter_run.ensures.kept
    c.end_meeting.ensures.known

pub returns-clause-entered : goal.returns-clause-entered
returns-clause-entered g c =
    let rs = g.S.RecordSource.records c.args.records.now in
    let new = c.enter_run.new.self in
    let hash = new.filters.hash in
    let range = c.range_of-range.result in
    let numbers : c.deref-2.result.now ≡ numbers_of hash rs = c.deref-2.ensures.value ∙ c.in_ok-numbers.ensures ∙
    ap (λ (f : RunFilters). numbers_of f.hash rs) c.filters.ensures ∙
    ap (λ (h : HashKey). numbers_of h rs) (sym c.enter_run.ensures.hash) in
    each_entered (λ (key : OrderedKey). IsKnown new true c.args.part key) range hash rs c.range_of-range.ensures
    (λ key k d inside lt is. inr (subst (λ (l : List ℕ). (k' d' : ℕ) → k' < length l →
    get_or l k' d' ≡ key_number hash key → IsFiltered new true c.args.part key) numbers
    (λ k' d' lt' is'. c.in_ok-enter_run.ensures.entered key k' d' inside lt' is') k d lt is))
