use Rattle.std.proofs.Common.{◌≡◌, ◌+◌, [], ◌∷◌, get_or, drop, sym, ap, ◌∙◌, subst, arith}
use Rattle.std.proofs.lemmas.Bool.{both_ways}
use Rattle.std.proofs.lemmas.List.{drop_more, length-drop}
use Rattle.std.specs.Option.{option_copied}
use Rattle.am_record.specs.OrderedKey.{key_eq-exact, key_least}
use Rattle.am_record.specs.Plain.{Records, is_key_of}
use Rattle.am_record.proofs.FirstRows.{key_eq, Record}
use Rattle.am_index.specs.Entries.{next_from}
use Rattle.am_store_loads.specs.Walk.{IsWalkFrom}
use Rattle.am_store_loads.proofs.PassedEntries.{IsLeft, all_left, ends_here, found, passes_on, none_left, same_key}
use Rattle.am_store_loads.proofs.PassedEntries.{not_below}
use Rattle.am_store_loads.proofs.PassedEntries.{first_is_key}
use Rattle.am_store_loads.proofs.PartitionWalks.{begins_along, goes_along}
use Rattle.am_store_loads.proofs.look.least_live_in.Given.{Over}
use Rattle.am_store_loads.proofs.look.least_live_in.Goals as goal
use Rattle.am_store_loads.proofs.look.least_live_in.Goals.{After-key-key, After-entry, else-eq-via-else-eq}
use Rattle.am_store_loads.proofs.look.least_live_in.Goals.{else-eq-via-then-eq+else-not-entry}

-- the record at the place
abbrev here : (g : Over) → After-key-key g → Record
here g c = get_or (g.S.RecordSource.records c.args.records.now) c.loop-at.at (key_least, [])

-- those after it
abbrev above : (g : Over) → After-key-key g → Records
above g c = drop (c.loop-at.at + 1) (g.S.RecordSource.records c.args.records.now)

-- the records that are left, the first of them apart
left_are : (g : Over) (c : After-key-key g) →
    drop c.loop-at.at (g.S.RecordSource.records c.args.records.now) ≡ here g c ∷ above g c
left_are g c = drop_more (g.S.RecordSource.records c.args.records.now) c.loop-at.at (key_least, [])
    (omega (arith, c.loop-at-test.true, c.len-len.ensures))

left_here : (g : Over) (c : After-key-key g) → IsLeft c.args.parts.now.entries c.args.first.part
    (g.S.RecordSource.records c.args.records.now) (here g c ∷ above g c)
left_here g c = subst (IsLeft c.args.parts.now.entries c.args.first.part (g.S.RecordSource.records c.args.records.now))
    (left_are g c) c.loop-at.invariant.left

-- the entry to which the walk has come
found_here : (g : Over) (c : After-entry g) → next_from c.args.parts.now.entries c.args.first.part
    (get_or (g.S.RecordSource.records c.args.records.now) c.loop-at.at (key_least, [])).0 ≡
    option_copied c.entry.result
found_here g c = ap (next_from c.args.parts.now.entries c.args.first.part) (sym c.key-key.ensures) ∙
    ap (λ p. next_from c.args.parts.now.entries p c.key-key.result) (sym c.loop-at.invariant.part) ∙
    sym c.go_to.ensures.found ∙ sym c.entry.ensures

pub loop-at-init : goal.loop-at-init
loop-at-init g c =
    let rs = g.S.RecordSource.records c.args.records.now in
    record {
      within = omega arith;
      left = all_left c.args.parts.now.entries c.args.first.part rs c.requires.sorted;
      part = c.begin.ensures.part;
      walk = begins_along c.requires.sound.rising rs c.args.first c.begin.new.self c.requires.sorted
          c.requires.first c.begin.ensures.part c.begin.ensures.read c.begin.ensures.passed c.begin.ensures.last;
    }

pub go_to-requires : goal.go_to-requires
go_to-requires g c =
    let at = goal.at.go_to-requires g c in
    let left = drop c.loop-at.at (g.S.RecordSource.records c.args.records.now) in
    c.loop-at.invariant.walk c.key-key.result (ap (is_key_of left) c.key-key.ensures ∙
    first_is_key left (here g at.After-key-key) (above g at.After-key-key) (left_are g at.After-key-key))

pub returns-in_err-entry : goal.returns-in_err-entry
returns-in_err-entry g c =
    let at = goal.at.returns-in_err-entry g c in
    rw c.from_residual.ensures (ends_here c.requires.sound (here g at.After-key-key) (above g at.After-key-key)
    (left_here g at.After-key-key) (found_here g at.After-entry ∙ ap (λ o. option_copied o) c.in_err-entry.was))

pub returns-then-not-entry : goal.returns-then-not-entry
returns-then-not-entry g c =
    let at = goal.at.returns-then-not-entry g c in
    found c.requires.sound (here g at.After-key-key) (above g at.After-key-key) (left_here g at.After-key-key)
    c.in_ok-entry.entry.now (found_here g at.After-entry ∙ ap (λ o. option_copied o) c.in_ok-entry.was)
    (key_eq-exact _ _ (sym c.eq.ensures ∙ c.if-eq.true) ∙ c.key-key.ensures) c.if-not-entry.true

pub loop-at-preserved : goal.loop-at-preserved
loop-at-preserved g c =
    let at = goal.at.loop-at-preserved g c in
    let pair = here g at.After-key-key in
    let later = above g at.After-key-key in
    let entry = c.in_ok-entry.entry.now in
    record {
      within = c.place_of-at.ensures.within;
      left = passes_on c.requires.sound pair later (left_here g at.After-key-key) entry
          (found_here g at.After-entry ∙ ap (λ o. option_copied o) c.in_ok-entry.was)
          (λ same. elim c.else-eq.branch [
            | else-eq-via-then-eq+else-not-entry w ↦ w.if-not-entry.false
            | else-eq-via-else-eq w ↦ absurd (both_ways (key_eq entry.key c.key-key.result)
                (sym c.eq.ensures ∙ w.if-eq.false) (same_key (same ∙ sym c.key-key.ensures)))
          ])
          _ c.place_of-at.ensures.others;
      part = c.go_to.ensures.part ∙ c.loop-at.invariant.part;
      walk = goes_along pair later (left_here g at.After-key-key).sorted
          (subst (λ k. IsWalkFrom c.args.parts.now.entries k c.go_to.new.self) c.key-key.ensures c.go_to.ensures.walk)
          (not_below entry.key) _ c.place_of-at.ensures.others;
    }

pub returns : goal.returns
returns g c =
    let rs = g.S.RecordSource.records c.args.records.now in
    none_left c.loop-at.invariant.left
    (omega (arith, length-drop c.loop-at.at rs, c.loop-at-test.false, c.len-len.ensures))
