use Rattle.std.proofs.Common.{◌≡◌, ◌<◌, ℕ, true, false, Option, Some, None, length, take, sym, ◌∙◌, subst, arith}
use Rattle.std.proofs.Common.{add-one}
use Rattle.std.specs.Prelude.{is_some, IfSome, IfNone}
use Rattle.std.proofs.lemmas.Bool.{true≢false}
use Rattle.std.proofs.lemmas.List.{length-take-le, take_all}
use Rattle.am_record.specs.declared.entry.Entry.{Entry}
use Rattle.am_store_loads.proofs.LeastLive.{NoneSeen, one_more_seen, none_of_seen, key_at_taken, least_at}
use Rattle.am_store_loads.proofs.PartedRecords.{sorted_taken}
use Rattle.am_store_loads.proofs.look.first_in_runs.Goals as goal

some_entry : {P : Entry → Type 0} (o : Option Entry) → is_some o ≡ true → IfSome o P → (e : Entry) × P e
some_entry None some h = absurd (true≢false (sym some))
some_entry (Some e) some h = (e, h)

no_entry : {P : Type 0} (o : Option Entry) → is_some o ≡ false → IfNone o P → P
no_entry None none h = h
no_entry (Some e) none h = absurd (true≢false none)

pub returns-then-is_some : goal.returns-then-is_some
returns-then-is_some g c =
    let all = g.S.RecordSource.records c.args.records.now in
    let rs = take c.args.count all in
    let inside : c.loop-at.at < length rs = omega (
      arith,
      c.loop-at-test.true,
      length-take-le c.args.count all c.requires.within,
    ) in
    let found = some_entry c.live_in_runs.result (sym c.is_some.ensures ∙ c.if-is_some.true)
    c.live_in_runs.ensures.live in
    least_at c.args.parts.now.entries rs c.loop-at.at c.key-key.result found.0.part
    (sorted_taken c.args.count all c.requires.sorted) inside
    (key_at_taken all c.args.count c.loop-at.at c.key-key.result c.loop-at-test.true c.key-key.ensures)
    c.loop-at.invariant
    (record { value = found.0.value; live = found.1.there; in_content = found.1.has })

pub loop-at-preserved : goal.loop-at-preserved
loop-at-preserved g c =
    let all = g.S.RecordSource.records c.args.records.now in
    let rs = take c.args.count all in
    let inside : c.loop-at.at < length rs = omega (
      arith,
      c.loop-at-test.true,
      length-take-le c.args.count all c.requires.within,
    ) in
    let none = no_entry c.live_in_runs.result (sym c.is_some.ensures ∙ c.if-is_some.false)
    c.live_in_runs.ensures.absent in
    subst (λ (n : ℕ). NoneSeen c.args.parts.now.entries (take n rs)) (sym (add-one c.loop-at.at))
    (one_more_seen c.args.parts.now.entries rs c.loop-at.at c.key-key.result inside
    (key_at_taken all c.args.count c.loop-at.at c.key-key.result c.loop-at-test.true c.key-key.ensures) none
    c.loop-at.invariant)

pub returns : goal.returns
returns g c =
    let all = g.S.RecordSource.records c.args.records.now in
    let rs = take c.args.count all in
    let seen : NoneSeen c.args.parts.now.entries rs = subst (NoneSeen c.args.parts.now.entries)
    (take_all c.loop-at.at rs (omega (
      arith,
      c.loop-at-test.false,
      length-take-le c.args.count all c.requires.within,
    ))) c.loop-at.invariant in
    record { none = none_of_seen c.args.parts.now.entries rs seen }
