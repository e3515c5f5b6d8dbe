use Rattle.std.proofs.Common.{ℕ, ◌≡◌, ◌-◌, ◌+◌, List, take, drop, sym, ◌∙◌, ap, subst, arith}
use Rattle.std.proofs.Math.Seq.{take-add}
use Rattle.std.proofs.lemmas.List.{take-map, drop-map}
use Rattle.std.specs.List.{AllByRecursion}
use Rattle.am_record.specs.KeyNumber.{key_number}
use Rattle.am_record.proofs.FirstRows.{Record}
use Rattle.am_record.proofs.Lists.{AllByRecursion-append, AllByRecursion-take, AllByRecursion-drop}
use Rattle.am_index_parts.specs.ApartRuns.{StandsApart}
use Rattle.am_index_parts.specs.Partitions.{LivesInNoRun}
use Rattle.am_index_parts.proofs.run_entry.live_in_none.Goals as goal

pub these_live_in_none-requires-clause-numbers : goal.these_live_in_none-requires-clause-numbers
these_live_in_none-requires-clause-numbers g c =
    let hash = c.args.keys.now.filters.hash in
    let rs = g.S.RecordSource.records c.args.records.now in
    let count = c.min-to.result - c.ask.from in
    ap (λ (l : List ℕ). take count (drop c.ask.from l)) c.requires.numbers ∙
    ap (take count) (drop-map (λ (r : Record). key_number hash r.0) c.ask.from rs) ∙
    take-map (λ (r : Record). key_number hash r.0) count (drop c.ask.from rs)

pub ask-preserved : goal.ask-preserved
ask-preserved g c =
    let es = g.I.PartIndex.entries c.args.index.now in
    let rs = g.S.RecordSource.records c.args.records.now in
    let from = c.ask.from in
    let count = c.min-to.result - from in
    let further : from + count ≡ c.min-to.result = omega (
      arith,
      c.min-to.ensures,
      c.saturating_add.ensures,
      c.ask-test.true,
    ) in
    record {
      within = omega (arith, c.min-to.ensures);
      dead = subst (λ n. AllByRecursion (λ (r : Record). LivesInNoRun es r.0) (take n rs)) further
          (subst (AllByRecursion (λ (r : Record). LivesInNoRun es r.0)) (sym (take-add from count rs))
          (AllByRecursion-append (λ (r : Record). LivesInNoRun es r.0) (take from rs) (take count (drop from rs))
          c.ask.invariant.dead (c.these_live_in_none.ensures.dead c.if-not-these_live_in_none.false)));
    }

pub these_live_in_none-requires-clause-clear : goal.these_live_in_none-requires-clause-clear
these_live_in_none-requires-clause-clear g c = λ sure.
    let apart = c.args.keys.now.apart.list.items in
    let rs = g.S.RecordSource.records c.args.records.now in
    AllByRecursion-take (λ (r : Record). (run : ℕ) → StandsApart apart run r.0 → ⊥) (c.min-to.result - c.ask.from)
    (drop c.ask.from rs)
    (AllByRecursion-drop (λ (r : Record). (run : ℕ) → StandsApart apart run r.0 → ⊥) c.ask.from rs
    (c.requires.clear sure))
