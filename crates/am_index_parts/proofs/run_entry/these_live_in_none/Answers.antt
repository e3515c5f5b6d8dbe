use Rattle.std.proofs.Common.{◌-◌, List, ℕ, [], take, drop, sym, ap, ◌∙◌, subst, arith}
use Rattle.am_record.specs.OrderedKey.{key_least}
use Rattle.am_record.proofs.FirstRows.{Record}
use Rattle.am_index_parts.specs.Partitions.{LivesInNoRun}
use Rattle.am_index_parts.specs.RunFilters.{may_have_any}
use Rattle.am_index_parts.specs.declared.run_filters.RunFilters.{RunFilters}
use Rattle.am_index_parts.proofs.KeyLooks.{said_of_none}
use Rattle.am_index_parts.proofs.KnownKeys.{none_lives}
use Rattle.am_index_parts.proofs.RecordRanges.{all_further}
use Rattle.am_index_parts.proofs.run_entry.these_live_in_none.Goals as goal

pub loop-at-preserved : goal.loop-at-preserved
loop-at-preserved g c =
    let es = g.I.PartIndex.entries c.args.index.now in
    let rs = g.S.RecordSource.records c.args.records.now in
    let d : Record = (key_least, []) in (
      omega (arith, c.loop-at.invariant.0),
      all_further (λ (r : Record). LivesInNoRun es r.0) rs c.args.from c.loop-at.at d c.loop-at.invariant.0
          (omega (arith, c.loop-at-test.true, c.requires.within)) c.loop-at.invariant.1
          (subst (LivesInNoRun es) c.key.ensures
          (said_of_none c.live_in_runs.result.0 (LivesInNoRun es c.key.result)
          (sym c.is_some.ensures ∙ c.if-is_some.false) c.live_in_runs.ensures.absent)),
    )

pub returns-then-not-may_have_any-clause-dead : goal.returns-then-not-may_have_any-clause-dead
returns-then-not-may_have_any-clause-dead g c = λ sure.
    let rs = g.S.RecordSource.records c.args.records.now in
    let keys = c.args.keys.now in
    let some = take (c.args.to - c.args.from) (drop c.args.from rs) in
    none_lives (g.I.PartIndex.entries c.args.index.now) keys c.requires.known some
    (c.requires.clear c.if-are_clear.true)
    (ap (λ (l : List ℕ). may_have_any keys.filters.generations.items l) (sym c.requires.numbers) ∙
    ap (λ (f : RunFilters). may_have_any f.generations.items c.args.numbers.now) (sym c.filters.ensures) ∙
    sym c.may_have_any.ensures ∙ c.if-not-may_have_any.true)
