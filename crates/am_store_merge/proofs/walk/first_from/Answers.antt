use Rattle.std.proofs.Common.{◌≤◌, take, sym, ap, ◌∙◌, arith}
use Rattle.am_index.specs.Entries.{all_from}
use Rattle.am_store_merge.proofs.PassedRuns.{none_in, none_left, stands_in_run, look_finds, look_goes_past}
use Rattle.am_store_merge.proofs.PassedRuns.{look_past_all}
use Rattle.am_store_merge.proofs.walk.first_from.Goals as goal

pub returns-in-Some-first_in_run-clause-first : goal.returns-in-Some-first_in_run-clause-first
returns-in-Some-first_in_run-clause-first g c =
    look_finds c.args.parts.now.entries c.next_part.ensures.sound c.args.range c.loop-run.next c.in-Some.run'
    c.in-Some.ensures.further c.in-Some.ensures.passed c.in-Some-first_in_run.first c.in-Some-first_in_run.ensures.first
    ∙ c.loop-run.invariant

pub returns-in-Some-first_in_run-clause-read : goal.returns-in-Some-first_in_run-clause-read
returns-in-Some-first_in_run-clause-read g c =
    c.first_in_run.ensures.read ∙ ap (λ run. take 16 (all_from c.args.parts.now.entries run c.args.range.lo))
    (sym (stands_in_run c.args.parts.now.entries c.next_part.ensures.sound.rising c.args.range c.in-Some.run'
    c.in-Some-first_in_run.first (sym c.in-Some-first_in_run.ensures.first)))

pub returns-in_err-next-clause-first : goal.returns-in_err-next-clause-first
returns-in_err-next-clause-first g c =
    c.from_residual.ensures
    ∙ look_past_all c.args.parts.now.entries c.next_part.ensures.sound c.args.range c.loop-run.next c.in-Some.run'
    c.in-Some.ensures.further c.in-Some.ensures.passed c.in_default-first_in_run.ensures.first
    (omega (arith, c.in_err-next.ensures))
    ∙ c.loop-run.invariant

pub loop-run-preserved : goal.loop-run-preserved
loop-run-preserved g c =
    rw c.in_ok-next.ensures.1
    (look_goes_past c.args.parts.now.entries c.next_part.ensures.sound c.args.range c.loop-run.next c.in-Some.run'
    c.in-Some.ensures.further c.in-Some.ensures.passed c.in_default-first_in_run.ensures.first
    ∙ c.loop-run.invariant)

pub returns-clause-first : goal.returns-clause-first
returns-clause-first g c =
    sym (none_left c.args.parts.now.entries c.args.range c.loop-run.next
    (none_in c.args.parts.now.entries (λ part. c.loop-run.next ≤ part) c.in_default.ensures.none.none))
    ∙ c.loop-run.invariant
