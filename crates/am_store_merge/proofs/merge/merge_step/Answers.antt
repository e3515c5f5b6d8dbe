use Rattle.std.proofs.Common.{Some, None, take, subst, sym, ap, ◌∙◌, arith}
use Rattle.am_record.specs.declared.step.Reply.TheVariants.{Moved}
use Rattle.am_law_effect.specs.MergeAnswers.{all_worked_off, candidates}
use Rattle.am_store_merge.specs.LockHolders.{holder_of}
use Rattle.am_index_parts.specs.Partitions.{Partitions}
use Rattle.am_store_merge.specs.Steps.{IsAsFar}
use Rattle.am_store_locks.proofs.FirstOwners.{held}
use Rattle.am_store_merge.proofs.Replies.{right_done, right_ended, right_moved, right_refused, same_content, merged}
use Rattle.am_store_merge.proofs.merge.merge_step.Goals as goal

pub returns-in_default-first_in_runs-clause-reply :
    goal.returns-in_default-first_in_runs-clause-reply
returns-in_default-first_in_runs-clause-reply g c =
    right_done c.args.parts.now.entries (holder_of c.args.locks.now) c.args.limit c.args.wishes.now c.in-Some.wish
    c.in-Some.ensures c.in_default-first_in_runs.ensures.first

pub returns-in-Some-exclusive_at-clause-reply : goal.returns-in-Some-exclusive_at-clause-reply
returns-in-Some-exclusive_at-clause-reply g c =
    right_ended c.args.parts.now.entries (holder_of c.args.locks.now) c.args.limit c.args.wishes.now c.in-Some.wish
    c.in-Some.ensures c.in-Some-first_in_runs.first c.in-Some-first_in_runs.ensures.first
    c.in-Some-exclusive_at.holder
    (held c.args.locks.now c.in-Some-first_in_runs.first.key (Some c.in-Some-exclusive_at.holder)
    c.in-Some-exclusive_at.ensures.holder)

pub returns-in-0-clause-reply : goal.returns-in-0-clause-reply
returns-in-0-clause-reply g c =
    right_refused c.args.parts.now.entries (holder_of c.args.locks.now) c.args.limit c.args.wishes.now c.in-Some.wish
    c.in-Some.ensures c.in-Some-first_in_runs.first c.in-Some-first_in_runs.ensures.first
    (held c.args.locks.now c.in-Some-first_in_runs.first.key None c.in_default-exclusive_at.ensures.holder)
    c.requires.some
    (subst (λ (p : Partitions). IsAsFar p.entries (holder_of c.args.locks.now) c.args.limit
    c.in-Some-first_in_runs.first.part (candidates p.entries c.in-Some.wish) 0) c.first_in_runs.ensures.same
    (subst (IsAsFar c.first_in_runs.new.parts.entries (holder_of c.args.locks.now) c.args.limit
    c.in-Some-first_in_runs.first.part (candidates c.first_in_runs.new.parts.entries c.in-Some.wish)) c.in-0.is
    c.work_off_run.ensures.far))

pub returns-in_default-work_off_run-clause-reply :
    goal.returns-in_default-work_off_run-clause-reply
returns-in_default-work_off_run-clause-reply g c =
    right_moved c.args.parts.now.entries (holder_of c.args.locks.now) c.args.limit c.args.wishes.now c.in-Some.wish
    c.in-Some.ensures c.in-Some-first_in_runs.first c.in-Some-first_in_runs.ensures.first
    (held c.args.locks.now c.in-Some-first_in_runs.first.key None c.in_default-exclusive_at.ensures.holder)
    c.work_off_run.result (λ none. absurd (omega (arith, none)))
    (subst (λ (p : Partitions). IsAsFar p.entries (holder_of c.args.locks.now) c.args.limit
    c.in-Some-first_in_runs.first.part (candidates p.entries c.in-Some.wish) c.work_off_run.result)
    c.first_in_runs.ensures.same c.work_off_run.ensures.far)

pub returns-in_default-work_off_run-clause-content :
    goal.returns-in_default-work_off_run-clause-content
returns-in_default-work_off_run-clause-content g c =
    same_content c.first_in_runs.ensures.sound c.args.wishes.now (holder_of c.args.locks.now) c.args.limit
    (Moved c.work_off_run.result c.in-Some-first_in_runs.first.part)
    (right_moved c.args.parts.now.entries (holder_of c.args.locks.now) c.args.limit c.args.wishes.now c.in-Some.wish
    c.in-Some.ensures c.in-Some-first_in_runs.first c.in-Some-first_in_runs.ensures.first
    (held c.args.locks.now c.in-Some-first_in_runs.first.key None c.in_default-exclusive_at.ensures.holder)
    c.work_off_run.result (λ none. absurd (omega (arith, none)))
    (subst (λ (p : Partitions). IsAsFar p.entries (holder_of c.args.locks.now) c.args.limit
    c.in-Some-first_in_runs.first.part (candidates p.entries c.in-Some.wish) c.work_off_run.result)
    c.first_in_runs.ensures.same c.work_off_run.ensures.far))
    (c.work_off_run.ensures.entries
    ∙ ap (λ (p : Partitions).
    all_worked_off (take c.work_off_run.result (candidates p.entries c.in-Some.wish)) p.entries)
    c.first_in_runs.ensures.same
    ∙ ap (λ cs. all_worked_off cs c.args.parts.now.entries)
    (sym (merged c.args.parts.now.entries c.args.wishes.now c.in-Some.wish c.in-Some.ensures c.work_off_run.result
    c.in-Some-first_in_runs.first.part)))
