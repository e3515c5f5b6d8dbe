use Rattle.std.proofs.Common.{sym, subst, ◌∙◌}
use Rattle.am_index_parts.specs.MergedRanges.{HasNoneBefore}
use Rattle.am_store_merge.proofs.Walks.{look_passes, none_in_runs}
use Rattle.am_store_merge.proofs.PassedRuns.{none_before}
use Rattle.am_store_merge.proofs.walk.first_in_runs.Goals as goal
use Rattle.am_store_merge.proofs.walk.first_in_runs.Goals.{in-Some, in-None}

pub note_merged-requires : goal.note_merged-requires
note_merged-requires g c =
    let entries = c.args.parts.now.entries in
    let range = c.args.range in
    let first = sym (c.first_from-first.ensures.first ∙ look_passes entries range c.first_run-from.result
    c.first_run-from.ensures.is_run c.first_run-from.ensures.none_before) in
    elim c.match-first.branch [
      | in-Some w ↦ subst (HasNoneBefore entries range) (sym w.first_run-is)
          (none_before entries range _ c.first_from-first.ensures.sound.rising (first ∙ w.in-Some.is))
      | in-None w ↦ subst (HasNoneBefore entries range) (sym w.first_run-is)
          (none_in_runs entries range _ (first ∙ w.in-None.is))
    ]

pub returns-then-from-first_run-clause-first : goal.returns-then-from-first_run-clause-first
returns-then-from-first_run-clause-first g c =
    c.first_from-first.ensures.first ∙ look_passes c.args.parts.now.entries c.args.range c.first_run-from.result
    c.first_run-from.ensures.is_run c.first_run-from.ensures.none_before

pub returns-else-from-first_run-clause-first : goal.returns-else-from-first_run-clause-first
returns-else-from-first_run-clause-first g c =
    c.first_from-first.ensures.first ∙ look_passes c.args.parts.now.entries c.args.range c.first_run-from.result
    c.first_run-from.ensures.is_run c.first_run-from.ensures.none_before
