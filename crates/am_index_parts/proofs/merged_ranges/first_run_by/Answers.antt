use Rattle.std.proofs.Common.{◌<◌, ◌≡◌, get_or, length, sym, ap, ◌∙◌, subst, arith}
use Rattle.am_record.specs.Interval.{encloses}
use Rattle.am_index_parts.specs.declared.merged_ranges.MergedRange.{MergedRange}
use Rattle.am_index_parts.specs.MergedRanges.{HasNoneBefore}
use Rattle.am_index_parts.proofs.MergedKnowledge.{said_within}
use Rattle.am_index_parts.proofs.merged_ranges.first_run_by.Goals as goal
use Rattle.am_index_parts.proofs.merged_ranges.first_run_by.Goals.{then-first-merged+then-encloses, else-first-merged}

pub loop-merged-preserved : goal.loop-merged-preserved
loop-merged-preserved c =
    let range = c.args.range.now in
    let ms = c.args.list.now in
    let m = c.merged-item.result in
    let is : m ≡ get_or ms c.loop-merged.merged-index m = c.merged-item.is in
    let inside : c.loop-merged.merged-index < length ms = c.loop-merged-test.true in
    elim c.if-first-merged.branch [
      | then-first-merged+then-encloses w ↦ (
        omega (arith, w.first-is, w.if-first-merged.true),
        λ es runs are. subst (HasNoneBefore es range) (ap (λ (x : MergedRange). x.first_run) (sym is) ∙ sym w.first-is)
            (said_within ms c.loop-merged.merged-index m range inside
            (ap (λ (x : MergedRange). encloses x.range range) (sym is) ∙ sym w.encloses.ensures ∙
            w.if-encloses.true) es runs are),
      )
      | else-first-merged w ↦ (
        omega (arith, w.first-is, c.loop-merged.invariant.0),
        λ es runs are. subst (HasNoneBefore es range) (sym w.first-is) (c.loop-merged.invariant.1 es runs are),
      )
    ]
