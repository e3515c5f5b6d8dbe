use Rattle.std.proofs.Common.{List, ◌∷◌, sym, subst, arith}
use Rattle.am_index_parts.specs.declared.merged_ranges.MergedRange.{MergedRange}
use Rattle.am_index_parts.specs.declared.merged_ranges.MergedRanges.{MergedRanges}
use Rattle.am_index_parts.specs.MergedRanges.{AreMerged, SayNoMore}
use Rattle.am_index_parts.proofs.ReplacedRanges.{taken_out, both_as_one, parts_put}
use Rattle.am_index_parts.proofs.merged_ranges.MergedRanges.unite.Goals as goal
use Rattle.am_index_parts.proofs.merged_ranges.MergedRanges.unite.Goals.{in-Some, in_default+else-gt, else-met-test}
use Rattle.am_index_parts.proofs.merged_ranges.MergedRanges.unite.Goals.{then-met-test+then-at-len}
use Rattle.am_index_parts.proofs.merged_ranges.MergedRanges.unite.Goals.{}
use Rattle.am_index_parts.proofs.merged_ranges.MergedRanges.unite.Goals.{
  then-met-test+else-at-len+else-not-meets+in_default+then-gt,
}

pub met-preserved : goal.met-preserved
met-preserved c =
    let before : List MergedRange = c.args.merged ∷ c.args.self.now.list.items in
    let ms : List MergedRange = c.met.self.list.items in
    let rest : List MergedRange = c.remove-other.new.self.items in
    let out : SayNoMore ms (c.remove-other.result ∷ rest) =
    taken_out ms rest c.met.at c.remove-other.result (omega (arith, c.if-at-len.false, c.len.ensures))
    c.remove-other.ensures.value c.remove-other.ensures.items in
    elim c.match-with.branch [
      | in-Some w ↦ subst (λ (l : MergedRanges). SayNoMore before (c.match-with.merged ∷ l.list.items)) (sym w.self-is)
          (subst (λ (m : MergedRange). SayNoMore before (m ∷ rest)) (sym w.merged-is)
          (both_as_one before c.met.merged c.remove-other.result ms rest w.in-Some.both c.met.invariant out
          w.in-Some.ensures))
      | in_default+else-gt w ↦
          let parts : List MergedRange = w.put_part-in_default.new.self.list.items in
          subst (λ (l : MergedRanges). SayNoMore before (c.match-with.merged ∷ l.list.items)) (sym w.self-is)
          (subst (λ (m : MergedRange). SayNoMore before (m ∷ parts)) (sym w.merged-is)
          (parts_put before c.met.merged c.remove-other.result ms rest w.from.result w.up_to.result
          w.put_part.new.self.list.items parts c.met.invariant out w.from.ensures w.put_part.ensures
          w.up_to.ensures w.put_part-in_default.ensures))
    ]

pub returns : goal.returns
returns c =
    let before : List MergedRange = c.args.merged ∷ c.args.self.now.list.items in
    let ms : List MergedRange = c.met.self.list.items in
    λ es runs are. c.put.ensures es runs (elim c.met-test.branch [
      | else-met-test w ↦ subst (λ (l : MergedRanges). AreMerged es runs (c.met.merged ∷ l.list.items)) (sym w.self-is)
          (c.met.invariant es runs are)
      | then-met-test+then-at-len w ↦
          subst (λ (l : MergedRanges). AreMerged es runs (c.met.merged ∷ l.list.items)) (sym w.self-is)
          (c.met.invariant es runs are)
      | then-met-test+else-at-len+else-not-meets+in_default+then-gt w ↦
          let rest : List MergedRange = w.remove-other.new.self.items in
          subst (λ (l : MergedRanges). AreMerged es runs (c.met.merged ∷ l.list.items)) (sym w.self-is)
          (parts_put before c.met.merged w.remove-other.result ms rest w.from.result w.up_to.result
          w.put_part.new.self.list.items w.put_part-in_default.new.self.list.items c.met.invariant
          (taken_out ms rest c.met.at w.remove-other.result (omega (arith, w.if-at-len.false, w.len.ensures))
          w.remove-other.ensures.value w.remove-other.ensures.items) w.from.ensures w.put_part.ensures
          w.up_to.ensures w.put_part-in_default.ensures es runs are)
    ])
