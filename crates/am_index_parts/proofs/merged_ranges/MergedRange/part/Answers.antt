use Rattle.std.proofs.Common.{[], ◌∷◌, ◌∙◌, sym, arith}
use Rattle.am_index_parts.proofs.MergedKnowledge.{said_within}
use Rattle.am_index_parts.proofs.merged_ranges.MergedRange.part.Goals as goal

pub returns : goal.returns
returns c = λ es runs are. (
  record {
    made = are.0.made;
    none_before = said_within (c.args.self.now ∷ []) 0 c.args.self.now c.in_ok-range.range (omega arith)
        (sym c.encloses.ensures ∙ c.if-not-encloses.false) es runs are;
  },
  tt,
)
