use Rattle.am_index_parts.proofs.MergedKnowledge.{as_one}
use Rattle.am_index_parts.proofs.merged_ranges.MergedRange.with.Goals as goal

pub returns : goal.returns
returns c = as_one c.args.self.now c.args.other.now c.in_ok-range.range c.if-self-other.false c.in_ok-range.ensures
