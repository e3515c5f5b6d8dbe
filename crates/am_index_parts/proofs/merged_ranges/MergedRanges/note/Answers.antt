use Rattle.am_index_parts.proofs.merged_ranges.MergedRanges.note.Goals as goal

pub returns-then-is_whole : goal.returns-then-is_whole
returns-then-is_whole c = λ es runs are. c.join.ensures es runs (are.0, c.renew.ensures es runs are)
