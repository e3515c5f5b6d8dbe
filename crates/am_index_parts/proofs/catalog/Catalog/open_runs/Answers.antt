use Rattle.std.proofs.Common.{length, ap, ◌∙◌}
use Rattle.am_index_parts.proofs.OpenRuns.{as_many}
use Rattle.am_index_parts.proofs.catalog.Catalog.open_runs.Goals as goal

pub returns : goal.returns
returns c = λ es rising whole. ap length c.runs.ensures ∙ as_many rising whole.counted
