use Rattle.std.proofs.Common.{length, ap, arith}
use Rattle.am_index_parts.proofs.Alive.{left_at_most, live_at_most}
use Rattle.am_index_parts.proofs.ListedRuns.{has_runs}
use Rattle.am_index_parts.proofs.catalog.Catalog.figures.Goals as goal

pub overflow_sub-result : goal.overflow_sub-result
overflow_sub-result c =
    let it = c.requires.1 in omega (arith, it.counted.counted, it.all.entries, left_at_most 0 c.requires.0)

pub overflow_sub-result-2 : goal.overflow_sub-result-2
overflow_sub-result-2 c =
    let it = c.requires.1 in omega (arith, it.all.live, it.all.entries, live_at_most c.requires.0)

pub returns : goal.returns
returns c = λ es whole. record {
  entries = whole.all.entries;
  in_final = whole.counted.counted;
  in_runs = omega (arith, whole.counted.counted, whole.all.entries, left_at_most 0 es);
  runs = has_runs whole.counted _ (ap length c.runs-runs.ensures);
  ghosts = omega (arith, whole.all.live, whole.all.entries, live_at_most es);
}
