use Rattle.std.proofs.Common.{sym, subst, refl, arith}
use Rattle.am_index.specs.Runs.{run_entries}
use Rattle.am_index_parts.specs.Catalogs.{AreListed}
use Rattle.am_index_parts.proofs.Alive.{length_append, length_run, live_append, live_run}
use Rattle.am_index_parts.proofs.ListedRuns.{appended}
use Rattle.am_index_parts.proofs.catalog.Catalog.push.Goals as goal

pub returns : goal.returns
returns c = λ es rs many whole nxt. record {
  counted = subst (AreListed _ _) (sym c.in-Ok.ensures.items)
      (appended whole.counted c.args.part rs nxt
      (record { part = c.args.part; left = c.args.entries; live = c.args.entries }) refl many many);
  all = record {
    entries = omega (
      arith,
      many,
      whole.all.entries,
      length_append es (run_entries c.args.part rs),
      length_run c.args.part rs,
    );
    live = omega (arith, many, whole.all.live, live_append es (run_entries c.args.part rs), live_run c.args.part rs);
  };
}
