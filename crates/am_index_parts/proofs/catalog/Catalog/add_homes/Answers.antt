use Rattle.std.proofs.Common.{◌+◌, ℕ, subst, sym, arith}
use Rattle.am_index.specs.Entries.{all_inserted}
use Rattle.am_index_parts.specs.Catalogs.{AreListed}
use Rattle.am_index_parts.proofs.Alive.{left_at_most, live_at_most}
use Rattle.am_index_parts.proofs.CountedAtOnce.{homes_listed, homes_long, homes_live}
use Rattle.am_index_parts.proofs.catalog.Catalog.add_homes.Goals as goal

pub overflow_add-self : goal.overflow_add-self
overflow_add-self c =
    let it = c.requires.catalog.1 in
    omega (arith, it.counted.counted, it.all.entries, left_at_most 0 c.requires.catalog.0, c.requires.counts)

pub overflow_add-self-3 : goal.overflow_add-self-3
overflow_add-self-3 c =
    let it = c.requires.catalog.1 in
    omega (arith, it.all.live, it.all.entries, live_at_most c.requires.catalog.0, c.requires.counts)

pub returns : goal.returns
returns c = λ es xs many homes whole. record {
  counted = subst (λ (n : ℕ). AreListed (all_inserted xs es) (c.args.self.now.in_final + n) c.args.self.now.runs.items)
      (sym many) (homes_listed xs es c.args.self.now.in_final c.args.self.now.runs.items homes whole.counted);
  all = record {
    entries = omega (arith, many, whole.all.entries, homes_long xs es);
    live = omega (arith, many, whole.all.live, homes_live xs es homes);
  };
}
