use Rattle.std.proofs.Common.{◌≡◌, ◌+◌, Bool, ap, rules, arith}
use Rattle.std.specs.Prelude.{not}
use Rattle.am_index_parts.proofs.Alive.{one, length_inserted, live_inserted}
use Rattle.am_index_parts.proofs.catalog.Catalog.add.Goals as goal

pub returns-clause-ok : goal.returns-clause-ok
returns-clause-ok c = λ es x p mark whole.
    let its : one (not x.is_ghost) ≡ one (not c.args.is_ghost) = ap (λ (b : Bool). one (not b)) mark in
    let all : c.in_ok-entries.entries ≡ c.args.self.now.entries + 1 = search rules in
    let alive : c.in_ok-live.live ≡ c.args.self.now.live + one (not c.args.is_ghost) = search rules in
    record {
      counted = c.in_ok-add_to_part.ensures.ok es x p mark whole.counted;
      all = record {
        entries = omega (arith, all, whole.all.entries, length_inserted es x);
        live = omega (arith, alive, its, whole.all.live, live_inserted es x);
      };
    }
