use Rattle.std.proofs.Common.{◌≡◌, ℕ, ◌+◌, ◌-◌, ◌/◌, ◌<◌, suc, length, take, drop, sym, subst, ap, arith}
use Rattle.std.specs.declared.cmp.Ordering.TheVariants.{Less, Greater}
use Rattle.am_record.specs.EntryOrder.{Place, place_cmp}
use Rattle.am_record.proofs.Lists.{some_item}
use Rattle.am_index.specs.Places.{AllBelow, AllAbove}
use Rattle.am_index_leaf.specs.LeafCode.{Seen}
use Rattle.am_index_leaf.proofs.Leaves.{alike, counted, rising}
use Rattle.am_index_leaf.proofs.RisingEntries.{all_below, all_above, below_here, above_here}
use Rattle.am_index_leaf.proofs.Stretches.{places-rise, all-taken, all-dropped}
use Rattle.am_index_leaf.proofs.leaf.RawLeaf.find.Goals as goal

pub stretch-low-requires-clause-rising : goal.stretch-low-requires-clause-rising
stretch-low-requires-clause-rising c =
    let a = c.self.inside in
    places-rise a.places.items a.values.items a.ghosts (alike a c.self.invariant) c.self.invariant.rising

pub loop-low-init : goal.loop-low-init
loop-low-init c =
    let a = c.self.inside in let held = c.self.invariant in let p : Place = (c.args.part, c.args.key) in
    let seen = ap (λ (s : Seen). s.entries) c.self.view_is in let same = alike a held in
    let stretch = c.stretch-low.ensures in
    record {
      ordered = stretch.ordered;
      in_range = omega (arith, stretch.in_range, counted a held c.args.self.now.entries seen, held.places);
      below = subst (λ es. AllBelow p (take c.stretch-low.result.0 es)) seen (all-taken (λ q. place_cmp q p ≡ Less)
          c.stretch-low.result.0 a.places.items a.values.items a.ghosts same stretch.below);
      above = subst (λ es. AllAbove p (drop c.stretch-low.result.1 es)) seen
          (all-dropped (λ q. place_cmp q p ≡ Greater) c.stretch-low.result.1 a.places.items a.values.items a.ghosts same
          stretch.above);
    }

pub loop-low-preserved-in-Less : goal.loop-low-preserved-in-Less
loop-low-preserved-in-Less c =
    let es = c.args.self.now.entries in let held = c.loop-low.invariant in
    let rise = rising c.self.inside c.self.invariant es (ap (λ (s : Seen). s.entries) c.self.view_is) in
    let low : ℕ = c.loop-low.low in let high : ℕ = c.loop-low.high in let middle : ℕ = low + (high - low) / 2 in
    let apart : low < high = c.loop-low-test.true in
    let within : middle < length es = omega (arith, held.in_range) in
    let next : suc middle ≡ middle + 1 = omega arith in
    let p : Place = (c.args.part, c.args.key) in let d = some_item es middle within in
    record {
      ordered = omega arith;
      in_range = held.in_range;
      below = subst (λ (n : ℕ). AllBelow p (take n es)) next
          (all_below p es middle d rise within (sym (c.in-Less.ensures d)));
      above = held.above;
    }

pub loop-low-preserved : goal.loop-low-preserved
loop-low-preserved c =
    let es = c.args.self.now.entries in let held = c.loop-low.invariant in
    let rise = rising c.self.inside c.self.invariant es (ap (λ (s : Seen). s.entries) c.self.view_is) in
    let low : ℕ = c.loop-low.low in let high : ℕ = c.loop-low.high in let middle : ℕ = low + (high - low) / 2 in
    let apart : low < high = c.loop-low-test.true in
    let within : middle < length es = omega (arith, held.in_range) in
    let p : Place = (c.args.part, c.args.key) in let d = some_item es middle within in
    record {
      ordered = omega arith;
      in_range = omega arith;
      below = held.below;
      above = all_above p es middle d rise within (sym (c.in-Greater.ensures d));
    }

pub returns-in-Equal-clause-found : goal.returns-in-Equal-clause-found
returns-in-Equal-clause-found c =
    let es = c.args.self.now.entries in let held = c.loop-low.invariant in
    let rise = rising c.self.inside c.self.invariant es (ap (λ (s : Seen). s.entries) c.self.view_is) in
    let low : ℕ = c.loop-low.low in let high : ℕ = c.loop-low.high in let middle : ℕ = low + (high - low) / 2 in
    let apart : low < high = c.loop-low-test.true in
    let within : middle < length es = omega (arith, held.in_range) in
    let p : Place = (c.args.part, c.args.key) in let d = some_item es middle within in
    record {
      in_range = within;
      below = below_here p es middle d rise within (sym (c.in-Equal.ensures d));
      here = λ e. sym (c.in-Equal.ensures e);
      above = above_here p es middle d rise within (sym (c.in-Equal.ensures d));
    }
