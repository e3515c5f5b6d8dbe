use Rattle.std.proofs.Common.{◌≡◌, ◌<◌, ℕ, Bool, true, false, length, get_or}
use Rattle.am_index_parts.specs.declared.run_filters.Generation.{Generation}
use Rattle.am_index_parts.specs.RunFilters.{IsNamedIn, MayBeIn}
use Rattle.am_index_parts.proofs.run_filters.RunFilters.wake.Given as goal

abbrev pub invariant-loop-at : goal.invariant-loop-at
invariant-loop-at l = record {
  hash : l.self.hash ≡ l.fn.self.hash;
  many : length l.self.generations.items ≡ length l.fn.self.generations.items;
  kept : (live : Bool) (run n : ℕ) → MayBeIn live l.fn.self.generations.items run n →
      MayBeIn live l.self.generations.items run n;
  woken : (k : ℕ) (d : Generation) (n : ℕ) → k < l.at →
      IsNamedIn false (get_or l.self.generations.items k d) l.part n →
      IsNamedIn true (get_or l.self.generations.items k d) l.part n;
}
