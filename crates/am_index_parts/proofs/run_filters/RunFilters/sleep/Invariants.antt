use Rattle.std.proofs.Common.{◌≡◌, ◌≢◌, ℕ, Bool, true, length}
use Rattle.am_index_parts.specs.RunFilters.{MayBeIn}
use Rattle.am_index_parts.proofs.run_filters.RunFilters.sleep.Given as goal

abbrev pub invariant-loop-at : goal.invariant-loop-at
invariant-loop-at l = record {
  hash : l.self.hash ≡ l.fn.self.hash;
  many : length l.self.generations.items ≡ length l.fn.self.generations.items;
  kept : (live : Bool) (run n : ℕ) → (live ≡ true → run ≢ l.part) → MayBeIn live l.fn.self.generations.items run n →
      MayBeIn live l.self.generations.items run n;
}
