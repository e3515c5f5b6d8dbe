use Rattle.std.proofs.Common.{◌≡◌, ◌<◌, ℕ, Bool, true, length, get_or}
use Rattle.am_index_parts.specs.declared.run_filters.RunFilter.{RunFilter}
use Rattle.am_index_parts.specs.RunFilters.{IsNamed}
use Rattle.am_index_parts.proofs.run_filters.Generation.wake.Given as goal

abbrev pub invariant-loop-at : goal.invariant-loop-at
invariant-loop-at l = record {
  all : l.self.all ≡ l.fn.self.all;
  first : l.self.first ≡ l.fn.self.first;
  last : l.self.last ≡ l.fn.self.last;
  awake : l.self.is_awake ≡ true;
  many : length l.self.runs.items ≡ length l.fn.self.runs.items;
  kept : (live : Bool) (run n : ℕ) → IsNamed live l.fn.self.runs.items run n → IsNamed live l.self.runs.items run n;
  woken : (k : ℕ) (d : RunFilter) → k < l.at → (get_or l.self.runs.items k d).part ≡ l.part →
      (get_or l.self.runs.items k d).is_awake ≡ true;
}
