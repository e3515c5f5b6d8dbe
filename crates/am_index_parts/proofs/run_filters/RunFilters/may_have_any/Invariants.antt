use Rattle.std.proofs.Common.{◌≡◌, take}
use Rattle.am_index_parts.specs.RunFilters.{may_have_any}
use Rattle.am_index_parts.proofs.run_filters.RunFilters.may_have_any.Given as goal

abbrev pub invariant-loop-generation : goal.invariant-loop-generation
invariant-loop-generation l =
    l.any ≡ may_have_any (take l.generation-index l.self.generations.items) l.numbers
