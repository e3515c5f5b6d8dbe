use Rattle.std.proofs.Common.{◌≡◌, take}
use Rattle.std.specs.List.{fold}
use Rattle.am_index_filter.specs.Covers.{marked}
use Rattle.am_index_filter.proofs.filter.Filter.enter_all.Given as goal

abbrev pub invariant-loop-number : goal.invariant-loop-number
invariant-loop-number l = l.self ≡ fold marked l.fn.self (take l.number-index l.numbers)
