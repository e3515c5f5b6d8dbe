use Rattle.std.proofs.Common.{◌≡◌, ℕ, List, arith, false, sym, subst}
use Rattle.am_index_filter.specs.Covers.{is_marked}
use Rattle.am_index_filter.proofs.Covers.{covers_none}
use Rattle.am_index_filter.proofs.filter.Filter.new.Goals as goal

pub returns-clause-none : goal.returns-clause-none
returns-clause-none c = λ n.
    subst (λ (l : List ℕ). is_marked l n ≡ false)
    (sym (grind (arith, c.in_ok-resize.ensures.items, c.new-words.ensures.items))) (covers_none c.args.numbers n)
