use Rattle.std.proofs.Common.{List, sym, subst}
use Rattle.am_index_parts.specs.declared.run_filters.Generation.{Generation}
use Rattle.am_index_parts.specs.RunFilters.{MayBeIn}
use Rattle.am_index_parts.proofs.Filters.{may_be_before}
use Rattle.am_index_parts.proofs.run_filters.RunFilters.make_room.Goals as goal

pub returns-clause-kept : goal.returns-clause-kept
returns-clause-kept c = λ live run n it.
    subst (λ (l : List Generation). MayBeIn live l run n) (sym c.in_ok-push.ensures.items)
    (may_be_before live run n c.args.self.now.generations.items c.in_ok-next.next it)
