use Rattle.std.proofs.Common.{◌≡◌, true, List, ℕ, sym, subst}
use Rattle.std.proofs.Math.Dec.{eqb}
use Rattle.std.proofs.lemmas.List.Filters.{dedup_is}
use Rattle.std.specs.List.{dedup}
use Rattle.am_index_parts.specs.Catalogs.{PartsRise, is_one_of}
use Rattle.am_index_parts.proofs.PartLists.{rise_once, has_once, has_sorted}
use Rattle.am_index_parts.proofs.parts_in.put_in_order.Goals as goal
use Rattle.am_index_parts.proofs.parts_in.put_in_order.Goals.{After-dedup}

once : (c : After-dedup) → c.dedup.new.self.items ≡ dedup eqb c.sort_unstable.new.self.items
once c = dedup_is eqb c.sort_unstable.new.self.items c.dedup.new.self.items c.dedup.ensures.filtered

pub returns-clause-rising : goal.returns-clause-rising
returns-clause-rising c = subst PartsRise (sym (once c))
    (rise_once c.sort_unstable.new.self.items c.sort_unstable.ensures.sorted)

pub returns-clause-kept : goal.returns-clause-kept
returns-clause-kept c = λ part it.
    subst (λ (l : List ℕ). is_one_of l part ≡ true) (sym (once c))
    (has_once part c.sort_unstable.new.self.items
    (has_sorted part c.args.parts.now.items c.sort_unstable.new.self.items c.sort_unstable.ensures.permutation it))
