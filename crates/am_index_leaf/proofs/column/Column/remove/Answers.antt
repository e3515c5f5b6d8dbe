use Rattle.std.proofs.Common.{rules}
use Rattle.std.proofs.lemmas.List.{map-append, take-map, drop-map}
use Rattle.am_index_leaf.proofs.column.Column.remove.Goals as goal

pub returns-clause-others : goal.returns-clause-others
returns-clause-others g c = Prim.search (rules, map-append, take-map, drop-map)
