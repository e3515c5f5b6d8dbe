use Rattle.std.proofs.Common.{rules}
use Rattle.std.proofs.lemmas.List.{map-append, take-map, drop-map}
use Rattle.am_index_leaf.proofs.column.Column.insert.Goals as goal

pub returns-clause-items : goal.returns-clause-items
returns-clause-items g c = Prim.search (rules, map-append, take-map, drop-map)
