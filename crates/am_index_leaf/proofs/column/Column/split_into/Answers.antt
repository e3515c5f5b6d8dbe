use Rattle.std.proofs.Common.{rules}
use Rattle.std.proofs.lemmas.List.{take-map, drop-map}
use Rattle.am_index_leaf.proofs.column.Column.split_into.Goals as goal

pub returns-clause-front : goal.returns-clause-front
returns-clause-front g c = Prim.search (rules, take-map)

pub returns-clause-back : goal.returns-clause-back
returns-clause-back g c = Prim.search (rules, drop-map)
