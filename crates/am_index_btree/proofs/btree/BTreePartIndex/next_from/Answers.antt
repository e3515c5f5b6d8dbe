use Rattle.std.proofs.Common.{ap, ◌∙◌}
use Rattle.am_index.specs.Entries.{next_from}
use Rattle.am_index.specs.Places.{only_of}
use Rattle.am_index_btree.specs.declared.read.Start.TheVariants.{At}
use Rattle.am_index_btree.specs.Shape.{Shape}
use Rattle.am_index_btree.proofs.Seeks.{part_from}
use Rattle.am_index_btree.proofs.btree.BTreePartIndex.next_from.Goals as goal

pub returns-clause-found : goal.returns-clause-found
returns-clause-found c =
    c.of_part.ensures ∙ ap (only_of c.args.part) c.first_from.ensures.found ∙ part_from At c.args.part c.args.key
    c.self.inside.root.entries c.first_from.ensures.rising
    ∙ ap (λ (s : Shape). next_from s.entries c.args.part c.args.key) c.self.view_is
