use Rattle.std.proofs.Common.{ap, ◌∙◌}
use Rattle.am_index_btree.specs.Shape.{Shape}
use Rattle.am_index.specs.Entries.{remove_entry}
use Rattle.am_index_btree.proofs.CutLeaves.{just_one}
use Rattle.am_index_btree.proofs.btree.BTreePartIndex.remove.Goals as goal

pub returns-clause-others : goal.returns-clause-others
returns-clause-others c =
    c.collapse.ensures.entries ∙ c.remove-removed.ensures.others
    ∙ just_one c.self.inside.root.entries c.args.part c.args.key c.remove-removed.result.count
    c.remove-removed.ensures.some c.remove-removed.ensures.most
    ∙ ap (λ (s : Shape). remove_entry s.entries c.args.part c.args.key) c.self.view_is
