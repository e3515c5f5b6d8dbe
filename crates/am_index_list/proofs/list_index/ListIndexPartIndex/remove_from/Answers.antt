use Rattle.std.proofs.Common.{◌+◌, length, sym, ap, ◌∙◌}
use Rattle.am_index.proofs.Removals.{one_fewer, remove_one}
use Rattle.am_index_list.proofs.list_index.ListIndexPartIndex.remove_from.Goals as goal

pub returns-clause-counted : goal.returns-clause-counted
returns-clause-counted c = ap (λ l. length l + 1) c.remove.ensures.others ∙
    one_fewer c.args.self.now c.args.part c.args.key c.requires.present

pub returns-clause-others : goal.returns-clause-others
returns-clause-others c = c.remove.ensures.others ∙ sym (remove_one c.args.part c.args.key c.args.self.now)
