use Rattle.std.proofs.Common.{◌∙◌, sym, ap}
use Rattle.am_index.specs.Entries.{find}
use Rattle.am_store_undo.proofs.Run.{buried}
use Rattle.am_store_undo.proofs.undo_log.bury.Goals as goal

pub returns-clause-back : goal.returns-clause-back
returns-clause-back g c = λ p k. ap (λ l. find l p k) c.set.ensures.entries ∙
    buried c.args.parts.now.entries c.args.part c.args.key _ c.in-Some.found.1
    (sym c.look-slot.ensures.found ∙ c.in-Some.is)
    p
    k
