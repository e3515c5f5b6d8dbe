use Rattle.am_store_undo.proofs.Log.{alone, set_back}
use Rattle.am_store_undo.proofs.undo_log.take_back_one.Goals as goal

pub set-requires-clause-alone : goal.set-requires-clause-alone
set-requires-clause-alone g c = alone c.args.parts.now.entries c.in-Before.part c.in-Before.key c.in-Before.value
    c.in-Before.is_ghost c.args.note c.in-Before.is c.requires.one

pub returns-in-Before-clause-back : goal.returns-in-Before-clause-back
returns-in-Before-clause-back g c = set_back c.args.parts.now.entries c.in-Before.part c.in-Before.key c.in-Before.value
    c.in-Before.is_ghost c.args.note c.in-Before.is c.requires.stands c.set.new.self.entries c.set.ensures.entries
