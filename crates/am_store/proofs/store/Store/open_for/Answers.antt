use Rattle.std.proofs.Common.{rules}
use Rattle.am_store.proofs.StoreSteps.{stands_opened}
use Rattle.am_store.proofs.store.Store.open_for.Goals as goal

pub returns-clause-stands : goal.returns-clause-stands
returns-clause-stands g c = stands_opened c.args.most_runs _ (c.steps_lift.ensures.opened c.args.most_runs)
    c.steps_lift.ensures.sound (search rules)
