use Rattle.std.proofs.Common.{rules, refl, ap, sym, ◌∙◌}
use Rattle.atomic_table.specs.Table.{keeps}
use Rattle.am_latch_engine.specs.HandOuts.{view_with}
use Rattle.am_latch_engine.proofs.hand_outs.add_events.Goals as goal

pub load-requires : goal.load-requires
load-requires g c = (search rules, search rules, λ s h long at fits. (_, keeps, tt, tt, refl))

pub returns-clause-token : goal.returns-clause-token
returns-clause-token g c = ap (λ m. m.0) c.load.ensures.2 ∙
    (λ i. view_with (sym c.requires.events.0 i) (sym c.requires.events.1 i) c.args.token.now.me.0)
