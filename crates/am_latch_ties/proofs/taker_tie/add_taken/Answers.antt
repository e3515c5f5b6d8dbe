use Rattle.std.proofs.Common.{rules, sym, ◌∙◌}
use Rattle.am_latch_ties.specs.HandOutRule.{taken_with}
use Rattle.am_latch_ties.proofs.RuleSteps.{hands}
use Rattle.am_latch_ties.proofs.taker_tie.add_taken.Goals as goal

pub load-requires : goal.load-requires
load-requires g c = (search rules, search rules, hands _ _ _ _ _ c.requires.token)

pub returns-clause-token : goal.returns-clause-token
returns-clause-token g c = c.load.ensures.2.0 ∙
    (λ i. (taken_with (sym c.requires.events i) c.args.token.now.me.0, c.args.token.now.me.1))
