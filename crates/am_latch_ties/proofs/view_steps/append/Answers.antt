use Rattle.std.proofs.Common.{rules, ap, sym, ◌∙◌}
use Rattle.am_latch_ties.specs.Views.{view_with_call}
use Rattle.am_latch_ties.specs.declared.call_id.CallId.{CallId}
use Rattle.am_latch_ties.proofs.Rules.{appends}
use Rattle.am_latch_ties.proofs.view_steps.append.Goals as goal

pub load-requires : goal.load-requires
load-requires g c = (
  search rules,
  search rules,
  appends _ _ _ _ _ _ _ c.requires.token.0
      (ap (λ (m : CallId). m.seat) (sym c.requires.entry.2) ∙ c.requires.token.1),
)

pub returns-clause-token : goal.returns-clause-token
returns-clause-token g c =
    let e = c.requires.entry in
    c.load.ensures.2 ∙ (λ i. (
      view_with_call (sym e.0 i) (sym e.1 i) (sym e.2 i) c.args.token.now.me.0,
      c.args.token.now.me.1,
    ))
