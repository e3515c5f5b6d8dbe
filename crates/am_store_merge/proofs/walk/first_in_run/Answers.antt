use Rattle.std.proofs.Common.{ap, ◌∙◌}
use Rattle.std.specs.Bool.{then_some}
use Rattle.am_store_merge.proofs.Stretches.{none_read, one_read}
use Rattle.am_store_merge.proofs.walk.first_in_run.Goals as goal

pub returns-in_err-first-clause-first : goal.returns-in_err-first-clause-first
returns-in_err-first-clause-first g c =
    c.from_residual.ensures ∙ none_read c.args.parts.now.entries c.read_run.ensures.sound.rising c.args.range c.args.run
    c.entries.result.now (c.entries.ensures.all ∙ c.read_run.ensures.read) c.in_err-first.ensures.value

pub returns-clause-first : goal.returns-clause-first
returns-clause-first g c =
    let first = c.in_ok-first.field-0.now in
    c.then_some.ensures ∙ ap (λ b. then_some b first) c.contains.ensures ∙
    one_read c.args.parts.now.entries c.read_run.ensures.sound.rising c.args.range c.args.run c.entries.result.now
    (c.entries.ensures.all ∙ c.read_run.ensures.read) first c.in_ok-first.ensures.value
