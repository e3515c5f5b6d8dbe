use Rattle.std.proofs.Common.{◌≡◌, ◌≤◌, ◌++◌, arith, ap, ◌∙◌}
use Rattle.am_replica_log.specs.History.{generation}
use Rattle.am_replica_log.proofs.Once.{generations_rise, never_later}
use Rattle.am_replica_log.proofs.log.Log.generation.Goals as goal

pub returns-clause-puts : goal.returns-clause-puts
returns-clause-puts c from name part text history later ok at never =
    let here : c.self.inside.generation ≡ generation history = ap (λ l. l.generation) c.self.view_is ∙ at.generation in
    let rise : generation history ≤ generation (later ++ history) = generations_rise later history ok in
    (omega arith, λ g under. never_later g name later history ok (omega (arith, under)) (never g))
