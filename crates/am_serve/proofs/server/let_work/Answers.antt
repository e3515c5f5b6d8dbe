use Rattle.std.proofs.Common.{ℕ, subst}
use Rattle.std.specs.List.{AllZip}
use Rattle.am_serve_connections.specs.declared.turns.Upkeep.{Upkeep}
use Rattle.am_serve_workers.specs.Turns.{HasTakenTurns}
use Rattle.am_serve_connections.specs.Lifetimes.{upkeep_of}
use Rattle.am_serve.proofs.server.let_work.Goals as goal

pub returns : goal.returns
returns g c =
    let before = c.args.worker_seats.items in
    let after = c.run_workers.result.seats.items in
    subst (λ (n : ℕ). AllZip (HasTakenTurns (upkeep_of c.args.shared.now.lifetime c.args.shared.now.runs) 16 n) before
    after)
    c.turns-turns.ensures
    (subst (λ (u : Upkeep). AllZip (HasTakenTurns u 16 c.turns-turns.result) before after) c.upkeep-upkeep.ensures
    c.run_workers.ensures.turned)
