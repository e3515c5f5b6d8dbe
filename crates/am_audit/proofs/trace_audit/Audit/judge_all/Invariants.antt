use Rattle.std.specs.Prelude.{take}
use Rattle.am_audit.specs.AuditStates.{HasJudged}
use Rattle.am_audit.proofs.trace_audit.Audit.judge_all.Given as goal

abbrev pub invariant-loop-step : goal.invariant-loop-step
invariant-loop-step g l = HasJudged g.most_runs l.self (take l.step-index l.trace)
