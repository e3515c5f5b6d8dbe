use Rattle.std.proofs.Common.{◌≡◌, ◌≤◌, length, drop, false}
use Rattle.am_program_audit.specs.Answers.{holds_lf}
use Rattle.am_program_audit.proofs.answer.whole_run.Given as goal

abbrev pub invariant-bytes : goal.invariant-bytes
invariant-bytes l = (l.end ≤ length l.text) × (holds_lf (drop l.end l.text) ≡ false)

abbrev pub decreases-bytes : goal.decreases-bytes
decreases-bytes l = l.end
