use Rattle.std.proofs.Common.{◌≡◌, length, subst}
use Rattle.am_law_serial.specs.Legal.{IsLegal}
use Rattle.am_law_serial.specs.Trace.{committers, effects}
use Rattle.am_audit.proofs.Checks.{is_legal, told_fault}
use Rattle.am_audit.proofs.trace_audit.Audit.verdict.Goals as goal

pub returns-in-None-clause-legal : goal.returns-in-None-clause-legal
returns-in-None-clause-legal c = λ most_runs seen h.
    subst (λ n. IsLegal n seen × (c.args.self.now.checker.commits ≡ length (committers (effects seen)))) h.most
    (is_legal c.formed_traces_follow.ensures seen c.args.self.now.checker c.args.self.now.fault c.in-None.is h.so_far)

pub returns-in-Some-clause-wrong : goal.returns-in-Some-clause-wrong
returns-in-Some-clause-wrong c = λ most_runs seen h. told_fault most_runs c.args.self.now seen c.in-Some.fault
    c.in-Some.is h
