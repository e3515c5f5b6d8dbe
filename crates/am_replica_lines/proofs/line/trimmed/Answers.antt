use Rattle.am_replica_lines.proofs.Lines.{with_cr, with_none}
use Rattle.am_replica_lines.proofs.line.trimmed.Goals as goal

pub returns-then-last-eq13 : goal.returns-then-last-eq13
returns-then-last-eq13 c = with_cr c.args.line.now c.in-Some.front.now c.in-Some.last.now c.in-Some.ensures.cases.0
    c.if-last-eq13.true

pub returns-else-last-eq13 : goal.returns-else-last-eq13
returns-else-last-eq13 c = with_none c.args.line.now c.in-Some.front.now c.in-Some.last.now c.in-Some.ensures.cases.0
    c.if-last-eq13.false
