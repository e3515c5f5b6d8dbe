use Rattle.std.proofs.Common.{sym}
use Rattle.am_trace_read.proofs.Fronts.{one_byte}
use Rattle.am_trace_read.proofs.front.front_byte.Goals as goal

pub returns-clause-text : goal.returns-clause-text
returns-clause-text c = (one_byte c.args.text.now c.in_ok-high.more.now c.in_ok-low.rest.now c.in_ok-high.high.now
    c.in_ok-low.low.now c.in_ok-byte.byte c.in_ok-high.ensures.cases.0 c.in_ok-low.ensures.cases.0
    (sym c.in_ok-byte.ensures)).1
