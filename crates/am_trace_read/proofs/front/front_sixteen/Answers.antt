use Rattle.am_trace_read.proofs.Fronts.{front_cut}
use Rattle.am_trace_read.proofs.front.front_sixteen.Goals as goal

pub returns-clause-text : goal.returns-clause-text
returns-clause-text c = front_cut c.args.text.now c.in_ok-bytes.bytes 32 c.in_ok-bytes.ensures.text
