use Rattle.std.proofs.Common.{rules, ◌∙◌}
use Rattle.am_latch_ties.specs.Views.{log_in}
use Rattle.am_latch.proofs.SeatReceipts.{audited_more}
use Rattle.am_latch.proofs.latch_end.audit_all.Goals as goal

pub loop-i-preserved : goal.loop-i-preserved
loop-i-preserved g c =
    let i = c.loop-i.invariant in
    let a = c.audit-trace_token.ensures in
    let more = audited_more (log_in c.args.trace_token.me.0) c.loop-i.seats c.args.seats.now c.loop-i.i _
    c.audit-trace_token.new.self i.same i.known (search rules) a.same.0 (rw i.trace_token at a.known) in
    record { same = more.0; known = more.1; table = a.same.1 ∙ i.table; trace_token = a.same.2 ∙ i.trace_token }
