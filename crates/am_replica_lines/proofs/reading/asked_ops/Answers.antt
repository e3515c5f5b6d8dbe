use Rattle.std.proofs.Common.{◌≡◌, length, ◌+◌, ◌∙◌, ap, arith, cond, nat_le}
use Rattle.am_replica_lines.proofs.Lines.{read_more}
use Rattle.am_replica_lines.proofs.reading.asked_ops.Goals as goal

pub loop-rest-preserved : goal.loop-rest-preserved
loop-rest-preserved c =
    let reads = c.loop-rest.invariant.reads in
    let asked : c.len.result ≡ length c.put.new.ops.items = omega (arith, c.len.ensures, c.put.new.ops.ok.0) in
    record {
      reads = read_more c.args.text.now c.loop-rest.rest.now c.cut_line.result.0.now c.cut_line.result.1.now
          c.args.first c.loop-rest.number c.loop-rest.told c.told_by-told.result c.loop-rest.ops.items
          c.put.new.ops.items c.loop-rest.session c.take_line.new.session c.in_ok-op.op reads c.cut_line.ensures.cut
          (c.in_ok-op.ensures.takes _ reads.at) c.in_ok-put.ensures
          (c.told_by-told.ensures ∙ ap (λ n. cond (nat_le (c.loop-rest.number + 1) c.args.first) n c.loop-rest.told)
          asked);
      bound = omega (arith, c.cut_line.ensures.shorter, c.loop-rest.invariant.bound);
    }
