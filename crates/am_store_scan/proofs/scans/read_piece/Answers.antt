use Rattle.std.proofs.Common.{arith}
use Rattle.am_store_scan.proofs.GatheredHeads.{one_source}
use Rattle.am_store_scan.proofs.scans.read_piece.Goals as goal

pub copy_rows-requires-clause-only : goal.copy_rows-requires-clause-only
copy_rows-requires-clause-only g c = one_source c.in_ok-sources.sources.items c.index.result.now
    (omega (arith, c.in_ok-sources.sources.ok.0, c.if-len-eq1.true, c.len.ensures)) c.index.ensures
    c.in_ok-sources.ensures.every
