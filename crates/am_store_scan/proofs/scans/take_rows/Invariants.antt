use Rattle.am_store_scan.proofs.TakenRows.{AreTaken}
use Rattle.am_store_scan.proofs.scans.take_rows.Given as goal

abbrev pub invariant-loop : goal.invariant-loop
invariant-loop g l = AreTaken l.fn.cursor l.rows.items l.cursor l.counter
