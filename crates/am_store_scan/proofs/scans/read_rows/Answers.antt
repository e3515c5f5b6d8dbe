use Rattle.std.proofs.Common.{◌∙◌, sym, ap, take, arith}
use Rattle.am_index.specs.Content.{content}
use Rattle.am_record.specs.Interval.{Interval, within}
use Rattle.am_record.specs.Plain.{rows_where}
use Rattle.am_store_scan.specs.Directions.{as_read}
use Rattle.am_store_scan.proofs.Pieces.{enough_of_piece, same_range}
use Rattle.am_store_scan.proofs.scans.read_rows.Goals as goal
use Rattle.am_store_scan.proofs.scans.read_rows.Goals.{then-len-max-via-then-len-max}
use Rattle.am_store_scan.proofs.scans.read_rows.Goals.{then-len-max-via-else-len-max+then-eq}

pub returns-then-len-max : goal.returns-then-len-max
returns-then-len-max g c = elim c.then-len-max.branch [
  | then-len-max-via-then-len-max w ↦ enough_of_piece g.D.Direction.is_back c.piece-piece.ensures c.args.max
      (content c.args.parts.now.entries) c.in_ok-rows.rows.items c.in_ok-rows.ensures
      (omega (arith, c.in_ok-rows.rows.ok.0, c.len.ensures, w.if-len-max.true))
  | then-len-max-via-else-len-max+then-eq w ↦ c.in_ok-rows.ensures ∙
      ap (λ (r : Interval). take c.args.max (as_read g.D.Direction.is_back (rows_where (within r)
      (content c.args.parts.now.entries)))) (same_range c.piece-piece.result c.args.range
      (sym w.eq.ensures ∙ w.if-eq.true))
]
