use Rattle.am_store_scan.proofs.RisingRows.{scan_rises}
use Rattle.am_store_scan.proofs.laws.scans_rise.Goals as goal

pub returns : goal.returns
returns c = scan_rises
