use Rattle.am_store_scan.proofs.RisingRows.{scan_back_falls}
use Rattle.am_store_scan.proofs.laws.scans_back_fall.Goals as goal

pub returns : goal.returns
returns c = scan_back_falls
