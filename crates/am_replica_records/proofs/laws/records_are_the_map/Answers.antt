use Rattle.am_replica_records.proofs.Rows.{whole_again}
use Rattle.am_replica_records.proofs.laws.records_are_the_map.Goals as goal

pub returns : goal.returns
returns c m keys = whole_again m keys
