use Rattle.am_c_steps.proofs.Sources.{records_count}
use Rattle.am_c_steps.proofs.given_records.GivenRecordsRecordSource.len.Goals as goal

pub returns : goal.returns
returns c = records_count _ c.self.invariant _ c.self.view_is
