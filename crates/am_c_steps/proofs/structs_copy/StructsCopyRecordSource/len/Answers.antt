use Rattle.am_c_steps.proofs.Wholes.{count_given}
use Rattle.am_c_steps.proofs.structs_copy.StructsCopyRecordSource.len.Goals as goal

pub returns : goal.returns
returns c = count_given _ _ _ c.self.invariant _ c.self.view_is
