use Rattle.am_record_model.proofs.Marks.{new_draft}
use Rattle.am_record_model.proofs.plain.Plain.new.Goals as goal

pub returns : goal.returns
returns c = new_draft c.new.result c.new-2.result c.new.ensures c.new-2.ensures.marks
