use Rattle.am_store_undo.proofs.NotesSinceMarks.{mark_laws}
use Rattle.am_store_undo.proofs.laws.marks_follow.Goals as goal

pub returns : goal.returns
returns c = λ es notes owned before marks maps rising one u. mark_laws es notes owned before rising one marks maps u
