use Rattle.am_store_undo.proofs.TakeBacks.{undo_laws, nothing_undone}
use Rattle.am_store_undo.proofs.laws.undo_follows.Goals as goal

pub returns-clause-nothing : goal.returns-clause-nothing
returns-clause-nothing c = nothing_undone

pub returns-clause-laws : goal.returns-clause-laws
returns-clause-laws c = λ es notes owned before rising one u. undo_laws es notes owned before rising one u
