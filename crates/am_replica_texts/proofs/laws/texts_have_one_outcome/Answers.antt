use Rattle.am_replica_texts.proofs.Entries.{one_outcome}
use Rattle.am_replica_texts.proofs.laws.texts_have_one_outcome.Goals as goal

pub returns-clause-told : goal.returns-clause-told
returns-clause-told c digest text a b s of_a of_b = (one_outcome digest text a b s of_a of_b).0

pub returns-clause-after : goal.returns-clause-after
returns-clause-after c digest text a b s of_a of_b = (one_outcome digest text a b s of_a of_b).1
