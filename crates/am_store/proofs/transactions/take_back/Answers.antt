use Rattle.std.proofs.Common.{refl}
use Rattle.am_store.proofs.transactions.take_back.Goals as goal

pub returns-clause-log : goal.returns-clause-log
returns-clause-log g c = record { log = c.take_back.new.self; written = refl }
