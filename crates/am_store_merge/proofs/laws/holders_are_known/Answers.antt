use Rattle.am_store_locks.proofs.FirstOwners.{held}
use Rattle.am_store_merge.proofs.Holders.{holder_only, same_holders}
use Rattle.am_store_merge.proofs.laws.holders_are_known.Goals as goal

pub returns : goal.returns
returns c = record { one = holder_only; answered = held; same = same_holders }
