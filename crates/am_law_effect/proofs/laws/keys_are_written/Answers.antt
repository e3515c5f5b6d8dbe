use Rattle.std.proofs.Common.{◌≡◌, true}
use Rattle.am_law_effect.specs.Store.{opened}
use Rattle.am_law_effect.proofs.WrittenKeys.{keys_written}
use Rattle.am_law_effect.proofs.laws.keys_are_written.Goals as goal

pub returns : goal.returns
returns c = λ test trace written. keys_written (λ key. test key ≡ true) trace opened written tt
