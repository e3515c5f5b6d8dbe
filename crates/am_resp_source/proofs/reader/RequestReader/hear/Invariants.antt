use Rattle.std.proofs.Common.{◌≡◌, ℕ, List, ◌++◌, length}
use Rattle.am_resp_source.specs.Progress.{CameSoFar, HasFailed}
use Rattle.am_resp_source.proofs.reader.RequestReader.hear.Given as goal

abbrev pub invariant-loop-self : goal.invariant-loop-self
invariant-loop-self l = record {
  most : l.self.most ≡ l.fn.self.most;
  still : HasFailed l.fn.self → HasFailed l.self;
  failed : HasFailed l.self → HasFailed l.fn.self;
  taken : (taken : List ℕ) × (l.piece ≡ taken ++ l.rest) ×
      ((came : List ℕ) → CameSoFar l.fn.self came → CameSoFar l.self (came ++ taken));
}

abbrev pub decreases-loop-self : goal.decreases-loop-self
decreases-loop-self l = length l.rest
