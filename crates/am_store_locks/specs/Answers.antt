-- What asking for a lock may answer.
use Rattle.std.specs.Prelude.{ℕ, ◌≤◌, List}
use Rattle.std.specs.List.{All, Contains}
use Rattle.am_store_locks.specs.declared.lock_answers.Asked.{Asked}
use Rattle.am_store_locks.specs.declared.lock_answers.Asked.TheVariants.{Granted, Busy, TooManyLocks, NoMemory}

-- the number is one of these, and none of them is below it
pub record IsLeastOf (numbers : List ℕ) (n : ℕ) : Type 0 where
  pub one_of_them : Contains numbers n
  pub least : All (λ m. n ≤ m) numbers

-- the one fact of the holder where the answer is Busy, and the other where it is not
abbrev pub MatchBusy : Asked → (ℕ → Type 0) → Type 0 → Type 0
MatchBusy (Busy holder) P Q = P holder
MatchBusy Granted P Q = Q
MatchBusy TooManyLocks P Q = Q
MatchBusy NoMemory P Q = Q
