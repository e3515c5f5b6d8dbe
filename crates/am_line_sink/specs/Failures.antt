-- What an answer of a stream means.
use Rattle.std.specs.Prelude.{◌≡◌, ℕ, ◌+◌, Result, Ok, IsErr}

-- The call is answered with x, and no failure is counted.
abbrev pub IsAnswered : {A E : Type 0} → Result A E → A → ℕ → ℕ → Type 0
IsAnswered result x before after = (result ≡ Ok x) × (after ≡ before)

-- The call failed, and one failure more is counted.
abbrev pub IsCounted : {A E : Type 0} → Result A E → ℕ → ℕ → Type 0
IsCounted result before after = IsErr result × (after ≡ before + 1)
