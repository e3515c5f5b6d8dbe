-- What is given to a sink.
use Rattle.std.specs.Prelude.{◌≡◌, ℕ, ◌+◌, List, Bool, Option, Result, take, OnOk, OnErr}
use Rattle.std.specs.Io.KnownBytes.{Appends}
use Rattle.am_line_sink.specs.declared.failed.Failed.{Failed}

-- `holds` says which bytes a sink holds, where they are known. These bytes were added at the end.
abbrev pub Gave : {S : Type 0} → (S → Option (List ℕ)) → S → List ℕ → S → Type 0
Gave holds old given new = Appends (holds old) (holds new) given

-- A beginning of these bytes was added at the end.
abbrev pub GaveBeginning : {S : Type 0} → (S → Option (List ℕ)) → S → List ℕ → S → Type 0
GaveBeginning holds old given new = (n : ℕ) × Gave holds old (take n given) new

-- What writing a text did: all of it was given; or the sink failed once more, and a beginning of it was given.
pub record Wrote {S A : Type 0} (holds : S → Option (List ℕ)) (failures : S → ℕ) (old : S) (text : List ℕ)
    (result : Result A Failed) (new : S) : Type 0 where
  pub given : OnOk result (Gave holds old text new)
  pub ok : OnOk result (failures new ≡ failures old)
  pub failed : OnErr result (failures new ≡ failures old + 1)
  pub torn : OnErr result (GaveBeginning holds old text new)

-- What a sink over memory is: the bytes that it keeps, whether some of them are not sent on, how many calls there are
-- up to the one that fails (0: none does), and how often it has failed.
pub record Outgoing : Type 0 where
  pub bytes : List ℕ
  pub pending : Bool
  pub calls_to_failure : ℕ
  pub failures : ℕ
