-- Structs of the caller's own, one after another, each with its key and its value at the same places.
use Rattle.std.specs.Prelude.{ℕ, zero, suc, ◌+◌, ◌*◌, ◌≤◌, ◌<◌, nat_le, length, List, [], ◌∷◌, take, drop, cond}
use Rattle.std.specs.Prelude.{Result, Ok, Err}
use Rattle.am_record.specs.Limits.{max_key_bytes, max_value_bytes}
use Rattle.am_record.specs.OrderedKey.{OrderedKey}
use Rattle.am_record.specs.Plain.{Records}
use Rattle.am_c_steps.specs.declared.status.Status.{Status}
use Rattle.am_c_steps.specs.declared.status.Status.TheVariants.{BadKey, BadValue}
use Rattle.am_c_steps.specs.declared.structs.Layout.{Layout}
use Rattle.am_c_steps.specs.Texts.{of_both, key_given, value_given}

-- the key of a struct of these bytes
abbrev pub struct_key : Layout → List ℕ → Result OrderedKey Status
struct_key l bytes =
    cond (nat_le (l.key_at + l.key_length) (length bytes)) (key_given (take l.key_length (drop l.key_at bytes)))
    (Err BadKey)

-- its value
abbrev pub struct_value : Layout → List ℕ → Result (List ℕ) Status
struct_value l bytes =
    cond (nat_le (l.value_at + l.value_length) (length bytes))
    (value_given (take l.value_length (drop l.value_at bytes))) (Err BadValue)

-- both, or what is wrong with the first that is wrong
abbrev pub struct_given : Layout → List ℕ → Result (OrderedKey × List ℕ) Status
struct_given l bytes = of_both (λ key value. Ok (key, value)) (struct_key l bytes) (struct_value l bytes)

-- the records of the first so many structs, or what is wrong with the first of them that has none
abbrev pub structs_given : Layout → List ℕ → ℕ → Result Records Status
structs_given l bytes zero = Ok []
structs_given l bytes (suc n) = of_both (λ pair pairs. Ok (pair ∷ pairs)) (struct_given l (take l.size bytes))
    (structs_given l (drop l.size bytes) n)

-- the bytes of the struct at the place
abbrev pub struct_at : Layout → List ℕ → ℕ → List ℕ
struct_at l bytes at = take l.size (drop (at * l.size) bytes)

-- a struct has bytes, and in them a key and a value that are no longer than they may be
pub record IsLayout (l : Layout) : Type 0 where
  pub some : 0 < l.size
  pub key : l.key_at + l.key_length ≤ l.size
  pub key_fits : l.key_length ≤ max_key_bytes
  pub value : l.value_at + l.value_length ≤ l.size
  pub value_fits : l.value_length ≤ max_value_bytes

-- so many such structs stand one after another
pub record AreWholeStructs (l : Layout) (bytes : List ℕ) (count : ℕ) : Type 0 where
  pub layout : IsLayout l
  pub whole : count * l.size ≤ length bytes

-- their records
abbrev pub records_given : Result Records Status → Records
records_given (Ok records) = records
records_given (Err why) = []
