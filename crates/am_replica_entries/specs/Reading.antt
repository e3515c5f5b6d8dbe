-- Reading a text from left to right, with the first fault that is met.
use Rattle.std.specs.Prelude.{◌≡◌, ℕ, zero, suc, List, [], ◌∷◌, length, take, drop, Option, Some, None, Result, Ok, Err}
use Rattle.std.specs.Prelude.{nat_lt, nat_le, ◌==◌, ◌&&◌, if◌then◌else◌}
use Rattle.std.specs.Int.{Width, w32, byte_len, from_be_bytes}
use Rattle.am_replica_entries.specs.declared.block.Told.{Told}
use Rattle.am_replica_entries.specs.declared.fault.Fault.{Fault}
use Rattle.am_replica_entries.specs.declared.fault.Fault.TheVariants.{Short, OldForm, OtherForm, Flag, NothingTold}
use Rattle.am_replica_entries.specs.declared.fault.Fault.TheVariants.{Trailing}
use Rattle.am_replica_entries.specs.declared.fault.ReadError.{ReadError}
use Rattle.am_replica_entries.specs.declared.fault.ReadError.TheVariants as errors
use Rattle.am_replica_entries.specs.Texts.{TheBlock}

infixl 10 ◌>>=◌
abbrev pub ◌>>=◌ : {A B : Type 0} → Result A Fault → (A → Result B Fault) → Result B Fault
(Ok x) >>= f = f x
(Err e) >>= f = Err e

-- what a function returned, seen by view, is what reading gives, unless memory ran out
abbrev pub Fails : {Y : Type 0} → ReadError → Result Y Fault → Type 0
Fails errors.NoMemory read = Unit {0}
Fails (errors.NoEntry f) read = read ≡ Err f

abbrev pub Gives : {X Y : Type 0} → (X → Y) → Result X ReadError → Result Y Fault → Type 0
Gives view (Ok x) read = read ≡ Ok (view x)
Gives view (Err e) read = Fails e read

-- the form that is known; a digit, with which entries began before they had forms; any other
abbrev pub form_at : List ℕ → Result (List ℕ) Fault
form_at [] = Err Short
form_at (b ∷ rest) =
    if b == 1 then Ok rest else (if nat_le 48 b && nat_le b 57 then Err OldForm else Err OtherForm)

-- a field is a value and the bytes after it
abbrev pub number_at : Width → List ℕ → Result (ℕ × List ℕ) Fault
number_at w bytes =
    if nat_lt (length bytes) (byte_len w) then Err Short
    else Ok (from_be_bytes w (take (byte_len w) bytes), drop (byte_len w) bytes)

unfoldable pub string_at : List ℕ → Result (List ℕ × List ℕ) Fault
string_at bytes = do
  n ← number_at w32 bytes
  if nat_lt (length n.1) n.0 then Err Short else Ok (take n.0 n.1, drop n.0 n.1)

unfoldable pub lines_at : List ℕ → Result (ℕ × List ℕ) Fault
lines_at bytes = do
  n ← number_at w32 bytes
  if n.0 == 0 then Err NothingTold else Ok n

abbrev pub digest_at : List ℕ → Result (List ℕ × List ℕ) Fault
digest_at bytes = if nat_lt (length bytes) 32 then Err Short else Ok (take 32 bytes, drop 32 bytes)

unfoldable pub told_at : List ℕ → Result (Option Told × List ℕ) Fault
told_at [] = Err Short
told_at (zero ∷ rest) = Ok (None, rest)
told_at (suc zero ∷ rest) = do
  n ← lines_at rest
  d ← digest_at n.1
  Ok (Some (record { lines = n.0; digest = d.0 }), d.1)
told_at (suc (suc b) ∷ rest) = Err Flag

unfoldable pub block_at : List ℕ → Result (TheBlock × List ℕ) Fault
block_at bytes = do
  lines ← string_at bytes
  told ← told_at lines.1
  Ok (record { lines = lines.0; told = told.0 }, told.1)

unfoldable pub blocks_at : ℕ → List ℕ → Result (List TheBlock × List ℕ) Fault
blocks_at zero bytes = Ok ([], bytes)
blocks_at (suc n) bytes = do
  first ← block_at bytes
  others ← blocks_at n first.1
  Ok (first.0 ∷ others.0, others.1)

-- all of the bytes
unfoldable pub entry_in : List ℕ → Result (List TheBlock) Fault
entry_in text = do
  rest ← form_at text
  n ← number_at w32 rest
  bs ← blocks_at n.0 n.1
  if length bs.1 == 0 then Ok bs.0 else Err Trailing
