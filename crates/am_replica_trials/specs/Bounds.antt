-- How long answers are.
use Rattle.std.specs.Prelude.{ℕ, ◌≤◌, List, length}
use Rattle.std.specs.List.{AllByRecursion}
use Rattle.am_record.specs.Limits.{max_key_bytes, max_value_bytes}
use Rattle.am_record.specs.OrderedKey.{OrderedKey}
use Rattle.am_record.specs.declared.step.Reply.{Reply}
use Rattle.am_record.specs.declared.step.Reply.TheVariants.{Found, Rows, Exists}
use Rattle.am_line_text.specs.Keys.{printed_key}

-- a key and a value are no longer than they may be
pub record IsShortRow (row : OrderedKey × List ℕ) : Type 0 where
  pub key : length (printed_key row.0) ≤ max_key_bytes
  pub value : length row.1 ≤ max_value_bytes

-- the keys and values that the reply tells are
abbrev pub TellsShort : Reply → Type 0
TellsShort (Found value) = length value ≤ max_value_bytes
TellsShort (Rows rows) = AllByRecursion IsShortRow rows
TellsShort (Exists key) = length (printed_key key) ≤ max_key_bytes
TellsShort reply = Unit {0}
