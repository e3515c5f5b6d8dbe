-- What is seen of a leaf, and its code.
use Rattle.std.specs.Prelude.{◌≡◌, ◌⊎◌, ℕ, ◌≤◌, List, length, refl}
use Rattle.std.specs.Coded.{Coded, code_by, coded×, coded_ℕ}
use Rattle.std.specs.List.{AllByRecursion}
use Rattle.am_record.specs.OrderedKey.{OrderedKey, bytes_of}
use Rattle.am_record.specs.Plain.{Records}
use Rattle.am_record.specs.declared.entry.Entry.{Entry}
use Rattle.am_record.specs.Limits.{max_value_bytes}
use Rattle.am_index.specs.EntryCode.{entries_code}

-- its entries, and how many bytes a key and a value may have with no memory asked
pub record Seen : Type 0 where
  pub entries : List Entry
  pub key_room : ℕ
  pub value_room : ℕ

abbrev pub seen_code : Coded Seen
seen_code = code_by (List Entry × (ℕ × ℕ)) (coded× entries_code (coded× coded_ℕ coded_ℕ))
    (λ s. (s.entries, (s.key_room, s.value_room)))
    (λ p. record { entries = p.0; key_room = p.1.0; value_room = p.1.1 }) (λ _. refl)

-- the room of one leaf is that of the other
pub record SameRoom (a b : Seen) : Type 0 where
  pub keys : a.key_room ≡ b.key_room
  pub values : a.value_room ≡ b.value_room

-- one leaf has the entries of the other, and no less room
pub record Widened (a b : Seen) : Type 0 where
  pub entries : a.entries ≡ b.entries
  pub keys : b.key_room ≤ a.key_room
  pub values : b.value_room ≤ a.value_room

-- a key and a value of so many bytes have room
pub record Fits (s : Seen) (key value : ℕ) : Type 0 where
  pub key_fits : key ≤ s.key_room
  pub value_fits : value ≤ s.value_room

-- a leaf is wide only where a key or a value of so many bytes is longer than 16
pub record IsNarrow (s : Seen) (key value : ℕ) : Type 0 where
  pub keys : key ≤ 16 → s.key_room ≡ 16
  pub values : value ≤ 16 → s.value_room ≡ 16

-- one leaf has more room than the other only where that had none for a key or a value of so many bytes
pub record WidensFor (a b : Seen) (key value : ℕ) : Type 0 where
  pub keys : key ≤ b.key_room → a.key_room ≡ b.key_room
  pub values : value ≤ b.value_room → a.value_room ≡ b.value_room

-- each record of a run has keys and values of no more bytes
abbrev pub KeysFit : Records → ℕ → Type 0
KeysFit rs n = AllByRecursion (λ (r : OrderedKey × List ℕ). length (bytes_of r.0) ≤ n) rs

abbrev pub ValuesFit : Records → ℕ → Type 0
ValuesFit rs n = AllByRecursion (λ (r : OrderedKey × List ℕ). length r.1 ≤ n) rs

-- none of the values has more bytes
abbrev pub NoneLonger : ℕ → List (List ℕ) → Type 0
NoneLonger n vs = AllByRecursion (λ (v : List ℕ). length v ≤ n) vs

-- a value may have 16 bytes or 64, and none has more
pub record ValuesHaveRoom (s : Seen) : Type 0 where
  pub kind : (s.value_room ≡ 16) ⊎ (s.value_room ≡ max_value_bytes)
  pub none_longer : AllByRecursion (λ e. length e.value ≤ s.value_room) s.entries
