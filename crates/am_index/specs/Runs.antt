-- The entries of a run, and where they stand.
use Rattle.std.specs.Prelude.{◌≡◌, ◌<◌, ◌≤◌, ◌==◌, ℕ, List, [], ◌∷◌, false, None}
use Rattle.std.specs.List.{AllByRecursion}
use Rattle.am_record.specs.OrderedKey.{OrderedKey}
use Rattle.am_record.specs.Plain.{Records, is_key_of}
use Rattle.am_record.specs.declared.entry.Entry.{Entry}
use Rattle.am_index.specs.Entries.{find, insert_entry}

-- the record as a live entry of the partition
abbrev pub live_entry : ℕ → OrderedKey × List ℕ → Entry
live_entry part r = record { part = part; key = r.0; value = r.1; is_ghost = false }

-- the records as entries of the partition
abbrev pub run_entries : ℕ → Records → List Entry
run_entries part [] = []
run_entries part (r ∷ rs) = live_entry part r ∷ run_entries part rs

-- the entries, and each of the records live in the partition
abbrev pub with_run : ℕ → Records → List Entry → List Entry
with_run part [] es = es
with_run part (r ∷ rs) es = with_run part rs (insert_entry es (live_entry part r))

-- no entry stands above the partition
pub record NothingAbove (part : ℕ) (es : List Entry) : Type 0 where
  pub all : AllByRecursion (λ e. e.part ≤ part) es

-- where the records of a run stand, and where nothing stands
pub record RunLaws (es : List Entry) : Type 0 where
  -- a run changes no other partition, and in its own no other key
  pub other_parts : (run : ℕ) (records : Records) (part : ℕ) (key : OrderedKey) → (part == run) ≡ false →
      find (with_run run records es) part key ≡ find es part key
  pub other_keys : (run : ℕ) (records : Records) (key : OrderedKey) → is_key_of records key ≡ false →
      find (with_run run records es) run key ≡ find es run key
  -- nothing stands above a partition exactly where nothing is found above it
  pub none_above : (part : ℕ) → NothingAbove part es → (part' : ℕ) (key : OrderedKey) → part < part' →
      find es part' key ≡ None
  pub nothing_above : (part : ℕ) → ((part' : ℕ) (key : OrderedKey) → part < part' → find es part' key ≡ None) →
      NothingAbove part es
