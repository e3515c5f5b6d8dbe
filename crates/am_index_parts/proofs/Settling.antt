-- What an entry changes that settles in the final partition.
use Rattle.std.proofs.Common.{◌≡◌, ℕ, Bool, false, cond, List}
use Rattle.std.proofs.Common.{Option, Some, None, refl, sym, ap, subst}
use Rattle.std.specs.Prelude.{IsSome, is_some}
use Rattle.am_record.specs.OrderedKey.{OrderedKey}
use Rattle.am_record.specs.declared.entry.Entry.{Entry}
use Rattle.am_index.specs.Edits.{same_place}
use Rattle.am_index.specs.Entries.{Slot, slot_of, find, insert_entry, set_entry, IsRising}
use Rattle.am_index.proofs.EditLaws.{edit_laws}
use Rattle.am_index_parts.specs.Partitions.{settled}

-- ---- what is found after an edit

module _ (es : List Entry) (rising : IsRising es) where
  pub inserted_finds : (x : Entry) (part' : ℕ) (key' : OrderedKey) → find (insert_entry es x) part' key' ≡
      cond (same_place part' key' x.part x.key) (Some (slot_of x)) (find es part' key')
  inserted_finds x = (edit_laws es rising).finds.inserted x

  module _ (part : ℕ) (key : OrderedKey) where
    pub reset_finds : (value : List ℕ) (is_ghost : Bool) → IsSome (find es part key) → (part' : ℕ) (key' : OrderedKey) →
        find (set_entry es part key value is_ghost) part' key' ≡ cond (same_place part' key' part key)
        (Some (value, is_ghost)) (find es part' key')
    reset_finds value is_ghost there = (edit_laws es rising).finds.reset part key value is_ghost there

-- ---- an entry that settles

pub rising_settled : (e : Entry) (es : List Entry) → IsRising es → IsRising (settled e es)
rising_settled e es rising = by_cases (find es 0 e.key) refl
  where
    final : Entry
    final = record e { part = 0; is_ghost = false }

    by_cases : (o : Option Slot) → find es 0 e.key ≡ o → IsRising (settled e es)
    by_cases None h = subst IsRising (sym (ap (λ (o : Option Slot). cond (is_some o)
        (set_entry es 0 e.key e.value false) (insert_entry es final)) h))
        ((edit_laws es rising).rise.inserted final h)
    by_cases (Some s) h = subst IsRising (sym (ap (λ (o : Option Slot). cond (is_some o)
        (set_entry es 0 e.key e.value false) (insert_entry es final)) h))
        ((edit_laws es rising).rise.reset 0 e.key e.value false)
