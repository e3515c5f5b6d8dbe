-- What the walks over a rising list find: the entry, and nothing before it.
use Rattle.std.specs.Prelude.{◌≡◌, ◌≢◌, ℕ, List, [], ◌∷◌, ◌++◌, true, ◌&&◌, ◌==◌, Some, None, if◌then◌else◌}
use Rattle.std.specs.declared.cmp.Ordering.TheVariants.{Less, Greater}
use Rattle.std.specs.Ordering.{is_lt}
use Rattle.am_record.specs.OrderedKey.{OrderedKey, key_cmp}
use Rattle.am_record.specs.Interval.{key_le}
use Rattle.am_record.specs.EntryOrder.{place_of, place_cmp}
use Rattle.am_record.specs.declared.entry.Entry.{Entry}
use Rattle.am_index.specs.Entries.{entry_at, find, next_from, all_from, after, all_after, next_any, IsRising}

-- the entry stands in the partition, and no entry of the partition with a key below its own has a key that is reached
pub record IsFirstOf (es : List Entry) (part : ℕ) (reached : OrderedKey → Type 0) (x : Entry) : Type 0 where
  pub in_part : x.part ≡ part
  pub is_reached : reached x.key
  pub stands : entry_at es part x.key ≡ Some x
  pub none_before : (key : OrderedKey) → reached key → key_cmp key x.key ≡ Less → find es part key ≡ None

-- the walks over a rising list
pub record WalkLaws (es : List Entry) : Type 0 where
  -- at or above the key
  pub from_some : (part : ℕ) (key : OrderedKey) (x : Entry) → next_from es part key ≡ Some x →
      IsFirstOf es part (λ q. key_le key q ≡ true) x
  pub from_none : (part : ℕ) (key : OrderedKey) → next_from es part key ≡ None → (q : OrderedKey) →
      key_le key q ≡ true → find es part q ≡ None
  -- strictly above the key
  pub after_some : (part : ℕ) (key : OrderedKey) (x : Entry) → after es part key ≡ Some x →
      IsFirstOf es part (λ q. key_cmp key q ≡ Less) x
  pub after_none : (part : ℕ) (key : OrderedKey) → after es part key ≡ None → (q : OrderedKey) → key_cmp key q ≡ Less →
      find es part q ≡ None
  -- at or above the place, in any partition
  pub any_stands : (part : ℕ) (key : OrderedKey) (x : Entry) → next_any es part key ≡ Some x →
      entry_at es x.part x.key ≡ Some x
  pub any_reached : (part : ℕ) (key : OrderedKey) (x : Entry) → next_any es part key ≡ Some x →
      place_cmp (part, key) (place_of x) ≢ Greater
  pub any_none_before : (part : ℕ) (key : OrderedKey) (x : Entry) → next_any es part key ≡ Some x →
      (p : ℕ) (q : OrderedKey) → place_cmp (part, key) (p, q) ≢ Greater → place_cmp (p, q) (place_of x) ≡ Less →
      find es p q ≡ None
  pub any_none : (part : ℕ) (key : OrderedKey) → next_any es part key ≡ None →
      (p : ℕ) (q : OrderedKey) → place_cmp (part, key) (p, q) ≢ Greater → find es p q ≡ None

-- what is read from a key on in a rising list
pub record ReadLaws (es : List Entry) : Type 0 where
  -- at or above the key it is what stands first, and what is above that
  pub from_none : (part : ℕ) (key : OrderedKey) → next_from es part key ≡ None → all_from es part key ≡ []
  pub from_some : (part : ℕ) (key : OrderedKey) (x : Entry) → next_from es part key ≡ Some x →
      all_from es part key ≡ x ∷ all_after es part x.key
  -- entry by entry it is what stands next
  pub none : (part : ℕ) (key : OrderedKey) → after es part key ≡ None → all_after es part key ≡ []
  pub some : (part : ℕ) (key : OrderedKey) (x : Entry) → after es part key ≡ Some x →
      all_after es part key ≡ x ∷ all_after es part x.key
  -- from any entry that was read it goes on with those after it
  pub goes_on : (part : ℕ) (key : OrderedKey) (xs : List Entry) (x : Entry) (ys : List Entry) →
      all_after es part key ≡ xs ++ x ∷ ys → all_after es part x.key ≡ ys
  -- the entries rise, and are those of the list at the places of the partition above the key
  pub rises : (part : ℕ) (key : OrderedKey) → IsRising (all_after es part key)
  pub stands : (part : ℕ) (key : OrderedKey) (p : ℕ) (q : OrderedKey) →
      find (all_after es part key) p q ≡ (if p == part && is_lt (key_cmp key q) then find es p q else None)
