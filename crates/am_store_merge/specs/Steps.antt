-- How far a merge or a clean step has come.
use Rattle.std.specs.Prelude.{◌≡◌, ◌⊎◌, ◌≤◌, ℕ, List, [], ◌∷◌, Bool, true, not, ◌&&◌, drop, is_none}
use Rattle.std.specs.List.{AllByRecursion}
use Rattle.am_record.specs.Interval.{Interval, key_le, within}
use Rattle.am_record.specs.EntryOrder.{Place}
use Rattle.am_record.specs.declared.entry.Entry.{Entry}
use Rattle.am_law_effect.specs.MergeAnswers.{Holders, most, FirstMoveNeedsRoom}
use Rattle.am_store_merge.specs.Walks.{is_from}

-- n of the candidates cs are worked off: as many as may be, or fewer where the next one needs room
pub record IsAsFar (es : List Entry) (held : Holders) (limit run : ℕ) (cs : List Entry) (n : ℕ) : Type 0 where
  pub at_most : n ≤ most held limit run cs
  pub greatest : (n ≡ most held limit run cs) ⊎ FirstMoveNeedsRoom es (drop n cs)

-- a key of the range that nobody has exclusively locked
abbrev pub is_free_in : Holders → Interval → Entry → Bool
is_free_in held range e = within range e.key && is_none (held e.key)

-- the entries go on outside the range, if at all
abbrev pub go_on_outside : Interval → List Entry → Bool
go_on_outside range [] = true
go_on_outside range (e ∷ es) = not (within range e.key)

-- a ghost in the range that nobody has exclusively locked
abbrev pub is_cleanable : Holders → Interval → Entry → Bool
is_cleanable held range e = e.is_ghost && (within range e.key && is_none (held e.key))

-- a walk over the range has come to the place, and has passed over none that is to be cleaned
pub record HasPassedNone (es : List Entry) (held : Holders) (range : Interval) (from : Place) : Type 0 where
  pub in_range : key_le range.lo from.1 ≡ true
  pub ahead : AllByRecursion (λ e. is_cleanable held range e ≡ true → is_from from e ≡ true) es
