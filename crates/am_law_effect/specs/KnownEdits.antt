-- What a step's edits of the list are, one by one.
use Rattle.std.specs.Prelude.{◌≡◌, ◌≢◌, ℕ, List, [], ◌∷◌, ◌++◌, false, take, drop, Some, None}
use Rattle.std.specs.FinMap.{get}
use Rattle.am_record.specs.OrderedKey.{OrderedKey}
use Rattle.am_record.specs.Interval.{Interval}
use Rattle.am_record.specs.declared.entry.Entry.{Entry}
use Rattle.am_index.specs.Entries.{remove_entry}
use Rattle.am_index.specs.Content.{content, IsLiveAt}
use Rattle.am_law_effect.specs.Places.{put}
use Rattle.am_law_effect.specs.MergeAnswers.{candidates, worked_off, all_worked_off}
use Rattle.am_law_effect.specs.Operations.{find_live}

pub record KnownLaws (es : List Entry) : Type 0 where
  -- the live entry of a key, and where there is none
  pub live : (part : ℕ) (key : OrderedKey) (value : List ℕ) → IsLiveAt es part key value →
      find_live es key ≡ Some (record { part = part; key = key; value = value; is_ghost = false })
  pub dead : (key : OrderedKey) → get (content es) key ≡ None → find_live es key ≡ None
  -- an entry is worked off: its place in partition 0 may be taken before it leaves its run
  pub place_first : (e : Entry) → e.is_ghost ≡ false → e.part ≢ 0 →
      worked_off e es ≡ remove_entry (put (record e { part = 0 }) es) e.part e.key
  -- one after another
  pub one_more : (some : List Entry) (e : Entry) → all_worked_off (some ++ e ∷ []) es ≡
      worked_off e (all_worked_off some es)
  -- after the first n candidates are worked off, the candidates are those that were left
  pub left : (range : Interval) (n : ℕ) → candidates (all_worked_off (take n (candidates es range)) es) range ≡
      drop n (candidates es range)
