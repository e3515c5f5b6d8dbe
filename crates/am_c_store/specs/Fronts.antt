-- The next piece of a range to merge, as C is told it.
use Rattle.std.specs.Prelude.{◌≡◌, ℕ, Option, None, Some, Result, Ok, Err}
use Rattle.am_record.specs.Interval.{Interval}
use Rattle.am_law_sound.specs.StoreState.{StoreState}
use Rattle.am_store_merge.specs.Fronts.{IsNextInRuns}
use Rattle.am_c_steps.specs.declared.status.Status.{Status}
use Rattle.am_c_steps.specs.declared.status.Status.TheVariants.{Fine, Idle, NoStore}
use Rattle.am_c_steps.specs.declared.text.KeyText.{KeyText}
use Rattle.am_c_steps.specs.Statuses.{status_code}
use Rattle.am_c_steps.specs.Texts.{key_text}

abbrev pub front_status : Option Interval → ℕ
front_status None = status_code Idle
front_status (Some front) = status_code Fine

-- the end of the front, or what stood there before
abbrev pub front_end : Option Interval → KeyText → KeyText
front_end None old = old
front_end (Some front) old = key_text front.hi

-- the front is told, or that there is none
pub record IsFrontTold (p : StoreState) (range : Interval) (old : KeyText) (told : ℕ) (new : KeyText) : Type 0 where
  pub front : Option Interval
  pub is_next : IsNextInRuns p.entries range front
  pub status : told ≡ front_status front
  pub end : new ≡ front_end front old

-- the same where there is a store and the range is one; else what is wrong, and the end stays as it was
abbrev pub TellsFront : Option StoreState → Result Interval Status → KeyText → ℕ → KeyText → Type 0
TellsFront None asked old told new = (told ≡ status_code NoStore) × (new ≡ old)
TellsFront (Some p) (Err why) old told new = (told ≡ status_code why) × (new ≡ old)
TellsFront (Some p) (Ok range) old told new = IsFrontTold p range old told new
