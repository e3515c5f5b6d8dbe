-- What a worker does in a turn, and in its turns one after another.
use Rattle.std.specs.Prelude.{◌≡◌, ◌<◌, ◌≤◌, ℕ, zero, suc, length, Bool, true, false, Option, Some, None}
use Rattle.am_record.specs.OrderedKey.{key_least}
use Rattle.am_record.specs.declared.step.Step.TheVariants.{Merge}
use Rattle.am_record.specs.declared.step.Reply.{Reply}
use Rattle.am_record.specs.declared.step.Reply.TheVariants.{Idle, Refused}
use Rattle.am_latch.specs.Receipts.{SeatState, HasReceiptOf}
use Rattle.am_serve_workers.specs.CleanTurns.{HasCleaned, SawRuns}
use Rattle.am_serve_workers.specs.ReadTurns.{HasRead}
use Rattle.am_serve_workers.specs.declared.turns.Places.{Places}
use Rattle.am_serve_workers.specs.declared.turns.AfterMerge.{AfterMerge}
use Rattle.am_serve_workers.specs.declared.turns.AfterMerge.TheVariants.{GoOn, Look, CleanAndRead}
use Rattle.am_serve_connections.specs.declared.turns.Outlook.{Outlook}
use Rattle.am_serve_connections.specs.declared.turns.Outlook.TheVariants.{Nothing, Asked, More}
use Rattle.am_serve_connections.specs.declared.turns.Upkeep.{Upkeep}
use Rattle.am_serve_connections.specs.declared.turns.Upkeep.TheVariants.{MergeOnly, MergeAndClean}

-- the receipts of former turns are let go, unless 10^14 were
pub record HasLetGo (s t : SeatState) : Type 0 where
  pub number : t.number ≡ s.number
  pub receipts : t.receipts ≡ s.receipts
  pub gone : s.let_go ≤ 100000000000000 → t.let_go ≡ length s.receipts
  pub kept : 100000000000000 < s.let_go → t ≡ s

-- what a worker does after this answer to its merge: where it is Idle, it cleans and reads, or looks
abbrev pub after_merge : Upkeep → Reply → AfterMerge
after_merge (MergeAndClean runs) Idle = CleanAndRead runs
after_merge MergeOnly Idle = Look
after_merge _ _ = GoOn

-- what is left where a merge isn't answered Idle: for a worker that reads more, unless the merge was refused
abbrev pub left_behind : Upkeep → Reply → Outlook
left_behind (MergeAndClean (suc runs)) (Refused why) = Asked
left_behind (MergeAndClean (suc runs)) merged = More
left_behind _ _ = Asked

-- what is left by whether there is work
abbrev pub left_where : Bool → Outlook
left_where true = Asked
left_where false = Nothing

-- what is left after a read, or by whether there is work, where nothing was to read
abbrev pub left_after : Option Outlook → Bool → Outlook
left_after (Some outlook) works = outlook
left_after None works = left_where works

-- what was answered last, where a merge was answered so and then a clean, if a step was taken
abbrev pub last_reply : Option Reply → Reply → Reply
last_reply (Some cleaned) merged = cleaned
last_reply None merged = merged

-- nothing is done after the merge
pub record OnlyMerged (upkeep : Upkeep) (from : Places) (s : SeatState) (merged : Reply) (outlook : Outlook)
    (reply : Reply) (to : Places) (t : SeatState) : Type 0 where
  pub more : outlook ≡ left_behind upkeep merged
  pub answer : reply ≡ merged
  pub there : to ≡ from
  pub same : t ≡ s

-- after the merge the worker sees whether runs have entries, and there is more work just then
pub record ThenLooked (seats : ℕ) (from : Places) (s : SeatState) (merged : Reply) (outlook : Outlook)
    (reply : Reply) (to : Places) (t : SeatState) : Type 0 where
  pub works : Bool
  pub saw : SawRuns seats s works
  pub more : outlook ≡ left_where works
  pub answer : reply ≡ merged
  pub there : to ≡ from
  pub same : t ≡ s

-- after the merge the worker cleans once, from its place on, and then reads once
pub record ThenCleaned (seats runs : ℕ) (from : Places) (s : SeatState) (merged : Reply) (outlook : Outlook)
    (reply : Reply) (to : Places) (t : SeatState) : Type 0 where
  pub works : Bool
  pub cleaned : Option Reply
  pub middle : SeatState
  pub cleans : HasCleaned seats from.clean s works cleaned to.clean middle
  pub read : Option Outlook
  pub reads : HasRead seats runs from.read middle read to.read t
  pub more : outlook ≡ left_after read works
  pub answer : reply ≡ last_reply cleaned merged

-- what is done after the merge
abbrev pub GoesOn : AfterMerge → Upkeep → ℕ → Places → SeatState → Reply → Outlook → Reply → Places → SeatState →
    Type 0
GoesOn GoOn upkeep seats from s merged outlook reply to t = OnlyMerged upkeep from s merged outlook reply to t
GoesOn Look upkeep seats from s merged outlook reply to t = ThenLooked seats from s merged outlook reply to t
GoesOn (CleanAndRead runs) upkeep seats from s merged outlook reply to t =
    ThenCleaned seats runs from s merged outlook reply to t

-- One turn, from where it cleans and reads: former receipts are let go, Merge(limit) is called, and where nothing is
-- left to merge a worker that cleans does so once and may read, and another one looks whether there is work.
pub record TakesTurn (upkeep : Upkeep) (limit seats : ℕ) (from : Places) (s : SeatState) (outlook : Outlook)
    (reply : Reply) (to : Places) (t : SeatState) : Type 0 where
  pub free : SeatState
  pub merged : Reply
  pub behind : SeatState
  pub freed : HasLetGo s free
  pub merges : HasReceiptOf free (Merge limit) merged behind
  pub goes_on : GoesOn (after_merge upkeep merged) upkeep seats from behind merged outlook reply to t

-- so many turns, the first from the front of all partitions and keys on, and each from where the one before it left off
abbrev pub TakesTurns : Upkeep → ℕ → ℕ → ℕ → SeatState → Places → SeatState → Type 0
TakesTurns upkeep limit seats zero s to t =
    (to ≡ record { clean = record { part = 0; key = key_least }; read = record { key = key_least; moved = 0 } }) ×
    (t ≡ s)
TakesTurns upkeep limit seats (suc n) s to t = (from : Places) × (u : SeatState) × (outlook : Outlook) ×
    (reply : Reply) × TakesTurns upkeep limit seats n s from u ×
    TakesTurn upkeep limit seats from u outlook reply to t
