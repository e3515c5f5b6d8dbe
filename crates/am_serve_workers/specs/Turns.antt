-- What turns leave of a seat, and how many entries were moved.
use Rattle.std.specs.Prelude.{◌≡◌, ℕ, ◌+◌, ◌≤◌, List, [], ◌∷◌, ◌++◌, length, flat_map, sum_by, Bool}
use Rattle.std.specs.List.{AllByRecursion}
use Rattle.am_record.specs.Interval.{Interval}
use Rattle.am_record.specs.declared.step.Op.TheVariants.{Scan}
use Rattle.am_record.specs.declared.step.Reply.{Reply}
use Rattle.am_record.specs.declared.step.Reply.TheVariants.{Idle}
use Rattle.am_record.specs.declared.step.Step.TheVariants.{Begin, Do, Abort, Merge, Clean}
use Rattle.am_latch_ties.specs.declared.receipt.Receipt.{Receipt}
use Rattle.am_latch.specs.Receipts.{SeatState, moved_in}
use Rattle.am_latch.specs.Ties.{open_of}
use Rattle.am_serve_connections.specs.declared.turns.Upkeep.{Upkeep}
use Rattle.am_serve_connections.specs.declared.turns.Upkeep.TheVariants.{MergeAndClean}
use Rattle.am_serve_workers.specs.ReadTurns.{end_after}

-- the receipts of a clean step of at most 64, or none
abbrev pub MayHaveCleaned : List Receipt → Type 0
MayHaveCleaned [] = Unit {0}
MayHaveCleaned (c ∷ []) = (range : Interval) × (c.step ≡ Clean range 64)
MayHaveCleaned _ = ⊥

-- The receipts of a transaction that reads one record of a range. They stand in the trace one right after another: a
-- Begin that is refused alone; else a scan, unless it was refused memory, and the end.
abbrev pub IsReadBy : ℕ → List Receipt → Type 0
IsReadBy position (s ∷ e ∷ []) = (tx : ℕ) × (range : Interval) × (reads : Bool) × (s.step ≡ Do tx (Scan range 1)) ×
    (s.position ≡ position + 1) × (e.step ≡ end_after tx reads) × (e.position ≡ position + 2)
IsReadBy position (e ∷ []) = (tx : ℕ) × (e.step ≡ Abort tx) × (e.position ≡ position + 1)
IsReadBy position [] = Unit {0}
IsReadBy position _ = ⊥

abbrev pub MayHaveRead : List Receipt → Type 0
MayHaveRead [] = Unit {0}
MayHaveRead (b ∷ more) = (b.step ≡ Begin) × IsReadBy b.position more

-- What comes after the merge of a turn, where it was answered so: where nothing was left to merge, by a worker that
-- cleans, a clean step may come, and a read, unless it never reads.
abbrev pub ComesAfter : Upkeep → Reply → List Receipt → Type 0
ComesAfter (MergeAndClean runs) Idle more = (cleaned read : List Receipt) × (more ≡ cleaned ++ read) ×
    MayHaveCleaned cleaned × MayHaveRead read × (runs ≡ 0 → read ≡ [])
ComesAfter upkeep reply more = more ≡ []

-- the receipts of one turn: that of Merge(limit), and what comes after it
abbrev pub IsTurn : Upkeep → ℕ → List Receipt → Type 0
IsTurn upkeep limit [] = ⊥
IsTurn upkeep limit (m ∷ more) = (m.step ≡ Merge limit) × ComesAfter upkeep m.reply more

-- the receipts of at most n turns, one after another. A turn that was refused memory has none
pub record AreOfTurns (upkeep : Upkeep) (limit n : ℕ) (receipts : List Receipt) : Type 0 where
  pub turns : List (List Receipt)
  pub each : AllByRecursion (IsTurn upkeep limit) turns
  pub few : length turns ≤ n
  pub joined : receipts ≡ flat_map (λ turn. turn) turns

-- The seat has the receipts of at most n turns more. What is open in it stays open.
pub record HasTakenTurns (upkeep : Upkeep) (limit n : ℕ) (s t : SeatState) : Type 0 where
  pub number : t.number ≡ s.number
  pub more : List Receipt
  pub longer : t.receipts ≡ s.receipts ++ more
  pub turns : AreOfTurns upkeep limit n more
  pub open_tx : open_of t.receipts ≡ open_of s.receipts

-- how many entries the receipts of all seats say were moved
abbrev pub all_moved : List SeatState → ℕ
all_moved seats = sum_by (λ s. moved_in s.receipts) seats
