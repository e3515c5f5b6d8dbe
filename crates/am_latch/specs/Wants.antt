-- When a call at a seat may be refused for want of memory.
use Rattle.std.specs.Prelude.{◌≡◌, ◌⊎◌, ◌<◌, ℕ, ◌+◌, true}
use Rattle.am_record.specs.declared.step.Step.{Step}
use Rattle.am_law_sound.specs.Right.{IsSoundStore}
use Rattle.am_latch_engine.specs.Traces.{EngineState}
use Rattle.am_latch_engine.specs.Wants.{MayWantMemory, takes_lists}
use Rattle.am_latch.specs.Receipts.{SeatState, receipts_held}
use Rattle.am_latch.specs.Ties.{open_of, receipts_kept, receipts_needed, receipt_room, IsEngineOf, HasReceiptsIn}

-- more room is wanted for receipts than the seat has for those that it holds and for the end of an open transaction
abbrev pub WantsReceiptRoom : SeatState → Step → Type 0
WantsReceiptRoom s step =
    receipt_room (receipts_held s + receipts_kept (open_of s.receipts))
    < receipt_room (receipts_held s + receipts_needed (open_of s.receipts) step)

-- an engine of a latch with so many seats and so many runs at most, in which the seat has just the receipts of its
-- calls, may want memory for the step: its store, or its trace for the pair
pub record EngineMayWant (seats most_runs : ℕ) (s : SeatState) (step : Step) : Type 0 where
  pub engine : EngineState
  pub of : IsEngineOf seats engine
  pub own : HasReceiptsIn engine s
  pub sound : IsSoundStore most_runs engine.trace
  pub wants : MayWantMemory engine step

-- a call may be refused memory for the lists of its step or of its reply, for its receipt, or by the engine
abbrev pub CallMayWant : ℕ → ℕ → SeatState → Step → Type 0
CallMayWant seats most_runs s step = (takes_lists step ≡ true) ⊎
    (WantsReceiptRoom s step ⊎ EngineMayWant seats most_runs s step)
