-- The calls that an engine stores.
use Rattle.std.specs.Coded.{Coded, code_by, coded×, coded_ℕ}
use Rattle.std.specs.Prelude.{refl, ◌≡◌, ℕ, ◌+◌, ◌-◌, ◌<◌, List, [], ◌∷◌, ◌++◌, length, MatchBool}
use Rattle.std.specs.Prelude.{if◌then◌else◌, Option, Some, None}
use Rattle.am_record.specs.declared.step.Step.{Step}
use Rattle.am_record.specs.declared.step.Reply.{Reply}
use Rattle.am_latch_engine.specs.declared.change.Change.{Change}
use Rattle.am_latch_engine.specs.declared.change.Change.TheVariants.{Begins, Ends, Nothing}
use Rattle.am_latch_ties.specs.declared.call_id.CallId.{CallId}
use Rattle.am_latch_ties.specs.CallLogs.{CallLog, call_log_code, log_with}
use Rattle.am_latch_engine.specs.Changes.{change, is_stored}
use Rattle.am_latch_engine.specs.declared.change.Stored.{Stored}

-- what contracts see of an engine: how many runs its store makes at most, the stored calls, the beginning of them that
-- was handed out, and for how many pairs more there is room, beside the ends that room is kept for
pub record EngineState : Type 0 where
  pub most_runs : ℕ
  pub trace : List (Step × Reply)
  pub calls : List CallId
  pub handed : CallLog
  pub room : ℕ

abbrev pub log_of : EngineState → CallLog
log_of e = record { trace = e.trace; calls = e.calls }

-- it is stored as its fields
abbrev pub engine_code : Coded EngineState
engine_code =
    code_by ((CallLog × CallLog) × (ℕ × ℕ))
    (coded× (coded× call_log_code call_log_code) (coded× coded_ℕ coded_ℕ))
    (λ e. ((log_of e, e.handed), (e.most_runs, e.room)))
    (λ f. record {
      most_runs = f.1.0;
      trace = f.0.0.trace;
      calls = f.0.0.calls;
      handed = f.0.1;
      room = f.1.1;
    }) (λ _. refl)

-- the pair is stored with its call, or the answer is not one of the store's and nothing changed
abbrev pub StoresCall : CallLog → CallId → Step → Reply → CallLog → Type 0
StoresCall e m s r e' = MatchBool (is_stored r) (e' ≡ log_with e m s r) (e' ≡ e)

-- what is told of a stored step that stands at the position in the trace; nothing of one that isn't stored
abbrev pub stored_at : ℕ → Step → Reply → Option Stored
stored_at position st r = if is_stored r then Some (record { change = change st r; position = position }) else None

-- more was handed out, and the log is what it was, of a store with as many runs at most
pub record HandsOn (e : EngineState) (piece : CallLog) (e' : EngineState) : Type 0 where
  pub most : e'.most_runs ≡ e.most_runs
  pub log : log_of e' ≡ log_of e
  pub handed_trace : e'.handed.trace ≡ e.handed.trace ++ piece.trace
  pub handed_calls : e'.handed.calls ≡ e.handed.calls ++ piece.calls

-- the piece stands in the log after what was handed out before, which are so many
pub record IsNextOf (e : EngineState) (from : ℕ) (piece : CallLog) : Type 0 where
  pub first : from ≡ length e.handed.trace
  pub trace : (later : List (Step × Reply)) × (e.trace ≡ (e.handed.trace ++ piece.trace) ++ later)
  pub calls : (later : List CallId) × (e.calls ≡ (e.handed.calls ++ piece.calls) ++ later)

-- each pair was made by a seat below n
abbrev pub AreMadeBelow : ℕ → List CallId → Type 0
AreMadeBelow n [] = Unit {0}
AreMadeBelow n (m ∷ ms) = (m.seat < n) × AreMadeBelow n ms

-- how many ends room is kept for, after a pair
abbrev pub ends_after : ℕ → Change → ℕ
ends_after n (Begins t) = n + 1
ends_after n (Ends t) = n - 1
ends_after n Nothing = n
