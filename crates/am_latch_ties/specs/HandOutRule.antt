-- The rule over what is known of the events that were handed out: by the engine's token, and by the taker's.
use Rattle.std.specs.Prelude.{◌≡◌, ℕ, [], ◌++◌}
use mathlib.Core.Option.{some}
use lib.ListN.{get_elem?}
use Rattle.atomic_table.specs.Table.{State, Me, Step}
use Rattle.am_law_serial.specs.Trace.{Trace}
use Rattle.am_latch_ties.specs.declared.taker_tie.TakenView.{TakenView}
use Rattle.am_latch_ties.specs.declared.taker_tie.TakenView.TheVariants.{Nothing, Handed, Taken, Whole}

abbrev pub handed_in : TakenView → Trace
handed_in (Handed es) = es
handed_in (Whole es fs) = es
handed_in _ = []

abbrev pub taken_in : TakenView → Trace
taken_in (Taken fs) = fs
taken_in (Whole es fs) = fs
taken_in _ = []

abbrev pub IsHandedView : TakenView → Type 0
IsHandedView v = v ≡ Handed (handed_in v)

abbrev pub IsTakerView : TakenView → Type 0
IsTakerView v = v ≡ Taken (taken_in v)

abbrev pub IsWholeView : TakenView → Type 0
IsWholeView v = v ≡ Whole (handed_in v) (taken_in v)

-- what holds of each view: one at most knows what was handed out, one what was taken, and both know these events
abbrev pub IsTakenIn : ℕ → ℕ → Trace → ℕ → TakenView → Type 0
IsTakenIn handing taking events by Nothing = Unit {0}
IsTakenIn handing taking events by (Handed es) = (by ≡ handing) × (es ≡ events)
IsTakenIn handing taking events by (Taken fs) = (by ≡ taking) × (fs ≡ events)
IsTakenIn handing taking events by (Whole es fs) = (by ≡ handing) × (es ≡ events) × (by ≡ taking) × (fs ≡ events)

pub record TakersAgree (s : State ℕ TakenView) : Type 0 where
  pub handing : ℕ
  pub taking : ℕ
  pub events : Trace
  pub each : (by : ℕ) (v : TakenView) → get_elem? s.views by ≡ some v → IsTakenIn handing taking events by v

abbrev pub both_views : TakenView → TakenView → TakenView
both_views (Taken fs) (Handed es) = Whole es fs
both_views _ _ = Nothing

abbrev pub taker_part : TakenView → TakenView
taker_part (Whole es fs) = Taken fs
taker_part _ = Nothing

abbrev pub handed_part : TakenView → TakenView
handed_part (Whole es fs) = Handed es
handed_part _ = Nothing

abbrev pub taken_with : Trace → TakenView → TakenView
taken_with new (Whole es fs) = Whole (es ++ new) (fs ++ new)
taken_with new v = v

-- these are handed out and taken, and before that both were the same
abbrev pub HandsOver : Trace → Step ℕ → Me ℕ TakenView → ℕ → Me ℕ TakenView → Type 0
HandsOver new _ me _ me' = (me' ≡ (taken_with new me.0, me.1)) × (taken_in me.0 ≡ handed_in me.0)
