-- What a token knows of the events that were handed out.
use Rattle.std.specs.Prelude.{◌≡◌, ℕ, List, [], ◌++◌}
use Rattle.atomic_table.specs.Table.{State, Me, Step}
use Rattle.am_record.specs.declared.step.Step as step
use Rattle.am_record.specs.declared.step.Reply.{Reply}
use Rattle.am_latch_ties.specs.declared.call_id.CallId.{CallId}
use Rattle.am_latch_engine.specs.declared.hand_outs.HandedView.{HandedView}
use Rattle.am_latch_ties.specs.CallLogs.{CallLog}

abbrev pub no_view : HandedView
no_view = record { trace = []; calls = [] }

-- nothing is asked of the views
abbrev pub AreAny : State ℕ HandedView → Type 0
AreAny _ = Unit {0}

abbrev pub view_with : List (step.Step × Reply) → List CallId → HandedView → HandedView
view_with ps ms v = record { trace = v.trace ++ ps; calls = v.calls ++ ms }

abbrev pub HandsOut : List (step.Step × Reply) → List CallId → Step ℕ → Me ℕ HandedView → ℕ → Me ℕ HandedView → Type 0
HandsOut ps ms _ me _ me' = me' ≡ (view_with ps ms me.0, me.1)

abbrev pub handed_log : HandedView → CallLog
handed_log v = record { trace = v.trace; calls = v.calls }
