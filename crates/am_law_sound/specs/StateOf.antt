-- When a store is where a trace leaves it.
use Rattle.std.specs.Prelude.{◌≡◌, ℕ, length, List, [], ◌∷◌, map}
use Rattle.am_record.specs.Asks.{locks_of}
use Rattle.am_record.specs.declared.step.Step.{Step}
use Rattle.am_record.specs.declared.step.Reply.{Reply}
use Rattle.am_store_undo.specs.declared.note.Note.{Note}
use Rattle.am_law_serial.specs.Trace.{Trace, ops_of}
use Rattle.am_law_serial.specs.Machine.{Transaction}
use Rattle.am_law_effect.specs.Store.{Store, opened, IsRunOf, after_all}
use Rattle.am_law_sound.specs.StoreState.{Active, StoreState}

abbrev pub active_of : (ℕ → List Note) → (ℕ → List ℕ) → Transaction → Active
active_of notes marks x = record {
  number = x.0;
  ops = length x.1;
  locks = locks_of (ops_of x.1);
  notes = notes x.0;
  marks = marks x.0;
}

-- what a store keeps that makes so many runs at most, by the store that the trace describes
abbrev pub state_of : ℕ → Store → StoreState
state_of most_runs s = record {
  most_runs = most_runs;
  entries = s.entries;
  wishes = s.wishes;
  begun = s.state.begun;
  commits = s.state.commits;
  runs = s.state.runs;
  active = map (active_of s.notes s.marks) s.state.active;
}

-- the trace is one that the store may make, and the store is where it leaves it
pub record IsStateOf (trace : Trace) (parts : StoreState) : Type 0 where
  pub follows : IsRunOf parts.most_runs opened trace
  pub here : parts ≡ state_of parts.most_runs (after_all opened trace)

-- the steps with their replies
abbrev pub events : List Step → List Reply → Trace
events (step ∷ steps) (reply ∷ replies) = (step, reply) ∷ events steps replies
events _ _ = []
