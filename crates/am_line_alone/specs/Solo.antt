-- A session on a store of its own.
use Rattle.std.specs.Prelude.{◌≡◌, ℕ, List, [], ◌∷◌, true, Option, Some, None, All, refl}
use Rattle.std.specs.Coded.{Coded, code_by, coded×, coded_ℕ, coded_option}
use Rattle.am_record.specs.Sessions.{active_after}
use Rattle.am_record.specs.declared.step.Step.{Step}
use Rattle.am_record.specs.declared.step.Reply.{Reply}
use Rattle.am_record.specs.declared.step.Reply.TheVariants.{Refused}
use Rattle.am_record.specs.declared.step.Refusal.TheVariants.{NoMemory}
use Rattle.am_record.specs.Limits.{max_runs}
use Rattle.am_law_serial.specs.Trace.{Trace}
use Rattle.am_law_serial.specs.Legal.{IsLegal}
use Rattle.am_law_sound.specs.Right.{IsSoundStore}
use Rattle.am_law_sound.specs.StoreState.{StoreState, empty_state, is_in, MayAnswer, state_after}
use Rattle.am_store.specs.StoreContent.{state_code}
use Rattle.am_store.specs.Memory.{may_want_memory}
use Rattle.am_store.specs.StoreSteps.{Extends}
use Rattle.am_line_dialogue.specs.Exchanges.{Exchange, with_torn}
use Rattle.am_line_dialogue.specs.Backends.{BackendMeaning}
use Rattle.am_line_dialogue.specs.Alone.{AnswersAlone, AloneHolds, AloneTells, alone_end}
use Rattle.am_line_dialogue.specs.Responses.{response_text}
use Rattle.am_line_dialogue.specs.Say.{Says}
use Rattle.am_line_wire.specs.Replies.{IsOneLine}

-- what the store keeps, and the transaction that is active in the session
pub record Solo : Type 0 where
  pub kept : StoreState
  pub active : Option ℕ

abbrev pub solo_code : Coded Solo
solo_code = code_by (StoreState × Option ℕ) (coded× state_code (coded_option coded_ℕ)) (λ s. (s.kept, s.active))
    (λ p. record { kept = p.0; active = p.1 }) (λ _. refl)

-- the session's transaction is active in the store
abbrev pub IsOpen : StoreState → Option ℕ → Type 0
IsOpen p None = Unit {0}
IsOpen p (Some t) = is_in p.active t ≡ true

-- memory was refused only where the step may want it of a store that keeps this
abbrev pub RefusesForNeed : StoreState → Step → Reply → Type 0
RefusesForNeed p step reply = reply ≡ Refused NoMemory → may_want_memory p step ≡ true

-- and so at each step of the trace, from a store that keeps this on
abbrev pub EachRefusesForNeed : StoreState → Trace → Type 0
EachRefusesForNeed p [] = Unit {0}
EachRefusesForNeed p (e ∷ trace) = RefusesForNeed p e.0 e.1 × EachRefusesForNeed (state_after p e.0 e.1) trace

-- the store took the step: wherever it stood, it stands there with this event added
pub record SoloSteps (old : Solo) (step : Step) (reply : Reply) (new : Solo) : Type 0 where
  pub says : MayAnswer old.kept step reply
  pub memory : RefusesForNeed old.kept step reply
  pub kept : new.kept ≡ state_after old.kept step reply
  pub on : Extends old.kept ((step, reply) ∷ []) new.kept
  pub active : new.active ≡ active_after old.active reply

-- SEEN tells 0, a session alone, and the commits so far
abbrev pub SoloShows : Solo → ℕ → ℕ → Solo → Type 0
SoloShows old session commits new = (session ≡ 0) × (commits ≡ old.kept.commits) × (new ≡ old)

abbrev pub solo_meaning : BackendMeaning Solo
solo_meaning = record {
  active = λ s. s.active;
  steps = SoloSteps;
  shows = SoloShows;
  holds = λ s millis answer. AloneHolds answer;
  tells = λ s which told. AloneTells s.active which told;
  ends = λ s session answer. answer ≡ alone_end session;
  lapses = ⊥;
}

-- The exchanges and events of a session alone, with the one whose answer was torn, if one was: the events are a sound
-- trace, with every merge and clean right, and a legal one; each response is one line, and all of them are those that
-- are said, but where memory was refused. The store refused memory only to steps that may want it.
pub record IsSpoken (auto : ℕ) (exchanges : List Exchange) (torn : Option Exchange) (trace : Trace) : Type 0 where
  pub answers : AnswersAlone auto exchanges torn trace
  pub sound : IsSoundStore max_runs trace
  pub legal : IsLegal max_runs trace
  pub says : Says (with_torn exchanges torn)
  pub memory : EachRefusesForNeed (empty_state max_runs) trace
  pub lines : All (λ (e : Exchange). IsOneLine (response_text e.1)) (with_torn exchanges torn)
