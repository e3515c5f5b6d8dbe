-- A trace is one that the store may make where it is sound and its merges and cleans are right.
use Rattle.std.proofs.Common.{ℕ, [], ◌∷◌, ◌++◌, ap, ◌∙◌, sym, subst}
use Rattle.std.specs.Prelude.{◌↔◌}
use Rattle.am_law_effect.specs.Store.{IsRunOf, MayReply, Store, after_step, after_all, opened}
use Rattle.am_index.specs.Content.{HasContent}
use Rattle.am_record.specs.declared.step.Reply.{Reply}
use Rattle.am_record.specs.declared.step.Step.{Step}
use Rattle.am_record.specs.declared.step.Step.TheVariants.{Clean, Merge}
use Rattle.am_law_serial.proofs.Sound.{sound_is_run}
use Rattle.am_law_serial.specs.Machine.{May, Runs, overlay_in}
use Rattle.am_law_serial.specs.Sound.{IsSound}
use Rattle.am_law_serial.specs.Trace.{Trace, effects, overlay}
use Rattle.am_law_sound.proofs.Whole.{right_at}
use Rattle.am_law_sound.proofs.Counts.{asked}
use Rattle.am_law_serial.proofs.States.{is_state_of}
use Rattle.am_law_sound.specs.Right.{IsMaintained, IsSoundStore, MaintainedAt}

front : (most_runs : ℕ) (s : Store) (before rest : Trace) → IsRunOf most_runs s (before ++ rest) →
    IsRunOf most_runs s before
front most_runs s [] rest f = tt
front most_runs s (e ∷ before) rest f = (f.0, front most_runs (after_step s e.0 e.1) before rest f.1)

maintained_from : (most_runs : ℕ) (s : Store) (step : Step) (reply : Reply) → MayReply most_runs s step reply →
    MaintainedAt s step reply
maintained_from most_runs s (Merge limit) reply h = h
maintained_from most_runs s (Clean range limit) reply h = h
maintained_from most_runs s step reply h = tt

all_maintained : (most_runs : ℕ) (s : Store) (trace : Trace) → IsRunOf most_runs s trace → IsMaintained s trace
all_maintained most_runs s [] f = tt
all_maintained most_runs s (e ∷ trace) f = (
  maintained_from most_runs s e.0 e.1 f.0,
  all_maintained most_runs (after_step s e.0 e.1) trace f.1,
)

placed_at : (most_runs : ℕ) (trace : Trace) → IsRunOf most_runs opened trace →
    HasContent (after_all opened trace).entries (overlay (effects trace))
placed_at most_runs trace f =
    let r = right_at most_runs trace f in
    record {
      rising = r.at.has.rising;
      one_place = r.at.has.one_place;
      same = r.at.has.same ∙ ap overlay_in r.is ∙ (is_state_of most_runs trace r.runs).overlay_map;
    }

pub sound_store : (most_runs : ℕ) (trace : Trace) → IsRunOf most_runs opened trace → IsSoundStore most_runs trace
sound_store most_runs trace f =
    let r = right_at most_runs trace f in
    record {
      sound = (sound_is_run most_runs trace).1 r.runs;
      placed = λ before rest is. placed_at most_runs before (front most_runs opened before rest
          (subst (λ (t : Trace). IsRunOf most_runs opened t) (sym is) f));
      asked = asked most_runs trace f;
      maintained = all_maintained most_runs opened trace f;
      right = record {
        has = placed_at most_runs trace f;
        described = λ t on. r.keeps.describes t on;
      };
      ready = record { at = r.at; below = r.keeps.below; runs_noted = r.keeps.runs_noted };
    }

reply_from : (most_runs : ℕ) (s : Store) (step : Step) (reply : Reply) → May most_runs s.state step reply →
    MaintainedAt s step reply → MayReply most_runs s step reply
reply_from most_runs s (Merge limit) reply m h = h
reply_from most_runs s (Clean range limit) reply m h = h
reply_from most_runs s step reply m h = m

follows_from : (most_runs : ℕ) (s : Store) (trace : Trace) → Runs most_runs s.state trace → IsMaintained s trace →
    IsRunOf most_runs s trace
follows_from most_runs s [] r m = tt
follows_from most_runs s (e ∷ trace) r m = (
  reply_from most_runs s e.0 e.1 r.0 m.0,
  follows_from most_runs (after_step s e.0 e.1) trace r.1 m.1,
)

pub sound_follows : (most_runs : ℕ) (trace : Trace) →
    (IsSound most_runs trace × IsMaintained opened trace) ↔ IsRunOf most_runs opened trace
sound_follows most_runs trace = (
  λ h. follows_from most_runs opened trace ((sound_is_run most_runs trace).0 h.0) h.1,
  λ f. ((sound_store most_runs trace f).sound, all_maintained most_runs opened trace f),
)

-- at each moment
pub sound_moments : (most_runs : ℕ) (before rest : Trace) → IsRunOf most_runs opened (before ++ rest) →
    IsSoundStore most_runs before
sound_moments most_runs before rest f = sound_store most_runs before (front most_runs opened before rest f)
