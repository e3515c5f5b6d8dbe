-- What holds of every trace that the store of traces may make.
use Rattle.std.specs.Prelude.{◌≡◌, ◌≢◌, ℕ, ◌<◌, ◌≤◌, length, [], ◌∷◌, ◌++◌, true, None}
use Rattle.am_record.specs.OrderedKey.{OrderedKey}
use Rattle.am_record.specs.declared.step.Step.{Step}
use Rattle.am_record.specs.declared.step.Step.TheVariants.{Merge, Clean}
use Rattle.am_record.specs.declared.step.Reply.{Reply}
use Rattle.am_index.specs.Entries.{find}
use Rattle.am_index.specs.Content.{HasContent}
use Rattle.am_store_undo.specs.Undo.{is_noted_run}
use Rattle.am_law_serial.specs.Trace.{Trace, effects, overlay}
use Rattle.am_law_serial.specs.Machine.{is_open}
use Rattle.am_law_serial.specs.Sound.{IsSound}
use Rattle.am_law_effect.specs.Laws.{DescribesEach}
use Rattle.am_law_effect.specs.MergeAnswers.{MergeRight, CleanRight}
use Rattle.am_law_effect.specs.Store.{Store, opened, after_step, holder, WithinLimit, after_all, IsAsked}
use Rattle.am_law_sound.specs.Represents.{Represents}

-- the store is right: its entries rise, each key is live in one place at most, the content is the overlay, and the
-- notes of each active transaction say what looking back leaves, to the begin and to each of its marks
pub record IsRight (trace : Trace) (s : Store) : Type 0 where
  pub has : HasContent s.entries (overlay (effects trace))
  pub described : (t : ℕ) → is_open s.state.active t ≡ true →
      DescribesEach t s.past s.entries (s.notes t) 0 (length (s.notes t)) (s.marks t)

-- what a step may rest on: the entries are where the machine is, nothing stands above the last run, and the notes name
-- runs alone
pub record IsReadyForStep (s : Store) : Type 0 where
  pub at : Represents s.state s.entries s.notes s.marks
  pub below : (p : ℕ) (q : OrderedKey) → s.state.runs < p → find s.entries p q ≡ None
  pub runs_noted : (t p : ℕ) → is_noted_run (s.notes t) p ≡ true → (p ≢ 0) × (p ≤ s.state.runs)

-- each merge and clean step of the trace is right: within its limit it meets what a merge or clean step may answer,
-- else BadLimit
abbrev pub MaintainedAt : Store → Step → Reply → Type 0
MaintainedAt s (Merge limit) reply = WithinLimit limit reply
    (MergeRight s.entries s.wishes (holder s.state.active) limit reply)
MaintainedAt s (Clean range limit) reply = WithinLimit limit reply
    (CleanRight s.entries (holder s.state.active) range limit reply)
MaintainedAt s _ _ = Unit {0}

abbrev pub IsMaintained : Store → Trace → Type 0
IsMaintained s [] = Unit {0}
IsMaintained s (e ∷ trace) = MaintainedAt s e.0 e.1 × IsMaintained (after_step s e.0 e.1) trace

-- after each beginning of the trace each key is live in one place at most, and the content is the committed map with
-- the active transactions' writes
abbrev pub IsPlacedAtEachMoment : Trace → Type 0
IsPlacedAtEachMoment trace =
    (before rest : Trace) → before ++ rest ≡ trace → HasContent (after_all opened before).entries
    (overlay (effects before))

-- A trace is sound: serial, steady, right in its Busy answers and formed at each moment; at each moment each key is
-- live in one place at most and the content is the overlay; nothing is merged that no read asked for and nothing twice,
-- and each merge and clean step is right. The store, which makes so many runs at most, is right at its end.
pub record IsSoundStore (most_runs : ℕ) (trace : Trace) : Type 0 where
  pub sound : IsSound most_runs trace
  pub placed : IsPlacedAtEachMoment trace
  pub asked : IsAsked trace
  pub maintained : IsMaintained opened trace
  pub right : IsRight trace (after_all opened trace)
  pub ready : IsReadyForStep (after_all opened trace)
