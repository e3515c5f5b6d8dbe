-- What the machine's steps do to all that stands: the laws by which a store that keeps one content follows the machine.
use Rattle.std.specs.Prelude.{◌≡◌, ◌≢◌, ℕ, Bool, true, false, cond, None, map}
use Rattle.std.specs.FinMap.{get}
use Rattle.am_record.specs.OrderedKey.{OrderedKey}
use Rattle.am_record.specs.declared.step.Op.{Op}
use Rattle.am_record.specs.declared.step.Op.TheVariants.{Back}
use Rattle.am_record.specs.declared.step.Reply.{Reply}
use Rattle.am_record.specs.Plain.{map_answer, map_after, answer, draft_after}
use Rattle.am_law_serial.specs.Trace.{Trace, runs_made, effects, Answers, Commits, Aborts, committed, active, overlay}
use Rattle.am_law_serial.specs.Machine.{State, Transaction, is_open, view, due, next, overlay_in, holds_in, owns_in}
use Rattle.am_law_serial.specs.Agreement.{Agree, Alike, Has}

abbrev pub is_back : Op → Bool
is_back Back = true
is_back op = false

-- a granted operation is answered by the overlay as by the transaction's own view, and does the same to it; it makes as
-- many runs by either
pub record GrantedOnOverlay (s : State) (t : ℕ) (op : Op) : Type 0 where
  pub answered : answer op (view s t) ≡ map_answer op (overlay_in s)
  pub changed : overlay_in (next s (Answers t op (answer op (view s t)))) ≡ map_after op (overlay_in s)
  pub made : (reply : Reply) → runs_made (view s t).map op reply ≡ runs_made (overlay_in s) op reply

-- Back gives each key that the transaction owns the value of the map gone back to, and leaves the others
abbrev pub BackRestores : State → ℕ → Type 0
BackRestores s t = (q : OrderedKey) → get (overlay_in (next s (Answers t Back (answer Back (view s t))))) q ≡
    cond (owns_in s t q) (get (draft_after Back (view s t)).map q) (get (overlay_in s) q)

-- a commit leaves the overlay as it is
abbrev pub CommitKeepsOverlay : State → ℕ → Type 0
CommitKeepsOverlay s t = overlay_in (next s (Commits t)) ≡ overlay_in s

-- an abort gives each key that the transaction owns the committed value back, and leaves the others
abbrev pub AbortRestores : State → ℕ → Type 0
AbortRestores s t = (q : OrderedKey) → get (overlay_in (next s (Aborts t))) q ≡
    cond (owns_in s t q) (get s.committed q) (get (overlay_in s) q)

pub record OverlayLaws (s : State) : Type 0 where
  pub granted : (t : ℕ) (op : Op) → is_back op ≡ false → due false s t op ≡ None → GrantedOnOverlay s t op
  pub goes_back : (t : ℕ) → due false s t Back ≡ None → BackRestores s t
  pub commits : (t : ℕ) → is_open s.active t ≡ true → CommitKeepsOverlay s t
  pub aborts : (t : ℕ) → is_open s.active t ≡ true → AbortRestores s t

-- what a transaction sees by its locks, also in what it saved
pub record ViewLaws (s : State) : Type 0 where
  -- what one holds, no other owns
  pub apart : (t u : ℕ) (q : OrderedKey) → is_open s.active t ≡ true → is_open s.active u ≡ true → t ≢ u →
      holds_in s t q ≡ true → owns_in s u q ≡ false
  -- a key that it doesn't own it sees as committed
  pub framed : (t : ℕ) (q : OrderedKey) → is_open s.active t ≡ true → owns_in s t q ≡ false →
      Has q s.committed (view s t)
  -- what it holds it sees as it stands
  pub stands : (t : ℕ) → is_open s.active t ≡ true → Agree (holds_in s t) (overlay_in s) (view s t).map
  -- what nobody owns stands as committed
  pub unowned : (q : OrderedKey) → ((t : ℕ) → is_open s.active t ≡ true → owns_in s t q ≡ false) →
      get (overlay_in s) q ≡ get s.committed q
  -- another's commit changes nothing that it holds
  pub rebased : (t u : ℕ) → is_open s.active t ≡ true → is_open s.active u ≡ true → t ≢ u →
      Alike (holds_in s t) (view s t) (view (next s (Commits u)) t)

-- the state is what the trace says
pub record IsMachineOf (trace : Trace) (s : State) : Type 0 where
  pub committed_map : s.committed ≡ committed (effects trace)
  pub active_numbers : map (λ (x : Transaction). x.0) s.active ≡ active (effects trace)
  pub overlay_map : overlay_in s ≡ overlay (effects trace)
