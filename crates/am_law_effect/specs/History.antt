-- What an abort leaves: it looks back to the list before the transaction's first write to each key.
use Rattle.std.specs.Prelude.{ℕ, zero, suc, ◌==◌, List, [], ◌∷◌, Bool, false, cond, ◌&&◌, Option, Some, None}
use Rattle.std.specs.List.{list_any}
use Rattle.am_record.specs.OrderedKey.{OrderedKey}
use Rattle.am_record.specs.EntryOrder.{Place}
use Rattle.am_record.specs.declared.entry.Entry.{Entry}
use Rattle.am_index.specs.Entries.{Slot}
use Rattle.am_store_undo.specs.Notes.{ghosted}
use Rattle.am_law_serial.specs.Trace.{Effect, Answers}
use Rattle.am_law_effect.specs.Places.{look, reslotted}
use Rattle.am_law_effect.specs.Operations.{writes, sets_mark, goes_back}

-- whether the transaction wrote the key by the event
abbrev pub wrote_by : ℕ → OrderedKey → Effect → Bool
wrote_by t q (Answers u op reply) = (t == u) && writes op reply q
wrote_by t q _ = false

-- an event, and the list before it
abbrev pub Moment : Type 0
Moment = Effect × List Entry

-- whether the transaction wrote the key at one of the moments
abbrev pub wrote : ℕ → OrderedKey → List Moment → Bool
wrote t q past = list_any (λ (m : Moment). wrote_by t q m.0) past

-- what stood there, or else a ghost of what stands there now
abbrev pub or_made : Option Slot → Option Slot → Option Slot
or_made (Some s) now = Some s
or_made None now = ghosted now

-- what an abort of the transaction leaves at the place: as it is where the transaction didn't write the key, else what
-- it would have left before the last event, and where that is nothing a ghost. So a place that stood before the first
-- write is as it was then, and a place that was made since is a ghost with the value that it was made with. The newest
-- moment comes first
abbrev pub left_at : ℕ → Place → List Moment → List Entry → Option Slot
left_at t a [] now = look now a
left_at t a (m ∷ past) now = cond (wrote t a.1 (m ∷ past)) (or_made (left_at t a past m.1) (look now a)) (look now a)

-- the list after the abort
abbrev pub aborted : ℕ → List Moment → List Entry → List Entry
aborted t past es = reslotted (λ part key s. left_at t (part, key) past es) es

-- ---- marks

-- whether the transaction set a mark, or went back to one, by the event
abbrev pub marked_by : ℕ → Effect → Bool
marked_by t (Answers u op reply) = (t == u) && sets_mark op reply
marked_by t _ = false

abbrev pub backed_by : ℕ → Effect → Bool
backed_by t (Answers u op reply) = (t == u) && goes_back op reply
backed_by t _ = false

abbrev pub from_mark : Moment → (ℕ → List Moment) → ℕ → List Moment
from_mark m earlier zero = []
from_mark m earlier (suc n) = m ∷ earlier n

-- the moments since the transaction's newest mark that stands, n such marks passed over: going from the newest moment
-- on, each mark that it went back to is met after its Back, and counts no more. All moments where there is no such mark
abbrev pub moments_since : ℕ → List Moment → ℕ → List Moment
moments_since t [] n = []
moments_since t (m ∷ past) n = cond (backed_by t m.0) (m ∷ moments_since t past (suc n))
    (cond (marked_by t m.0) (from_mark m (moments_since t past) n) (m ∷ moments_since t past n))

-- the list after a Back of the transaction: what an abort leaves that looks back no further than to the mark
abbrev pub gone_back : ℕ → List Moment → List Entry → List Entry
gone_back t past es = aborted t (moments_since t past 0) es
