-- A turnstile: who holds it, who waits at it, and who goes on.
use Rattle.std.specs.Prelude.{ℕ, zero, suc, ◌+◌, ◌-◌, ◌/◌, ◌%◌, ◌==◌, min, max, nat_le, nat_lt, Bool, true, false, not}
use Rattle.std.specs.Prelude.{◌&&◌, if◌then◌else◌, List, ◌∷◌, [], ◌++◌, drop, length, Option, Some, None, slice_get}
use Rattle.std.specs.List.{list_any}
use Rattle.am_serve_connections.specs.declared.line.Holder.{Holder}
use Rattle.am_serve_connections.specs.declared.line.Waiter.{Waiter}
use Rattle.am_serve_connections.specs.declared.line.Stage.{Stage}
use Rattle.am_serve_connections.specs.declared.line.Stage.TheVariants.{KeepsOut, LetsIn, Holds}
use Rattle.am_serve_connections.specs.declared.line.Asked.{Asked}
use Rattle.am_serve_connections.specs.declared.line.Asked.TheVariants.{KeptBy, OthersFirst, Asks}
use Rattle.am_serve_connections.specs.declared.line.Grant.{Grant}
use Rattle.am_serve_connections.specs.declared.line.Grant.TheVariants as grant
use Rattle.am_serve_connections.specs.declared.line.Standing.{Standing}
use Rattle.am_serve_connections.specs.declared.line.Standing.TheVariants as standing

-- where one begins that asks to hold
abbrev pub first_stage : Stage
first_stage = KeepsOut

-- whether who comes is kept out: by one that holds, and by one that would, unless it lets others in meanwhile
abbrev pub shuts : Stage → Bool
shuts KeepsOut = true
shuts LetsIn = false
shuts (Holds until) = true

abbrev pub is_shut : Option Holder → Bool
is_shut None = false
is_shut (Some holder) = shuts holder.stage

-- the place that keeps them out
abbrev pub shut_by : Option Holder → Option ℕ
shut_by None = None
shut_by (Some holder) = if shuts holder.stage then Some holder.place else None

-- whether who stands at this place has to wait: another keeps it out
abbrev pub is_kept : Option Holder → ℕ → Bool
is_kept None place = false
is_kept (Some holder) place = not (holder.place == place) && shuts holder.stage

-- whether it holds that stands at this place, or would
abbrev pub is_holder : Option Holder → ℕ → Bool
is_holder None place = false
is_holder (Some holder) place = holder.place == place

-- What becomes of one that asks to hold, and who holds or would then. Where another does it is told which. Where it
-- holds itself that ends, and those that wait go on before it asks again.
abbrev pub asked_free : List Waiter → Holder → Asked × Option Holder
asked_free [] asking = (Asks, Some asking)
asked_free (first ∷ others) asking = (OthersFirst, None)

abbrev pub asked_anew : Option Holder → List Waiter → Holder → Asked × Option Holder
asked_anew None waiting asking = asked_free waiting asking
asked_anew (Some holder) waiting asking =
    if holder.place == asking.place then (OthersFirst, None) else (KeptBy holder.session, Some holder)

-- for how long others are kept out at once where one asks to hold for so many microseconds: a tenth of these, and 50
-- milliseconds at least
abbrev pub stretch_of : ℕ → ℕ
stretch_of micros = max (micros / 10) 50000

-- how far one is at a time that asks to hold while another is inside: others are kept out for the first stretch and
-- for the tenth, which is the last one where a stretch is a tenth of its time
abbrev pub stage_at : Holder → ℕ → Stage
stage_at holder now =
    if ((now - holder.since) / stretch_of holder.micros) % 9 == 0 then KeepsOut else LetsIn

-- when it has asked for as long as it may
abbrev pub asking_end : Holder → ℕ
asking_end holder = min 18446744073709551615 (holder.since + holder.micros)

-- beside a session that is inside it asks on, until its time is over
abbrev pub granted_beside : Holder → ℕ → ℕ → Grant × Option Holder
granted_beside holder session now =
    if nat_le (asking_end holder) now then (grant.InVain session, None)
    else (grant.AsksOn (min 10000 (asking_end holder - now)), Some (record holder { stage = stage_at holder now }))

-- Once nobody is inside it holds, from now on for as long as it asked, where others were kept out meanwhile. Where they
-- were let in, they are kept out, and it looks once more.
abbrev pub granted_at : Stage → Holder → Option ℕ → ℕ → Grant × Option Holder
granted_at (Holds until) holder other now = (grant.Holds, Some holder)
granted_at KeepsOut holder None now =
    (grant.Holds, Some (record holder { stage = Holds (min 18446744073709551615 (now + holder.micros)) }))
granted_at LetsIn holder None now = (grant.AsksOn 0, Some (record holder { stage = KeepsOut }))
granted_at KeepsOut holder (Some session) now = granted_beside holder session now
granted_at LetsIn holder (Some session) now = granted_beside holder session now

-- what becomes of one that would hold at this place, by a session that is inside, where one is, and the time; and who
-- holds or would then
abbrev pub granted : Option Holder → ℕ → Option ℕ → ℕ → Grant × Option Holder
granted None place other now = (grant.Gone, None)
granted (Some holder) place other now =
    if holder.place == place then granted_at holder.stage holder other now else (grant.Gone, Some holder)

-- who holds once it doesn't that stands at this place
abbrev pub released : Option Holder → ℕ → Option Holder
released None place = None
released (Some holder) place = if holder.place == place then None else Some holder

-- whether the time of who holds is over
abbrev pub is_past : Stage → ℕ → Bool
is_past KeepsOut now = false
is_past LetsIn now = false
is_past (Holds until) now = nat_le until now

-- who holds at a time: nobody longer than it may
abbrev pub held_at : Option Holder → ℕ → Option Holder
held_at None now = None
held_at (Some holder) now = if is_past holder.stage now then None else Some holder

-- who goes on next: while nobody is kept out, who has waited longest
abbrev pub next_waiter : Bool → List Waiter → Option Waiter
next_waiter true waiting = None
next_waiter false waiting = slice_get waiting 0

-- who waits then
abbrev pub waiting_after : Bool → List Waiter → List Waiter
waiting_after true waiting = waiting
waiting_after false waiting = drop 1 waiting

-- who waits where one more would: all that did, and it after them, unless 512 did
abbrev pub joined_by : List Waiter → Waiter → List Waiter
joined_by waiting waiter = if nat_lt (length waiting) 512 then waiting ++ waiter ∷ [] else waiting

-- how long one waits at most until it looks again: until the end of the hold, and no longer than a tenth of a second
abbrev pub nap_at : Stage → ℕ → ℕ
nap_at KeepsOut now = 100000
nap_at LetsIn now = 0
nap_at (Holds until) now = min 100000 (until - now)

abbrev pub nap_of : Option Holder → ℕ → ℕ
nap_of None now = 0
nap_of (Some holder) now = nap_at holder.stage now

-- how a session of this number stands: as the one that holds or would, or among those that wait for their turns
abbrev pub holder_standing : Stage → Standing
holder_standing KeepsOut = standing.Waits
holder_standing LetsIn = standing.Waits
holder_standing (Holds until) = standing.Holds

abbrev pub waits : List Waiter → ℕ → Bool
waits waiting session = list_any (λ (waiter : Waiter). waiter.session == session) waiting

abbrev pub waiter_standing : Bool → Standing
waiter_standing true = standing.Waits
waiter_standing false = standing.Free

abbrev pub standing_of : Option Holder → List Waiter → ℕ → Standing
standing_of None waiting session = waiter_standing (waits waiting session)
standing_of (Some holder) waiting session =
    if holder.session == session then holder_standing holder.stage else waiter_standing (waits waiting session)

-- what stands in a word for a number, and which number by that: 0 stands for none
abbrev pub mark_of : ℕ → ℕ
mark_of number = min 18446744073709551615 (number + 1)

abbrev pub mark_number : ℕ → Option ℕ
mark_number zero = None
mark_number (suc number) = Some number
