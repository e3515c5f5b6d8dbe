-- Want of memory: whose it is.
use Rattle.std.proofs.Common.{◌≡◌, ◌⊎◌, inl, inr, ℕ, ◌+◌, ◌-◌, ◌<◌, ◌≤◌, ◌^◌, min, nat_lt, if◌then◌else◌}
use Rattle.std.proofs.Common.{List, Bool, true, false, refl, ⊎_elim, arith}
use Rattle.std.proofs.lemmas.Bool.{ltb-true, ltb-false}
use Rattle.am_record.specs.declared.step.Step.{Step}
use Rattle.am_record.specs.declared.step.Refusal.{Refusal}
use Rattle.am_record.specs.declared.step.Refusal.TheVariants.{NoMemory, SeatFull}
use Rattle.am_record.specs.declared.step.Reply.{Reply}
use Rattle.am_record.specs.declared.step.Reply.TheVariants.{Refused}
use Rattle.am_law_sound.specs.StoreState.{StoreState}
use Rattle.am_store.specs.Memory.{may_want_memory}
use Rattle.am_latch_engine.specs.Changes.{is_begin, is_refused, is_stored, has, HasTrace, MayFollow}
use Rattle.am_latch_engine.proofs.Replies.{refused_nothing}
use Rattle.am_latch_engine.specs.Traces.{EngineState}
use Rattle.am_latch_engine.specs.Wants.{pairs_needed, MayWantMemory}

why_unstored : (why : Refusal) → is_stored (Refused why) ≡ false → (Refused why ≡ Refused NoMemory) ⊎
    (Refused why ≡ Refused SeatFull)
why_unstored NoMemory e = inl refl
why_unstored SeatFull e = inr refl
why_unstored why e = absurd (cc)

unstored : (r : Reply) → is_stored r ≡ false → (r ≡ Refused NoMemory) ⊎ (r ≡ Refused SeatFull)
unstored (Refused why) e = why_unstored why e
unstored reply e = absurd (cc)

-- ---- why a step is refused

some_needed : (begins : Bool) → 1 ≤ (if begins then 2 else 1)
some_needed true = omega arith
some_needed false = omega arith

-- where no room was got, there was none
module _ (room pairs more count len len' ends cap cap' : ℕ) (got : Bool) (none : got ≡ false) (needed : more ≡ pairs)
    (is : room ≡ min (min cap cap' - (len + ends)) (18446744073709551615 - (count + len + ends))) (even : len' ≡ len)
    (some : 1 ≤ pairs)
    (there : len + (ends + more) ≤ cap → len' + (ends + more) ≤ cap' → count + len + (ends + more) < 2 ^ 64 →
    got ≡ true)
  where
    by_room : (b : Bool) → nat_lt room pairs ≡ b → room < pairs
    by_room true e = ltb-true room pairs e
    by_room false e =
        let enough = ltb-false room pairs e in
        let yes : got ≡ true = there (omega arith) (omega arith) (omega arith) in
        absurd (cc)

    pub short : room < pairs
    short = by_room (nat_lt room pairs) refl

pub short_of : (st : Step) → 1 ≤ pairs_needed st
short_of st = some_needed (is_begin st)

-- the store wanted the memory, where there was room and its reply isn't stored
pub store_wants : (e : EngineState) (p : StoreState) (st : Step) (r : Reply) → HasTrace e.trace p →
    is_stored r ≡ false → (r ≡ Refused NoMemory → may_want_memory p st ≡ true) → (r ≡ Refused SeatFull → ⊥) →
    MayWantMemory e st
store_wants e p st r has none wants never = ⊎_elim
    (λ (is : r ≡ Refused NoMemory). inr record { store = p; at = has.stands.at; wants = wants is })
    (λ (is : r ≡ Refused SeatFull). absurd (never is)) (unstored r none)

pub by_reason : (e : EngineState) (st : Step) (got : Bool) → (got ≡ false → e.room < pairs_needed st) →
    (got ≡ true → MayWantMemory e st) → MayWantMemory e st
by_reason e st true less wants = wants refl
by_reason e st false less wants = inl (less refl)

-- what is refused may be answered by want of memory
pub refused_so : (ts : List ℕ) (st : Step) (r : Reply) → MayFollow ts st r → is_refused r ≡ true →
    MayFollow ts st (Refused NoMemory)
refused_so ts st r a refused = record {
  begins = λ t e. let none = refused_nothing (Refused NoMemory) st refl in absurd (cc);
  ends = λ t e. let none = refused_nothing (Refused NoMemory) st refl in absurd (cc);
  ended = λ t is at. let ends = a.ended t is at in let none = refused_nothing r st refused in absurd (cc);
  unknown = λ t is at. refl;
}
