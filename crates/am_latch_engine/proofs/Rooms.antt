-- Room in the trace after a step.
use Rattle.std.proofs.Common.{◌≡◌, ℕ, ◌+◌, ◌-◌, ◌<◌, ◌≤◌, min, if◌then◌else◌, List, [], ◌∷◌, length, Bool, true, false}
use Rattle.std.proofs.Common.{Option, Some, None, IsSome, refl, subst, arith, length-append}
use Rattle.am_record.proofs.ByNumber.{length-without_one}
use Rattle.am_record.specs.declared.step.Step.{Step}
use Rattle.am_record.specs.declared.step.Refusal.TheVariants.{NoMemory}
use Rattle.am_record.specs.declared.step.Reply.{Reply}
use Rattle.am_record.specs.declared.step.Reply.TheVariants.{Refused}
use Rattle.am_latch_engine.specs.declared.change.Change.{Change}
use Rattle.am_latch_engine.specs.declared.change.Change.TheVariants.{Begins, Ends, Nothing}
use Rattle.am_latch_engine.specs.Changes.{change, end_of, is_begin, is_refused, numbers_with, has, MayFollow}
use Rattle.am_latch_engine.specs.EngineFields.{most_positions}
use Rattle.am_latch_engine.specs.Traces.{ends_after}
use Rattle.am_latch_engine.specs.Wants.{pairs_needed}
use Rattle.am_latch_engine.proofs.Replies.{refused_nothing, begins_begin}

-- the state of the room: so many pairs and ends, and so much capacity
pub record Roomy (ts : List ℕ) (ends len cap : ℕ) : Type 0 where
  pub enough : length ts ≤ ends
  pub fits : len + ends ≤ cap

after_effect : (ts : List ℕ) (ends len cap : ℕ) (begin : Bool) (e : Change) → Roomy ts ends len cap →
    ((t : ℕ) → e ≡ Begins t → begin ≡ true) → ((t : ℕ) → e ≡ Ends t → has t ts ≡ true)
    → (((t : ℕ) → e ≡ Ends t → ⊥) → len + (ends + (if begin then 2 else 1)) ≤ cap) → (len < cap) ×
    Roomy (numbers_with ts e) (ends_after ends e) (len + 1) cap
after_effect ts ends len cap begin (Begins t) r is active_in_trace room =
    let more : len + (ends + 2) ≤ cap = subst (λ b. len + (ends + (if b then 2 else 1)) ≤ cap) (is t refl)
    (room (λ u x. absurd (cc))) in
    (omega arith, record { enough = omega (arith, length-append ts (t ∷ []), r.enough); fits = omega arith })
after_effect ts ends len cap begin (Ends t) r is active_in_trace room =
    let less = length-without_one (λ u. u) t ts (active_in_trace t refl) in (
      omega (arith, r.enough, r.fits),
      record {
        enough = omega (arith, r.enough);
        fits = omega (arith, r.enough, r.fits);
      },
    )
after_effect ts ends len cap true Nothing r is active_in_trace room = let more = room (λ u x. absurd (cc)) in
    (omega arith, record { enough = r.enough; fits = omega (arith, r.fits) })
after_effect ts ends len cap false Nothing r is active_in_trace room = let more = room (λ u x. absurd (cc)) in
    (omega arith, record { enough = r.enough; fits = omega (arith, r.fits) })

-- where no room was got, and the reply is not a refusal, the step ended an active transaction
ended_by : (ts : List ℕ) (st : Step) (r : Reply) (t : ℕ) (b : Bool) → has t ts ≡ b → MayFollow ts st r →
    end_of st ≡ Some t → is_refused r ≡ false → change st r ≡ Ends t
ended_by ts st r t true is a at kept = a.ended t at is
ended_by ts st r t false is a at kept = let yes = a.unknown t at is in absurd (cc)

pub ended_without : (ts : List ℕ) (st : Step) (r : Reply) (t : ℕ) → MayFollow ts st r → end_of st ≡ Some t →
    is_refused r ≡ false → change st r ≡ Ends t
ended_without ts st r t a at kept = ended_by ts st r t (has t ts) refl a at kept

some_there : (o : Option ℕ) → IsSome o → (t : ℕ) × (o ≡ Some t)
some_there (Some t) h = (t, refl)
some_there None h = absurd (cc)

more_room : (ts : List ℕ) (st : Step) (r : Reply) (ends more len cap : ℕ) (b : Bool) → MayFollow ts st r →
    more ≡ (if is_begin st then 2 else 1) → (b ≡ true → len + (ends + more) ≤ cap) →
    (b ≡ false → IsSome (end_of st) × (is_refused r ≡ false))
    → ((t : ℕ) → change st r ≡ Ends t → ⊥) → len + (ends + (if is_begin st then 2 else 1)) ≤ cap
more_room ts st r ends more len cap true a is got other apart = subst (λ (n : ℕ). len + (ends + n) ≤ cap) is (got refl)
more_room ts st r ends more len cap false a is got other apart =
    let o = other refl in
    let t = some_there (end_of st) o.0 in absurd (apart t.0 (ended_without ts st r t.0 a t.1 o.1))

-- what the reservation gave is enough for the pair, and keeps the room
pub room_step : (ts : List ℕ) (st : Step) (r : Reply) (ends more len cap : ℕ) (b : Bool) → MayFollow ts st r →
    Roomy ts ends len cap → more ≡ (if is_begin st then 2 else 1) → (b ≡ true → len + (ends + more) ≤ cap) →
    (b ≡ false → IsSome (end_of st) × (is_refused r ≡ false))
    → (len < cap) × Roomy (numbers_with ts (change st r)) (ends_after ends (change st r)) (len + 1) cap
room_step ts st r ends more len cap b a roomy is got other =
    after_effect ts ends len cap (is_begin st) (change st r) roomy (λ t e. (begins_begin st r t e).0) a.ends
    (more_room ts st r ends more len cap b a is got other)

-- a step that was not taken
pub none_taken : (ts : List ℕ) (st : Step) → ((t : ℕ) → end_of st ≡ Some t → has t ts ≡ true → ⊥) →
    MayFollow ts st (Refused NoMemory)
none_taken ts st idle = record {
  begins = λ t e. let n = refused_nothing (Refused NoMemory) st refl in absurd (cc);
  ends = λ t e. let n = refused_nothing (Refused NoMemory) st refl in absurd (cc);
  ended = λ t e h. absurd (idle t e h);
  unknown = λ t e h. refl;
}

pub no_end : (st : Step) → end_of st ≡ None → (t : ℕ) → end_of st ≡ Some t → ⊥
no_end st none t e = absurd (cc)

-- a pair and its end take no more room than its step asks for
ends_more : (begins : Bool) (ends : ℕ) (e : Change) → ((t : ℕ) → e ≡ Begins t → begins ≡ true) →
    ends_after ends e + 1 ≤ ends + (if begins then 2 else 1)
ends_more true ends (Begins t) is = omega arith
ends_more false ends (Begins t) is = let yes = is t refl in absurd (cc)
ends_more true ends (Ends t) is = omega arith
ends_more false ends (Ends t) is = omega arith
ends_more true ends Nothing is = omega arith
ends_more false ends Nothing is = omega arith

pub ends_spent : (st : Step) (r : Reply) (ends : ℕ) → ends_after ends (change st r) + 1 ≤ ends + pairs_needed st
ends_spent st r ends = ends_more (is_begin st) ends (change st r) (λ t e. (begins_begin st r t e).0)

pub room_less : (pairs count len len' ends ends' cap cap' calls calls' : ℕ) → cap ≤ cap' → calls ≤ calls' →
    len' ≡ len + 1 → ends' + 1 ≤ ends + pairs
    → min (min cap calls - (len + ends)) (most_positions - (count + len + ends)) ≤ min
    (min cap' calls' - (len' + ends'))
    (most_positions - (count + len' + ends')) + pairs
room_less pairs count len len' ends ends' cap cap' calls calls' more even longer fits = omega arith
