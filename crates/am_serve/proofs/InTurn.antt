-- Sessions one after another at a seat.
use Rattle.std.proofs.Common.{◌≡◌, ◌∙◌, ℕ, zero, suc, ◌+◌, ◌<◌, ◌≤◌, List, [], ◌∷◌, ◌++◌, length, get_or, sym, ap, refl}
use Rattle.std.proofs.Common.{arith}
use Rattle.std.proofs.Common.{true, false, Bool, None, All, subst}
use Rattle.std.proofs.Common.{inl, inr, nat_lt}
use Rattle.std.proofs.lemmas.Bool.{true≢false, ltb-true, ltb-false}
use Rattle.std.specs.List.{AllZip}
use Rattle.std.proofs.lemmas.List.Elements.{All-nil, All-cons}
use Rattle.am_latch_ties.specs.declared.receipt.Receipt.{Receipt}
use Rattle.am_latch.specs.Receipts.{SeatState}
use Rattle.am_latch.specs.Ties.{open_of}
use Rattle.am_serve_seat.specs.SessionSeats.{SessionSeatState, HasDrawn, IsNumbered, open_at}
use Rattle.am_serve_connections.specs.declared.lifetime.Lifetime.{Lifetime}
use Rattle.am_serve_seat.specs.Seats.{HasNewSeat, session_seat_numbers, seat_numbers}
use Rattle.am_serve.specs.ServerTraces.{WasServed, HoldsNoReceipt}
use Rattle.am_serve.specs.ServerTraces.{IsSameSeat, ServedInTurn, HasServedInTurn, HasWorked, IsOfSessions}
use Rattle.am_serve_seat.proofs.SeatOrder.{all_first, all_rest}
use Rattle.am_serve.proofs.WorkedSeats.{same_worked}

pub same_then : (p q r : SessionSeatState) → IsSameSeat p q → IsSameSeat q r → IsSameSeat p r
same_then p q r f h = record { number = h.number ∙ f.number; receipts = h.receipts ∙ f.receipts }

pub none_more : (most_runs : ℕ) (p : SessionSeatState) (n : ℕ) (q r : SessionSeatState) → ServedInTurn most_runs p n q →
    IsSameSeat q r → ServedInTurn most_runs p n r
none_more most_runs p zero q r f h = same_then p q r f h
none_more most_runs p (suc n) q r f h = (f.0, f.1, f.2, f.3, f.4, f.5, f.6, same_then f.2 q r f.7 h)

-- the number of a session was drawn
pub numbered : (old new : SessionSeatState) → HasDrawn old true new → IsNumbered new
numbered old new h = (old.counter_seat.drawn, ap (λ (p : SessionSeatState). p.counter_seat.drawn) h)

pub same_drawn : (old new : SessionSeatState) (drew : Bool) → HasDrawn old drew new → IsSameSeat old new
same_drawn old new true h = record {
  number = ap (λ (p : SessionSeatState). p.seat.number) h;
  receipts = ap (λ (p : SessionSeatState). p.seat.receipts) h;
}
same_drawn old new false h = record {
  number = ap (λ (p : SessionSeatState). p.seat.number) h.1;
  receipts = ap (λ (p : SessionSeatState). p.seat.receipts) h.1;
}

pub same_open : (p q : SessionSeatState) → IsSameSeat p q → open_at p ≡ None → open_at q ≡ None
same_open p q h none = ap (λ (rs : List Receipt). open_of rs) h.receipts ∙ none

pub new_open : (p : SessionSeatState) → HasNewSeat p → open_at p ≡ None
new_open p new = ap (λ (rs : List Receipt). open_of rs) new

pub one_more : (most_runs : ℕ) (p : SessionSeatState) (n : ℕ) (before began ended q : SessionSeatState) →
    ServedInTurn most_runs p n before → IsSameSeat before began → IsNumbered began →
    WasServed most_runs began ended → IsSameSeat ended q → ServedInTurn most_runs p (suc n) q
one_more most_runs p n before began ended q f drawn number served gone =
    (before, began, ended, f, drawn, number, served, gone)

-- receipts were let go, or too many had been
let_go_by : (p q : SessionSeatState) (b : Bool) → nat_lt 100000000000000 p.seat.let_go ≡ b →
    q.seat.receipts ≡ p.seat.receipts →
    (p.seat.let_go ≤ 100000000000000 → q.seat.let_go ≡ length p.seat.receipts) →
    (100000000000000 < p.seat.let_go → q ≡ p) → HoldsNoReceipt q.seat
let_go_by p q true more receipts gone kept =
    let lt = ltb-true 100000000000000 p.seat.let_go more in
    inr (subst (λ (s : SessionSeatState). 100000000000000 < s.seat.let_go) (sym (kept lt)) lt)
let_go_by p q false few receipts gone kept =
    inl (gone (omega (arith, ltb-false 100000000000000 p.seat.let_go few)) ∙
    sym (ap (λ (rs : List Receipt). length rs) receipts))

pub all_let_go : (p q : SessionSeatState) → q.seat.receipts ≡ p.seat.receipts →
    (p.seat.let_go ≤ 100000000000000 → q.seat.let_go ≡ length p.seat.receipts) →
    (100000000000000 < p.seat.let_go → q ≡ p) → HoldsNoReceipt q.seat
all_let_go p q receipts gone kept = let_go_by p q (nat_lt 100000000000000 p.seat.let_go) refl receipts gone kept

-- what so many turns keep
pub record IsKept (most_runs turns : ℕ) (p q : SessionSeatState) : Type 0 where
  pub served : HasServedInTurn most_runs turns p q
  pub idle : open_at q ≡ None

pub none_served : (most_runs : ℕ) (p : SessionSeatState) → open_at p ≡ None → IsKept most_runs 0 p p
none_served most_runs p idle = record {
  served = record {
    same = refl;
    let_go = inl refl;
    sessions = 0;
    few = omega arith;
    served = record { number = refl; receipts = refl };
  };
  idle = idle;
}

-- a session was served, and receipts were let go
pub turn_served : (most_runs turns : ℕ) (p old drawn ended before q : SessionSeatState) (drew : Bool) →
    IsKept most_runs turns p old → drew ≡ true → HasDrawn old drew drawn → WasServed most_runs drawn ended →
    open_at ended ≡ None →
    ended.seat.number ≡ drawn.seat.number → before ≡ ended → IsSameSeat before q → HoldsNoReceipt q.seat →
    IsKept most_runs (turns + 1) p q
turn_served most_runs turns p old drawn ended before q false k is h served idle number at gone free =
    absurd (true≢false (sym is))
turn_served most_runs turns p old drawn ended before q true k is h served idle number at gone free =
    let same_drew = same_drawn old drawn true h in
    let let_go : IsSameSeat ended q = subst (λ (s : SessionSeatState). IsSameSeat s q) at gone in record {
      served = record {
        same = let_go.number ∙ number ∙ same_drew.number ∙ k.served.same;
        let_go = inr free;
        sessions = suc k.served.sessions;
        few = omega (arith, k.served.few);
        served = one_more most_runs p k.served.sessions old drawn ended q k.served.served same_drew
            (numbered old drawn h) served
            let_go;
      };
      idle = same_open ended q let_go idle;
    }

-- no number was drawn
pub turn_refused : (most_runs turns : ℕ) (p old drawn before q : SessionSeatState) (drew : Bool) →
    IsKept most_runs turns p old →
    HasDrawn old drew drawn → before ≡ drawn → IsSameSeat before q → HoldsNoReceipt q.seat →
    IsKept most_runs (turns + 1) p q
turn_refused most_runs turns p old drawn before q drew k h at gone free =
    let both = same_then old drawn q (same_drawn old drawn drew h)
    (subst (λ (s : SessionSeatState). IsSameSeat s q) at gone) in record {
      served = record {
        same = both.number ∙ k.served.same;
        let_go = inr free;
        sessions = k.served.sessions;
        few = omega (arith, k.served.few);
        served = none_more most_runs p k.served.sessions old q k.served.served both;
      };
      idle = same_open old q both k.idle;
    }

-- fewer turns than there may be
pub few_turns : (most_runs turns most : ℕ) (p q : SessionSeatState) → turns ≤ most → IsKept most_runs turns p q →
    HasServedInTurn most_runs most p q
few_turns most_runs turns most p q le k = record {
  same = k.served.same;
  let_go = k.served.let_go;
  sessions = k.served.sessions;
  few = omega (arith, k.served.few, le);
  served = k.served.served;
}

-- ---- all seats

pub all_in_turn : (most_runs most : ℕ) (xs ys : List SessionSeatState) → length ys ≡ length xs →
    ((i : ℕ) (d : SessionSeatState) → i < length xs → HasServedInTurn most_runs most (get_or xs i d) (get_or ys i d)) →
    AllZip (HasServedInTurn most_runs most) xs ys
all_in_turn most_runs most [] [] e h = tt
all_in_turn most_runs most [] (y ∷ ys) e h = absurd (omega (arith, e))
all_in_turn most_runs most (x ∷ xs) [] e h = absurd (omega (arith, e))
all_in_turn most_runs most (x ∷ xs) (y ∷ ys) e h = (
  h 0 x (omega arith),
  all_in_turn most_runs most xs ys (omega (arith, e)) (λ i d lt. h (suc i) d (omega arith)),
)

same_numbers : (most_runs most : ℕ) (xs ys : List SessionSeatState) → AllZip (HasServedInTurn most_runs most) xs ys →
    session_seat_numbers ys ≡ session_seat_numbers xs
same_numbers most_runs most [] [] h = refl
same_numbers most_runs most [] (y ∷ ys) h = absurd h
same_numbers most_runs most (x ∷ xs) [] h = absurd h
same_numbers most_runs most (x ∷ xs) (y ∷ ys) h = λ i. h.0.same i ∷ same_numbers most_runs most xs ys h.1 i

pub as_many_served : (most_runs most : ℕ) (xs ys : List SessionSeatState) → AllZip (HasServedInTurn most_runs most) xs
    ys →
    length ys ≡ length xs
as_many_served most_runs most [] [] h = refl
as_many_served most_runs most [] (y ∷ ys) h = absurd h
as_many_served most_runs most (x ∷ xs) [] h = absurd h
as_many_served most_runs most (x ∷ xs) (y ∷ ys) h = omega (arith, as_many_served most_runs most xs ys h.1)

pub all_came_back : (lifetime : Lifetime) (runs most_runs most : ℕ) (session_seats served : List SessionSeatState)
    (worker_seats worked seats : List SeatState) → AllZip (HasServedInTurn most_runs most) session_seats served →
    AllZip (HasWorked lifetime runs) worker_seats worked →
    session_seat_numbers session_seats ++ seat_numbers worker_seats ≡ seat_numbers seats →
    session_seat_numbers served ++ seat_numbers worked ≡ seat_numbers seats
all_came_back lifetime runs most_runs most session_seats served worker_seats worked seats sat worked_on e =
    (λ i. same_numbers most_runs most session_seats served sat i ++ same_worked lifetime runs worker_seats worked
    worked_on
    i) ∙
    e

pub all_of_turns : (most_runs most : ℕ) (xs ys : List SessionSeatState) → AllZip (HasServedInTurn most_runs most) xs
    ys →
    All HasNewSeat xs →
    All (IsOfSessions most_runs most) ys
all_of_turns most_runs most [] [] h new = All-nil (IsOfSessions most_runs most)
all_of_turns most_runs most [] (y ∷ ys) h new = absurd h
all_of_turns most_runs most (x ∷ xs) [] h new = absurd h
all_of_turns most_runs most (x ∷ xs) (y ∷ ys) h new =
    All-cons (IsOfSessions most_runs most) y ys
    (record { first = x; new = all_first HasNewSeat x xs (x ∷ xs) refl new; served = h.0 })
    (all_of_turns most_runs most xs ys h.1 (all_rest HasNewSeat x xs (x ∷ xs) refl new))
