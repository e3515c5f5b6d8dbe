-- Seats and places, in order.
use Rattle.std.proofs.Common.{◌≡◌, ℕ, zero, suc, ◌+◌, ◌<◌, ◌≤◌, List, [], ◌∷◌, ◌++◌, length, get_or, ap, sym, ◌∙◌, refl}
use Rattle.std.proofs.Common.{arith, append_assoc, length-append, append-nil, subst, Option, Some, None, All, Bool}
use Rattle.std.proofs.Common.{true, false, nat_lt}
use Rattle.std.specs.Prelude.{slice_get, option_to_list}
use Rattle.std.proofs.lemmas.List.{map-append, length-map}
use Rattle.std.proofs.lemmas.List.Elements.{All-nil, All-push}
use Rattle.std.proofs.lemmas.Bool.{ltb-true, ltb-false}
use Rattle.std.proofs.Math.ListN.{get_or-append}
use Rattle.std.proofs.Math.Seq.{get_or-append_seam}
use Rattle.am_latch.specs.Receipts.{SeatState, new_seat, numbered, AreAllSeats}
use Rattle.am_serve_seat.specs.SessionSeats.{SessionSeatState}
use Rattle.am_latch_counters.specs.Counters.{CounterHistory}
use Rattle.am_serve_seat.specs.Seats.{seat_numbers, session_seat_numbers, latch_seats, IsNewSeat}

-- ---- as many

pub count_seats : (xs : List SeatState) → length (seat_numbers xs) ≡ length xs
count_seats xs = length-map xs (λ (s : SeatState). s.number)

pub count_places : (xs : List SessionSeatState) → length (session_seat_numbers xs) ≡ length xs
count_places xs = length-map xs (λ (p : SessionSeatState). p.seat.number)

pub count_back : (placed : List SessionSeatState) (worked seats : List SeatState) → session_seat_numbers placed ++
    seat_numbers worked ≡ seat_numbers seats → length placed + length worked ≡ length seats
count_back placed worked seats e =
    omega (
      arith,
      count_places placed,
      count_seats worked,
      count_seats seats,
      length-append (session_seat_numbers placed) (seat_numbers worked),
      ap length e,
    )

-- ---- new seats

pub all_new : (n : ℕ) → All IsNewSeat (numbered n)
all_new zero = All-nil IsNewSeat
all_new (suc n) = All-push IsNewSeat (numbered n) (new_seat n) (all_new n) refl

pub length-numbered : (n : ℕ) → length (numbered n) ≡ n
length-numbered zero = refl
length-numbered (suc n) = omega (arith, length-numbered n, length-append (numbered n) (new_seat n ∷ []))

seat_numbers-snoc : (xs : List SeatState) (x : SeatState) → seat_numbers (xs ++ x ∷ []) ≡ seat_numbers xs ++
    x.number ∷ []
seat_numbers-snoc xs x = map-append (λ (s : SeatState). s.number) xs (x ∷ [])

-- ---- what holds of all holds of fewer

pub all_init : {X : Type 0} (P : X → Type 0) (xs ys zs : List X) → zs ≡ xs ++ ys → All P zs → All P xs
all_init P xs ys zs e h = λ k d lt.
    subst P (ap (λ l. get_or l k d) e ∙ get_or-append xs ys d k lt)
    (h k d (omega (arith, lt, length-append xs ys, ap length e)))

pub all_rest : {X : Type 0} (P : X → Type 0) (x : X) (xs zs : List X) → zs ≡ x ∷ xs → All P zs → All P xs
all_rest P x xs zs e h = λ k d lt. subst P (ap (λ l. get_or l (suc k) d) e)
    (h (suc k) d (omega (arith, lt, ap length e)))

pub all_first : {X : Type 0} (P : X → Type 0) (x : X) (xs zs : List X) → zs ≡ x ∷ xs → All P zs → P x
all_first P x xs zs e h = subst P (ap (λ l. get_or l 0 x) e) (h 0 x (omega (arith, ap length e)))

-- ---- one seat more

pub none_there : (xs : List SeatState) → length xs ≡ 0 → xs ≡ []
none_there [] e = refl
none_there (x ∷ xs) e = absurd (omega (arith, e))

pub place_more : (session_seats : List SessionSeatState) (p : SessionSeatState)
    (worker_seats rest rest' all : List SeatState) → worker_seats ≡ [] → rest ≡ p.seat ∷ rest'
    → (session_seat_numbers session_seats ++ seat_numbers worker_seats) ++ seat_numbers rest ≡ seat_numbers all →
    (session_seat_numbers (session_seats ++ p ∷ []) ++ seat_numbers worker_seats) ++
    seat_numbers rest' ≡ seat_numbers all
place_more session_seats p worker_seats rest rest' all none next e =
    ap (λ (w : List SeatState). (session_seat_numbers (session_seats ++ p ∷ []) ++ seat_numbers w) ++
    seat_numbers rest') none
    ∙ ap (λ (l : List ℕ). l ++ seat_numbers rest') (append-nil (session_seat_numbers (session_seats ++ p ∷ [])))
    ∙ ap (λ (l : List ℕ). l ++ seat_numbers rest') (map-append (λ (q : SessionSeatState). q.seat.number) session_seats
    (p ∷ []))
    ∙ append_assoc (session_seat_numbers session_seats) (p.seat.number ∷ []) (seat_numbers rest')
    ∙ ap (λ (l : List ℕ). l ++ p.seat.number ∷ seat_numbers rest')
    (sym (append-nil (session_seat_numbers session_seats)))
    ∙ ap (λ (w : List SeatState). (session_seat_numbers session_seats ++ seat_numbers w) ++
    p.seat.number ∷ seat_numbers rest') (sym none)
    ∙ ap (λ (r : List SeatState). (session_seat_numbers session_seats ++ seat_numbers worker_seats) ++ seat_numbers r)
    (sym next)
    ∙ e

pub worker_more : (session_seats : List SessionSeatState) (s : SeatState)
    (worker_seats rest rest' all : List SeatState) → rest ≡ s ∷ rest'
    → (session_seat_numbers session_seats ++ seat_numbers worker_seats) ++ seat_numbers rest ≡ seat_numbers all →
    (session_seat_numbers session_seats ++ seat_numbers (worker_seats ++ s ∷ [])) ++
    seat_numbers rest' ≡ seat_numbers all
worker_more session_seats s worker_seats rest rest' all next e =
    ap (λ (l : List ℕ). (session_seat_numbers session_seats ++ l) ++ seat_numbers rest')
    (seat_numbers-snoc worker_seats s)
    ∙ append_assoc (session_seat_numbers session_seats) (seat_numbers worker_seats ++ s.number ∷ [])
    (seat_numbers rest')
    ∙ ap (λ (l : List ℕ). session_seat_numbers session_seats ++ l)
    (append_assoc (seat_numbers worker_seats) (s.number ∷ []) (seat_numbers rest'))
    ∙ sym (append_assoc (session_seat_numbers session_seats) (seat_numbers worker_seats)
    (s.number ∷ seat_numbers rest'))
    ∙ ap (λ (r : List SeatState). (session_seat_numbers session_seats ++ seat_numbers worker_seats) ++ seat_numbers r)
    (sym next)
    ∙ e

-- a seat of the counters has its session
pub one_placed : (session_seats placed : List SessionSeatState) (p : SessionSeatState)
    (words left : List CounterHistory)
    (w : CounterHistory) (popped : Option CounterHistory) (all : ℕ) → placed ≡ session_seats ++ p ∷ [] →
    popped ≡ Some w →
    words ≡ left ++ option_to_list popped →
    length session_seats + length words ≡ all → length placed + length left ≡ all
one_placed session_seats placed p words left w popped all more some fewer e =
    omega (
      arith,
      e,
      ap length more,
      ap length fewer,
      ap (λ (o : Option CounterHistory). length (left ++ option_to_list o)) some,
      length-append session_seats (p ∷ []),
      length-append left (w ∷ []),
    )

-- each seat of the counters has a session, where there are no more of them than seats of the latch
pub all_counted : (left words placed worked seats : ℕ) → placed + left ≡ words → (0 < worked → left ≡ 0) →
    placed + worked ≡ seats → words ≤ seats → placed ≡ words
all_counted left words placed zero seats e none all few = omega (arith, e, all, few)
all_counted left words placed (suc worked) seats e none all few = omega (arith, e, none (omega arith))

-- ---- all seats of a latch

latch_numbers : (placed : List SessionSeatState) → seat_numbers (latch_seats placed) ≡ session_seat_numbers placed
latch_numbers [] = refl
latch_numbers (p ∷ ps) = ap (λ (l : List ℕ). p.seat.number ∷ l) (latch_numbers ps)

-- the seats that were closed are those of the sessions, and after them those of the workers
pub joined_seats : (all taken before worked : List SeatState) (placed : List SessionSeatState) → all ≡ taken ++ worked →
    taken ≡ before ++ latch_seats placed → before ≡ [] → all ≡ latch_seats placed ++ worked
joined_seats all taken before worked placed joined sat none = joined ∙
    ap (λ (l : List SeatState). l ++ worked) (sat ∙ ap (λ (b : List SeatState). b ++ latch_seats placed) none)

last_number : (n i d : ℕ) (l : List ℕ) (b : Bool) → length l ≡ n → i < suc n → ((k : ℕ) → k < n → get_or l k d ≡ k) →
    nat_lt i n ≡ b → get_or (l ++ n ∷ []) i d ≡ i
last_number n i d l true long lt before below = get_or-append l (n ∷ []) d i (omega (arith, long, ltb-true i n below)) ∙
    before i (ltb-true i n below)
last_number n i d l false long lt before above =
    let same : i ≡ length l = omega (arith, long, lt, ltb-false i n above) in
    ap (λ (k : ℕ). get_or (l ++ n ∷ []) k d) same ∙ get_or-append_seam l n [] d ∙ sym long ∙ sym same

number_of : (n i d : ℕ) → i < n → get_or (seat_numbers (numbered n)) i d ≡ i
number_of zero i d lt = absurd (omega (arith, lt))
number_of (suc n) i d lt =
    ap (λ (l : List ℕ). get_or l i d) (seat_numbers-snoc (numbered n) (new_seat n))
    ∙ last_number n i d (seat_numbers (numbered n)) (nat_lt i n) (count_seats (numbered n) ∙ length-numbered n) lt
    (λ k below. number_of n k d below) refl

abbrev number_or : ℕ → Option SeatState → ℕ
number_or d None = d
number_or d (Some s) = s.number

seat_number : (seats : List SeatState) (i d : ℕ) (s : SeatState) → slice_get seats i ≡ Some s →
    get_or (seat_numbers seats) i d ≡ s.number
seat_number [] i d s e = absurd (cc)
seat_number (x ∷ xs) zero d s e = ap (λ (o : Option SeatState). number_or d o) e
seat_number (x ∷ xs) (suc i) d s e = seat_number xs i d s e

pub are_all : (n : ℕ) (seats : List SeatState) → seat_numbers seats ≡ seat_numbers (numbered n) → AreAllSeats n seats
are_all n seats e = (
  omega (arith, count_seats seats, count_seats (numbered n), length-numbered n, ap length e),
  λ i s lt at. sym (seat_number seats i 0 s at) ∙ ap (λ (l : List ℕ). get_or l i 0) e ∙ number_of n i 0 lt,
)

pub all_there : (n : ℕ) (all taken before worked seats : List SeatState) (placed : List SessionSeatState) →
    all ≡ taken ++ worked → taken ≡ before ++ latch_seats placed
    → before ≡ [] → session_seat_numbers placed ++ seat_numbers worked ≡ seat_numbers seats → seats ≡ numbered n →
    AreAllSeats n all
all_there n all taken before worked seats placed joined sat none back new =
    are_all n all
    (ap seat_numbers joined ∙ map-append (λ (s : SeatState). s.number) taken worked ∙
    ap (λ (l : List ℕ). l ++ seat_numbers worked)
    (ap seat_numbers (sat ∙ ap (λ (b : List SeatState). b ++ latch_seats placed) none) ∙ latch_numbers placed)
    ∙ back ∙ ap seat_numbers new)
