-- Which seats of a latch are the sessions'.
use Rattle.std.specs.Prelude.{◌≡◌, ℕ, List, [], map}
use Rattle.am_latch.specs.Receipts.{SeatState}
use Rattle.am_serve_seat.specs.SessionSeats.{SessionSeatState}

-- the numbers of seats, and of those of sessions
abbrev pub seat_numbers : List SeatState → List ℕ
seat_numbers seats = map (λ (s : SeatState). s.number) seats

abbrev pub session_seat_numbers : List SessionSeatState → List ℕ
session_seat_numbers session_seats = map (λ (p : SessionSeatState). p.seat.number) session_seats

-- the seats of the latch
abbrev pub latch_seats : List SessionSeatState → List SeatState
latch_seats session_seats = map (λ (p : SessionSeatState). p.seat) session_seats

-- there is no receipt yet
abbrev pub IsNewSeat : SeatState → Type 0
IsNewSeat s = s.receipts ≡ []

abbrev pub HasNewSeat : SessionSeatState → Type 0
HasNewSeat p = IsNewSeat p.seat
