-- What a server leaves, and what its sessions leave of their seats.
use Rattle.std.specs.Prelude.{◌≡◌, ◌⊎◌, ℕ, zero, suc, ◌<◌, ◌≤◌, List, ◌++◌, length, All, Option}
use Rattle.am_law_serial.specs.Trace.{Trace}
use Rattle.am_law_sound.specs.Right.{IsSoundStore}
use Rattle.am_law_serial.specs.Legal.{IsLegal}
use Rattle.am_latch.specs.Receipts.{SeatState, AreReceiptsOf}
use Rattle.am_store.specs.StoreSteps.{IsSoundAt}
use Rattle.am_law_sound.specs.StoreState.{StoreState}
use Rattle.am_line_dialogue.specs.Exchanges.{Exchange}
use Rattle.am_line_dialogue.specs.Conversation.{AnswersAll}
use Rattle.am_serve_seat.specs.Seats.{latch_seats, HasNewSeat}
use Rattle.am_serve_seat.specs.SessionSeats.{SessionSeatState, IsNumbered, seat_meaning}
use Rattle.am_serve_workers.specs.Turns.{AreOfTurns, HasTakenTurns}
use Rattle.am_trace_writer.specs.Events.{add_count}
use Rattle.am_serve_connections.specs.Lifetimes.{most_sessions, most_turns, upkeep_of}
use Rattle.am_serve_connections.specs.declared.lifetime.Lifetime.{Lifetime}
use Rattle.am_serve.specs.Headers.{most_runs_for}
use Rattle.am_serve.specs.declared.server_trace.ServerTrace.{ServerTrace}

abbrev pub HasSameSeat : SessionSeatState → SessionSeatState → Type 0
HasSameSeat p q = q.seat.number ≡ p.seat.number

-- lines were answered there, the last of them perhaps by an answer that was torn, and what was open was aborted; or
-- none was
abbrev pub WasServed : ℕ → SessionSeatState → SessionSeatState → Type 0
WasServed most_runs p q = (q ≡ p) ⊎
    ((exchanges : List Exchange) × (torn : Option Exchange) × (events : Trace) ×
    AnswersAll (seat_meaning most_runs) 0 p exchanges torn events q)

-- the same seat, with the same receipts, whether they were let go or not
pub record IsSameSeat (p q : SessionSeatState) : Type 0 where
  pub number : q.seat.number ≡ p.seat.number
  pub receipts : q.seat.receipts ≡ p.seat.receipts

-- So many sessions were served at the seat, one after another: each with a number that was drawn for it, and from the
-- receipts that the one before left.
abbrev pub ServedInTurn : ℕ → SessionSeatState → ℕ → SessionSeatState → Type 0
ServedInTurn most_runs p zero q = IsSameSeat p q
ServedInTurn most_runs p (suc n) q = (before began ended : SessionSeatState) × ServedInTurn most_runs p n before ×
    IsSameSeat before began × IsNumbered began × WasServed most_runs began ended × IsSameSeat ended q

-- no receipt is held, unless 10^14 were let go
abbrev pub HoldsNoReceipt : SeatState → Type 0
HoldsNoReceipt s = (s.let_go ≡ length s.receipts) ⊎ (100000000000000 < s.let_go)

-- sessions were served there one after another, so many at most, and nothing else; their receipts were let go
pub record HasServedInTurn (most_runs most : ℕ) (p q : SessionSeatState) : Type 0 where
  pub same : HasSameSeat p q
  pub let_go : (q ≡ p) ⊎ HoldsNoReceipt q.seat
  pub sessions : ℕ
  pub few : sessions ≤ most
  pub served : ServedInTurn most_runs p sessions q

-- a seat that had no receipt, and at which sessions were served one after another since then, so many at most
pub record IsOfSessions (most_runs most : ℕ) (q : SessionSeatState) : Type 0 where
  pub first : SessionSeatState
  pub new : HasNewSeat first
  pub served : HasServedInTurn most_runs most first q

-- The trace is sound, with every merge and clean right, and legal, of a store that makes so many runs at most; it leads
-- to one with so many commits; and it is that of the seats: each of their receipts stands in it, and each of its pairs
-- has one.
pub record IsTraceOf (most_runs : ℕ) (seats : List SeatState) (trace : Trace) (commits : ℕ) : Type 0 where
  pub sound : IsSoundStore most_runs trace
  pub legal : IsLegal most_runs trace
  pub store : StoreState
  pub stands : IsSoundAt trace store
  pub committed : commits ≡ store.commits
  pub receipts : AreReceiptsOf seats trace

-- a worker had its turns there, which leaves so many runs that nobody asks for
abbrev pub HasWorked : Lifetime → ℕ → SeatState → SeatState → Type 0
HasWorked lifetime runs s t = HasTakenTurns (upkeep_of lifetime runs) 16 (most_turns lifetime) s t

-- a worker's turns were taken there, and nothing else
abbrev pub IsOfWorker : Lifetime → ℕ → SeatState → Type 0
IsOfWorker lifetime runs s = AreOfTurns (upkeep_of lifetime runs) 16 (most_turns lifetime) s.receipts

-- A trace was passed on from the first, in its order, and counted, and it is that of these seats (`IsTraceOf`: sound,
-- legal, with so many commits, each receipt in it).
pub record HasStored {T : Type 0} (took : T → Trace → T → Type 0) (most_runs : ℕ) (first : T) (seats : List SeatState)
    (s : ServerTrace T) : Type 0 where
  pub trace : Trace
  pub passed : took first trace s.pieces
  pub count : s.events ≡ add_count 0 (length trace)
  pub sound : IsTraceOf most_runs seats trace s.commits

-- and the seats are those of so many sessions at once and of so many workers, which leave so many runs that nobody asks
-- for; its store makes as many runs at most as its trace's first line says
pub record IsServerTrace {T : Type 0} (took : T → Trace → T → Type 0) (first : T) (lifetime : Lifetime)
    (runs session_count worker_count : ℕ) (s : ServerTrace T) : Type 0 where
  pub sessions : List SessionSeatState
  pub workers : List SeatState
  pub all_sessions : length sessions ≡ session_count
  pub all_workers : length workers ≡ worker_count
  pub served : All (IsOfSessions (most_runs_for lifetime) (most_sessions lifetime)) sessions
  pub worked : All (IsOfWorker lifetime runs) workers
  pub stored : HasStored took (most_runs_for lifetime) first (latch_seats sessions ++ workers) s
