-- Who goes first: connections at an acceptor, and sessions at a turnstile.
use Rattle.std.specs.Prelude.{◌≡◌, ◌⊎◌, ℕ, zero, suc, nat_lt, Bool, List, [], ◌∷◌, ◌++◌, length, map, drop}
use Rattle.std.specs.Prelude.{Option, Some, None, option_to_list, if◌then◌else◌}
use Rattle.std.specs.declared.net.tcp.TcpStream.{TcpStream}
use Rattle.am_serve_connections.specs.declared.waiting.Waiting.{Waiting}
use Rattle.am_serve_connections.specs.declared.line.Waiter.{Waiter}
use Rattle.am_serve_connections.specs.Waits.{oldest_of, due_of, still_waiting, gone_of, kept_of}
use Rattle.am_serve_connections.specs.Turnstiles as turnstile

-- What happens at an acceptor: a connection comes; a seat comes free and waits there; a round ends, and those go that
-- have waited for too long, one by one.
pub data Happening : Type 0 where
  Comes : Waiting → Happening
  SeatFree : Happening
  OneGoes : ℕ → Bool → Happening

-- how a connection left
pub data Leaving : Type 0 where
  Served : TcpStream → Leaving
  TurnedAway : TcpStream → Leaving

abbrev pub stream_of : Leaving → TcpStream
stream_of (Served stream) = stream
stream_of (TurnedAway stream) = stream

-- an acceptor: how many seats wait there, which connections do, and which left, in their order
pub record Acceptor : Type 0 where
  pub free : ℕ
  pub line : List Waiting
  pub left : List Leaving

abbrev pub empty_acceptor : Acceptor
empty_acceptor = record { free = 0; line = []; left = [] }

-- where no seat waits, a connection that comes does, and of too many the one that has waited longest goes
abbrev pub came_to : ℕ → Waiting → Acceptor → Acceptor
came_to zero waiting acceptor = record {
  free = 0;
  line = kept_of acceptor.line ++ waiting ∷ [];
  left = acceptor.left ++ map TurnedAway (option_to_list (gone_of acceptor.line));
}
came_to (suc free) waiting acceptor =
    record { free = free; line = acceptor.line; left = acceptor.left ++ Served waiting.stream ∷ [] }

-- a seat that comes free serves who has waited longest, and waits where nobody does
abbrev pub seated : Option TcpStream → Acceptor → Acceptor
seated None acceptor = record { free = suc acceptor.free; line = acceptor.line; left = acceptor.left }
seated (Some stream) acceptor =
    record { free = acceptor.free; line = drop 1 acceptor.line; left = acceptor.left ++ Served stream ∷ [] }

abbrev pub acceptor_after : Happening → Acceptor → Acceptor
acceptor_after (Comes waiting) acceptor = came_to acceptor.free waiting acceptor
acceptor_after SeatFree acceptor = seated (oldest_of acceptor.line) acceptor
acceptor_after (OneGoes round is_stopped) acceptor = record {
  free = acceptor.free;
  line = still_waiting acceptor.line round is_stopped;
  left = acceptor.left ++ map TurnedAway (option_to_list (due_of acceptor.line round is_stopped));
}

abbrev pub acceptor_after_all : List Happening → Acceptor → Acceptor
acceptor_after_all [] acceptor = acceptor
acceptor_after_all (happening ∷ happenings) acceptor = acceptor_after_all happenings (acceptor_after happening acceptor)

-- the connections that came, in their order
abbrev pub came : List Happening → List TcpStream
came [] = []
came (Comes waiting ∷ happenings) = waiting.stream ∷ came happenings
came (SeatFree ∷ happenings) = came happenings
came (OneGoes round is_stopped ∷ happenings) = came happenings

-- Whatever happened at an acceptor: the connections left in the order in which they came, those that were served among
-- them, and those that wait came after them, in that order too.
abbrev pub LeaveInOrder : Type 0
LeaveInOrder = (happenings : List Happening) → let acceptor = acceptor_after_all happenings empty_acceptor in
    map stream_of acceptor.left ++ map (λ w. w.stream) acceptor.line ≡ came happenings

-- and nobody waits while a seat is free
abbrev pub NobodyWaitsBesideASeat : Type 0
NobodyWaitsBesideASeat = (happenings : List Happening) → let acceptor = acceptor_after_all happenings empty_acceptor in
    (acceptor.free ≡ 0) ⊎ (acceptor.line ≡ [])

-- What happens at a turnstile: a session would wait there, or one is asked to go on, where somebody is kept out or
-- nobody.
pub data Turn : Type 0 where
  Joins : Waiter → Turn
  GoesOn : Bool → Turn

-- those that were let in to wait, those that wait, and those that went on, each in their order
pub record Turns : Type 0 where
  pub joined : List Waiter
  pub waiting : List Waiter
  pub went : List Waiter

abbrev pub no_turns : Turns
no_turns = record { joined = []; waiting = []; went = [] }

abbrev pub turns_after : Turn → Turns → Turns
turns_after (Joins waiter) t = record {
  joined = t.joined ++ (if nat_lt (length t.waiting) 512 then waiter ∷ [] else []);
  waiting = turnstile.joined_by t.waiting waiter;
  went = t.went;
}
turns_after (GoesOn is_shut) t = record {
  joined = t.joined;
  waiting = turnstile.waiting_after is_shut t.waiting;
  went = t.went ++ option_to_list (turnstile.next_waiter is_shut t.waiting);
}

abbrev pub turns_behind : List Turn → Turns → Turns
turns_behind [] t = t
turns_behind (turn ∷ turns) t = turns_behind turns (turns_after turn t)

-- Whatever happened at a turnstile: the sessions that went on, and after them those that wait, are those that were let
-- in to wait, in their order.
abbrev pub GoOnInOrder : Type 0
GoOnInOrder = (turns : List Turn) → let t = turns_behind turns no_turns in t.went ++ t.waiting ≡ t.joined
