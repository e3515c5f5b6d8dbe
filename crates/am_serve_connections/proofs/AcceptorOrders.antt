-- Who leaves an acceptor, and who goes on at a turnstile, in which order.
use Rattle.std.proofs.Common.{◌≡◌, ◌∙◌, ◌⊎◌, ℕ, zero, suc, List, [], ◌∷◌, ◌++◌, length, map, drop, Some, None}
use Rattle.std.proofs.Common.{Bool, true, false, cond, ltb, refl, sym, ap, append_assoc, append-nil, inl, inr}
use Rattle.std.specs.Prelude.{option_to_list}
use Rattle.std.proofs.lemmas.List.{map-append}
use Rattle.std.specs.declared.net.tcp.TcpStream.{TcpStream}
use Rattle.am_serve_connections.specs.declared.waiting.Waiting.{Waiting}
use Rattle.am_serve_connections.specs.Waits.{oldest_of, due_of, still_waiting, gone_of, kept_of, waits_no_longer}
use Rattle.am_serve_connections.specs.WaitingLaws.{Happening, Comes, SeatFree, OneGoes, Leaving, Served, TurnedAway}
use Rattle.am_serve_connections.specs.WaitingLaws.{stream_of}
use Rattle.am_serve_connections.specs.WaitingLaws.{Acceptor, empty_acceptor, came_to, seated, acceptor_after}
use Rattle.am_serve_connections.specs.WaitingLaws.{acceptor_after_all, came}
use Rattle.am_serve_connections.specs.WaitingLaws.{LeaveInOrder, NobodyWaitsBesideASeat}

abbrev streams : List Waiting → List TcpStream
streams line = map (λ w. w.stream) line

-- of an acceptor to which these came
record InOrder (before : List TcpStream) (acceptor : Acceptor) : Type 0 where
  order : map stream_of acceptor.left ++ streams acceptor.line ≡ before
  seats : (acceptor.free ≡ 0) ⊎ (acceptor.line ≡ [])

streams_away : (gone : List TcpStream) → map stream_of (map TurnedAway gone) ≡ gone
streams_away [] = refl
streams_away (stream ∷ gone) = ap (λ (l : List TcpStream). stream ∷ l) (streams_away gone)

-- some go of those that have waited longest
some_go : (left : List Leaving) (gone : List TcpStream) (line kept : List Waiting) → gone ++
    streams kept ≡ streams line →
    map stream_of (left ++ map TurnedAway gone) ++ streams kept ≡ map stream_of left ++ streams line
some_go left gone line kept same =
    ap (λ (l : List TcpStream). l ++ streams kept) (map-append stream_of left (map TurnedAway gone) ∙
    ap (λ (l : List TcpStream). map stream_of left ++ l) (streams_away gone)) ∙
    append_assoc (map stream_of left) gone (streams kept) ∙
    ap (λ (l : List TcpStream). map stream_of left ++ l) same

gone_first : (line : List Waiting) → option_to_list (gone_of line) ++ streams (kept_of line) ≡ streams line
gone_first [] = refl
gone_first (first ∷ line) =
    elim (ltb (length (first ∷ line)) 4096) as
    (λ b. option_to_list (cond b None (oldest_of (first ∷ line))) ++
    streams (cond b (first ∷ line) (drop 1 (first ∷ line)))
    ≡ streams (first ∷ line)) [ true ↦ refl | false ↦ refl ]

due_first : (line : List Waiting) (round : ℕ) (is_stopped : Bool) →
    option_to_list (due_of line round is_stopped) ++ streams (still_waiting line round is_stopped) ≡ streams line
due_first [] round is_stopped = refl
due_first (first ∷ line) round is_stopped =
    elim (waits_no_longer first.since round is_stopped) as
    (λ b. option_to_list (cond b (Some first.stream) None) ++ streams (cond b line (first ∷ line)) ≡ streams
    (first ∷ line))
    [ true ↦ refl | false ↦ refl ]

-- where nobody waits, nobody goes
none_left : (line : List Waiting) (round : ℕ) (is_stopped : Bool) → line ≡ [] → still_waiting line round is_stopped ≡ []
none_left line round is_stopped none = ap (λ (l : List Waiting). still_waiting l round is_stopped) none

comes : (free : ℕ) (w : Waiting) (acceptor : Acceptor) (before : List TcpStream) → acceptor.free ≡ free →
    InOrder before acceptor →
    InOrder (before ++ w.stream ∷ []) (came_to free w acceptor)
comes zero w acceptor before is ordered = record {
  order = ap (λ (l : List TcpStream). map stream_of
      (acceptor.left ++ map TurnedAway (option_to_list (gone_of acceptor.line))) ++ l)
      (map-append (λ v. v.stream) (kept_of acceptor.line) (w ∷ [])) ∙
      sym (append_assoc (map stream_of (acceptor.left ++ map TurnedAway (option_to_list (gone_of acceptor.line))))
      (streams (kept_of acceptor.line)) (w.stream ∷ [])) ∙
      ap (λ (l : List TcpStream). l ++ w.stream ∷ [])
      (some_go acceptor.left (option_to_list (gone_of acceptor.line)) acceptor.line (kept_of acceptor.line)
      (gone_first acceptor.line) ∙
      ordered.order);
  seats = inl refl;
}
comes (suc free) w acceptor before is ordered =
    let none : acceptor.line ≡ [] = elim ordered.seats [ inl zero_is ↦ cc (is, zero_is) | inr none ↦ none ] in record {
      order = ap (λ (l : List TcpStream). l ++ streams acceptor.line)
          (map-append stream_of acceptor.left (Served w.stream ∷ [])) ∙
          ap (λ (l : List Waiting). (map stream_of acceptor.left ++ w.stream ∷ []) ++ streams l) none ∙
          append-nil (map stream_of acceptor.left ++ w.stream ∷ []) ∙
          ap (λ (l : List TcpStream). l ++ w.stream ∷ [])
          (sym (append-nil (map stream_of acceptor.left)) ∙
          ap (λ (l : List Waiting). map stream_of acceptor.left ++ streams l) (sym none) ∙ ordered.order);
      seats = inr none;
    }

frees : (acceptor : Acceptor) (line : List Waiting) (before : List TcpStream) → acceptor.line ≡ line →
    InOrder before acceptor →
    InOrder before (seated (oldest_of line) acceptor)
frees acceptor [] before is ordered = record { order = ordered.order; seats = inr is }
frees acceptor (first ∷ line) before is ordered = record {
  order = ap (λ (l : List TcpStream). l ++ streams (drop 1 acceptor.line))
      (map-append stream_of acceptor.left (Served first.stream ∷ [])) ∙
      append_assoc (map stream_of acceptor.left) (first.stream ∷ []) (streams (drop 1 acceptor.line)) ∙
      ap (λ (l : List Waiting). map stream_of acceptor.left ++ first.stream ∷ streams (drop 1 l)) is ∙
      ap (λ (l : List Waiting). map stream_of acceptor.left ++ streams l) (sym is) ∙ ordered.order;
  seats = elim ordered.seats [ inl none ↦ inl none | inr none ↦ inr (ap (λ (l : List Waiting). drop 1 l) none) ];
}

goes : (acceptor : Acceptor) (round : ℕ) (is_stopped : Bool) (before : List TcpStream) → InOrder before acceptor →
    InOrder before (acceptor_after (OneGoes round is_stopped) acceptor)
goes acceptor round is_stopped before ordered = record {
  order = some_go acceptor.left (option_to_list (due_of acceptor.line round is_stopped)) acceptor.line
      (still_waiting acceptor.line round is_stopped) (due_first acceptor.line round is_stopped) ∙ ordered.order;
  seats = elim ordered.seats [ inl none ↦ inl none | inr none ↦ inr (none_left acceptor.line round is_stopped none) ];
}

all_in_order : (happenings : List Happening) (acceptor : Acceptor) (before : List TcpStream) → InOrder before acceptor →
    InOrder (before ++ came happenings) (acceptor_after_all happenings acceptor)
all_in_order [] acceptor before ordered = rw (append-nil before) ordered
all_in_order (Comes w ∷ happenings) acceptor before ordered =
    rw (← append_assoc before (w.stream ∷ []) (came happenings))
    (all_in_order happenings (came_to acceptor.free w acceptor) (before ++ w.stream ∷ [])
    (comes acceptor.free w acceptor before refl ordered))
all_in_order (SeatFree ∷ happenings) acceptor before ordered =
    all_in_order happenings (seated (oldest_of acceptor.line) acceptor) before
    (frees acceptor acceptor.line before refl ordered)
all_in_order (OneGoes round is_stopped ∷ happenings) acceptor before ordered =
    all_in_order happenings (acceptor_after (OneGoes round is_stopped) acceptor) before
    (goes acceptor round is_stopped before ordered)

begun_in_order : InOrder [] empty_acceptor
begun_in_order = record { order = refl; seats = inl refl }

pub leave_in_order : LeaveInOrder
leave_in_order happenings = (all_in_order happenings empty_acceptor [] begun_in_order).order

pub nobody_waits : NobodyWaitsBesideASeat
nobody_waits happenings = (all_in_order happenings empty_acceptor [] begun_in_order).seats
