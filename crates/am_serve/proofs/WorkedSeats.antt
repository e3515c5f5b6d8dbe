-- What workers leave of their seats, and how many runs a server makes.
use Rattle.std.proofs.Common.{◌≡◌, ◌<◌, ℕ, true, arith, List, [], ◌∷◌, ◌++◌, ap, sym, ◌∙◌, refl, subst, All}
use Rattle.std.proofs.lemmas.Bool.{true≢false}
use Rattle.std.specs.List.{AllZip}
use Rattle.std.proofs.lemmas.List.Elements.{All-nil, All-cons}
use Rattle.am_record.specs.Limits.{max_runs}
use Rattle.am_latch_ties.specs.declared.receipt.Receipt.{Receipt}
use Rattle.am_latch.specs.Receipts.{SeatState}
use Rattle.am_serve_seat.specs.Seats.{seat_numbers, IsNewSeat}
use Rattle.am_serve_seat.proofs.SeatOrder.{all_first, all_rest}
use Rattle.am_serve_workers.specs.Turns.{AreOfTurns}
use Rattle.am_serve_connections.specs.declared.lifetime.Lifetime.{Lifetime}
use Rattle.am_serve_connections.specs.declared.lifetime.Lifetime.TheVariants.{Bounded, Staying}
use Rattle.am_serve_connections.specs.Lifetimes.{most_turns, stays, upkeep_of}
use Rattle.am_serve.specs.ServerTraces.{HasWorked, IsOfWorker}
use Rattle.am_serve.specs.Headers.{most_runs_for}

pub same_worked : (lifetime : Lifetime) (runs : ℕ) (xs ys : List SeatState) → AllZip (HasWorked lifetime runs) xs ys →
    seat_numbers ys ≡ seat_numbers xs
same_worked lifetime runs [] [] h = refl
same_worked lifetime runs [] (y ∷ ys) h = absurd h
same_worked lifetime runs (x ∷ xs) [] h = absurd h
same_worked lifetime runs (x ∷ xs) (y ∷ ys) h = λ i. h.0.number i ∷ same_worked lifetime runs xs ys h.1 i

pub all_of_workers : (lifetime : Lifetime) (runs : ℕ) (xs ys : List SeatState) → AllZip (HasWorked lifetime runs) xs
    ys →
    All IsNewSeat xs →
    All (IsOfWorker lifetime runs) ys
all_of_workers lifetime runs [] [] h new = All-nil (IsOfWorker lifetime runs)
all_of_workers lifetime runs [] (y ∷ ys) h new = absurd h
all_of_workers lifetime runs (x ∷ xs) [] h new = absurd h
all_of_workers lifetime runs (x ∷ xs) (y ∷ ys) h new =
    All-cons (IsOfWorker lifetime runs) y ys
    (subst (AreOfTurns (upkeep_of lifetime runs) 16 (most_turns lifetime))
    (sym (h.0.longer ∙ ap (λ (l : List Receipt). l ++ h.0.more) (all_first IsNewSeat x xs (x ∷ xs) refl new)))
    h.0.turns)
    (all_of_workers lifetime runs xs ys h.1 (all_rest IsNewSeat x xs (x ∷ xs) refl new))

-- a server that stays makes more runs than one that doesn't
pub more_runs : (lifetime : Lifetime) (most_runs : ℕ) → most_runs ≡ most_runs_for lifetime → stays lifetime ≡ true →
    max_runs < most_runs
more_runs Staying most_runs is stay = subst (λ (n : ℕ). max_runs < n) (sym is) (omega arith)
more_runs Bounded most_runs is stay = absurd (true≢false (sym stay))
