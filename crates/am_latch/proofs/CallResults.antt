-- What a call leaves its seat with.
use Rattle.std.proofs.Common.{◌≡◌, ℕ, suc, ◌-◌, List, [], ◌∷◌, ◌++◌, length, Bool, true, false, Some, MatchBool, refl}
use Rattle.std.proofs.Common.{sym, ap, ◌∙◌, subst, arith, length-append, append_assoc}
use Rattle.std.specs.Prelude.{slice_get, if◌then◌else◌, Option, None, is_some, not}
use Rattle.std.proofs.lemmas.List.{map-append}
use Rattle.am_record.specs.declared.step.Step.{Step}
use Rattle.am_record.specs.declared.step.Reply.{Reply}
use Rattle.am_latch_ties.specs.declared.receipt.Receipt.{Receipt}
use Rattle.am_latch_engine.specs.Changes.{is_stored, change}
use Rattle.am_latch_engine.specs.Traces.{stored_at}
use Rattle.am_latch_engine.specs.declared.change.Stored.{Stored}
use Rattle.am_latch_ties.specs.Receipts.{receipt}
use Rattle.am_latch.specs.Receipts.{SeatState, seat_state, GetsReceipt, HasReceiptOf, commit_in, committed_by}
use Rattle.am_latch.specs.Receipts.{last_commit_of, positions_of, AreBehind}

pub where_true : (A B : Type 0) (b : Bool) → b ≡ true → MatchBool b A B → A
where_true A B true e m = m
where_true A B false e m = absurd (cc)

-- what is told of a stored step, and that one of which nothing is told isn't stored
told_by : (b : Bool) (x s : Stored) → (if b then Some x else None) ≡ Some s → (b ≡ true) × (s ≡ x)
told_by true x s e = (refl, cc)
told_by false x s e = absurd (cc)

pub told_of : (position : ℕ) (st : Step) (r : Reply) (s : Stored) → stored_at position st r ≡ Some s →
    (is_stored r ≡ true) × (s ≡ record { change = change st r; position = position })
told_of position st r s e = told_by (is_stored r) (record { change = change st r; position = position }) s e

is_told : (b : Bool) (x : Stored) → is_some (if b then Some x else None) ≡ true → b ≡ true
is_told true x e = refl
is_told false x e = absurd (cc)

pub is_stored_where : (position : ℕ) (st : Step) (r : Reply) (told : Option Stored) (none : Bool) →
    told ≡ stored_at position st r → is_some told ≡ not none → none ≡ false → is_stored r ≡ true
is_stored_where position st r told none as_stored asked e =
    is_told (is_stored r) (record { change = change st r; position = position })
    (ap is_some (sym as_stored) ∙ asked ∙ ap not e)

pub received : (s : SeatState) (number n position : ℕ) (xs ys : List Receipt) (st : Step) (r : Reply) →
    seat_state number xs n ≡ s → is_stored r ≡ true
    → ys ≡ xs ++ receipt number (length xs) st r position ∷ [] → HasReceiptOf s st r (seat_state number ys n)
received s number n position xs ys st r is stored more =
    subst (λ (t : SeatState). HasReceiptOf t st r (seat_state number ys n)) is
    (subst (λ b. MatchBool b (GetsReceipt (seat_state number xs n) st r (seat_state number ys n))
    (seat_state number ys n ≡ seat_state number xs n)) (sym stored)
    (position, ap (λ (l : List Receipt). seat_state number l n) more))

last-snoc : (xs : List Receipt) (x : Receipt) → slice_get (xs ++ x ∷ []) (length (xs ++ x ∷ []) - 1) ≡ Some x
last-snoc [] x = refl
last-snoc (y ∷ ys) x =
    let more : suc (length (ys ++ x ∷ [])) - 1 ≡ suc (length (ys ++ x ∷ []) - 1) =
    omega (arith, length-append ys (x ∷ [])) in
    ap (λ (n : ℕ). slice_get (y ∷ (ys ++ x ∷ [])) n) more ∙ last-snoc ys x

pub last_commit-snoc : (xs : List Receipt) (x : Receipt) → last_commit_of (xs ++ x ∷ []) ≡ committed_by x.reply
last_commit-snoc xs x = ap commit_in (last-snoc xs x)

pub behind-snoc : (n : ℕ) (rs : List Receipt) (ps : List ℕ) (x : Receipt) → AreBehind n (positions_of rs) ps →
    AreBehind n (positions_of (rs ++ x ∷ [])) (ps ++ x.position ∷ [])
behind-snoc n rs ps x h = (
  h.0,
  h.1,
  map-append (λ (r : Receipt). r.position) rs (x ∷ []) ∙
      ap (λ (l : List ℕ). l ++ x.position ∷ []) h.2 ∙ append_assoc h.0 ps (x.position ∷ []),
)
