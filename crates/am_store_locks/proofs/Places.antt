-- The place of an owner in the table, and what is written there.
use Rattle.std.proofs.Common.{◌≡◌, ◌≢◌, ◌==◌, ◌||◌, ℕ, ◌+◌, ◌<◌, zero, suc, List, [], ◌∷◌, length, get_or, set, cond}
use Rattle.std.proofs.Common.{true, false, not, Some, None, position, refl, sym, ap, ◌∙◌, arith, one-add, eq-eqb}
use Rattle.std.specs.Prelude.{nat_lt}
use Rattle.std.specs.List.{position_or_len}
use Rattle.std.specs.Option.{is_some}
use Rattle.std.proofs.Math.ListN.{get_or-map}
use Rattle.std.proofs.lemmas.Bool.{lt-ltb, ne_eqb}
use Rattle.std.proofs.lemmas.Bool.Decides.{nat_tests}
use Rattle.std.proofs.lemmas.List.{length-map}
use Rattle.std.proofs.lemmas.List.Elements.{All-weaker}
use Rattle.am_record.specs.declared.lock.Lock.{Lock}
use Rattle.am_record.proofs.Lists.{AllByRecursion-from_All}
use Rattle.am_record.proofs.ByNumber.{AreOnce, has_number-none, of_number-at, set-with_changed}
use Rattle.am_store_locks.specs.OwnerLocks.{OwnerLocks, AreApart}
use Rattle.am_store_locks.specs.Table.{is_owner, owner_numbers, locks_owned, with_locks, AreAllApart}

pub AreOnce-AreAllApart : (table : List OwnerLocks) → AreAllApart table → AreOnce (λ (h : OwnerLocks). h.owner) table
AreOnce-AreAllApart [] a = tt
AreOnce-AreAllApart (h ∷ table) a = (
  has_number-none (λ (g : OwnerLocks). g.owner) h.owner table
      (AllByRecursion-from_All (λ g. g.owner ≢ h.owner) table
      (All-weaker (AreApart h) (λ g. g.owner ≢ h.owner) (λ g p e. p.numbers (sym e)) table a.0)),
  AreOnce-AreAllApart table a.1,
)

module _ (table : List OwnerLocks) (i : ℕ) (d : OwnerLocks) (tx : ℕ) (a : AreAllApart table) (b : i < length table)
    (e : (get_or table i d).owner ≡ tx) where
  pub entry_at : get_or table i d ≡ record { owner = tx; locks = locks_owned table tx }
  entry_at =
      let locks = of_number-at (λ (h : OwnerLocks). h.owner) (λ h. h.locks) [] table i d tx
      (AreOnce-AreAllApart table a) b e in
      λ j. record { owner = e j; locks = locks j }

  pub set-with_locks : (locks : List Lock) → set table i (record { owner = tx; locks = locks }) ≡ with_locks table tx
      locks
  set-with_locks locks =
      (λ j. set table i (record { owner = sym e j; locks = locks }))
      ∙ set-with_changed (λ (h : OwnerLocks). h.owner) (λ h. record h { locks = locks }) table i d tx
      (AreOnce-AreAllApart table a) b e

-- what was read at the place of the transaction
pub own_entry : (items table : List OwnerLocks) (i tx : ℕ) (h : OwnerLocks) → h ≡ get_or items i h → items ≡ table →
    ((d : OwnerLocks) → get_or table i d ≡ record { owner = tx; locks = locks_owned table tx }) →
    h ≡ record { owner = tx; locks = locks_owned table tx }
own_entry items table i tx h is same at = is ∙ ap (λ t. get_or t i h) same ∙ at h

-- where an owner's number stands, no earlier one is the same
first_at : (table : List OwnerLocks) (i : ℕ) (h : OwnerLocks) → AreAllApart table → i < length table →
    (get_or table i h).owner ≡ h.owner → position_or_len (λ n. n == h.owner) (owner_numbers table) ≡ i
first_at [] i h a b e = absurd (omega (arith, b))
first_at (g ∷ table) zero h a b e = ap (λ c. cond (not c)
    (1 + position_or_len (λ n. n == h.owner) (owner_numbers table)) 0) (eq-eqb g.owner h.owner e)
first_at (g ∷ table) (suc i) h a b e =
    let here : i < length table = omega (arith, b) in
    let off = ne_eqb g.owner h.owner (λ p. (a.0 i h here).numbers (p ∙ sym e)) in
    (λ j. cond (not (off j)) (1 + first_at table i h a.1 here e j) 0) ∙ one-add i

-- the place of an owner is where its number stands
pub position-at : (table : List OwnerLocks) (i tx : ℕ) → AreAllApart table → i < length (owner_numbers table) →
    get_or (owner_numbers table) i tx ≡ tx → position (λ n. n == tx) (owner_numbers table) ≡ Some i
position-at table i tx a b e =
    let number = λ (h : OwnerLocks). h.owner in
    let own : OwnerLocks = record { owner = tx; locks = [] } in
    let here : i < length table = omega (arith, b, length-map table number) in
    let first = first_at table i own a here (sym (get_or-map number table i own) ∙ e) in
    (λ j. cond (nat_lt (first j) (length (owner_numbers table))) (Some (first j)) None)
    ∙ ap (λ c. cond c (Some i) None) (lt-ltb i (length (owner_numbers table)) b)

-- the numbers tell who is an owner
reached : (table : List OwnerLocks) (tx : ℕ) → nat_lt (position_or_len (λ n. n == tx) (owner_numbers table))
    (length (owner_numbers table)) ≡ is_owner table tx
reached [] tx = refl
reached (h ∷ table) tx =
    let place = position_or_len (λ n. n == tx) (owner_numbers table) in
    let all = length (owner_numbers table) in
    elim (h.owner == tx) as (λ c. nat_lt (cond (not c) (1 + place) 0) (suc all) ≡ (c || is_owner table tx)) [
      | true ↦ lt-ltb 0 (suc all) (omega arith)
      | false ↦ grind (arith, nat_tests, reached table tx)
    ]

-- an owner has a place, and nobody else
pub is_some-place : (table : List OwnerLocks) (tx : ℕ) →
    is_some (position (λ n. n == tx) (owner_numbers table)) ≡ is_owner table tx
is_some-place table tx =
    let place = position_or_len (λ n. n == tx) (owner_numbers table) in
    elim (nat_lt place (length (owner_numbers table))) as (λ c. is_some (cond c (Some place) None) ≡ c)
    [ true ↦ refl | false ↦ refl ] ∙ reached table tx
