-- The active transactions as a table of locks.
use Rattle.std.proofs.Common.{◌≡◌, ℕ, ◌≤◌, List, [], ◌∷◌, ◌++◌, length, map, take, Bool, true, false, cond, refl}
use Rattle.std.proofs.Common.{sym, ap, ◌∙◌, subst, Option, Some, None, arith, length-append}
use Rattle.std.specs.Prelude.{◌==◌, ◌&&◌, ◌↔◌, not, nat_le}
use Rattle.std.specs.List.{AllByRecursion}
use Rattle.std.proofs.lemmas.Bool.{leb-true, cond_both, eq-eqb, ne_eqb}
use Rattle.std.proofs.lemmas.List.{map-append}
use Rattle.am_record.specs.Locks.{is_covered, with_lock}
use Rattle.am_record.specs.Asks.{lock_of, with_asked, locks_of as locks_by}
use Rattle.am_record.specs.declared.lock.Lock.{Lock}
use Rattle.am_record.specs.declared.step.Op.{Op}
use Rattle.am_record.specs.declared.step.Reply.{Reply}
use Rattle.am_record.specs.ByNumber.{with_changed}
use Rattle.am_record.specs.Owners.{blocker_among}
use Rattle.am_record.proofs.Bodies.{locks_from_push, asked_behind}
use Rattle.am_record.proofs.Lists.{AllByRecursion-map}
use Rattle.am_record.proofs.ByNumber.{has_number-map, of_number-map, of_number-told, RiseBy-map, AreOnce-RiseBy}
use Rattle.am_record.proofs.ByNumber.{each_found, with_changed-map, with_changed-twice, without_number-map}
use Rattle.am_record.proofs.Owners.{blocker_among-map, none_blocks}
use Rattle.std.proofs.lemmas.Simd.{map-map}
use Rattle.am_store_locks.specs.OwnerLocks.{OwnerLocks}
use Rattle.am_store_locks.specs.Table.{is_owner, locks_owned, with_locks, without_owner as released, blockers}
use Rattle.am_store_locks.specs.Table.{entered}
use Rattle.am_store_locks.specs.Answers.{IsLeastOf, MatchBusy}
use Rattle.am_store_locks.specs.declared.lock_answers.Asked.{Asked}
use Rattle.am_store_locks.specs.declared.lock_answers.Asked.TheVariants.{Granted, Busy, TooManyLocks, NoMemory}
use Rattle.am_store_locks.proofs.FirstOwners as firsts
use Rattle.am_store_locks.proofs.Laws.{locks_owned-with_locks, is_owner-with_locks}
use Rattle.am_law_serial.specs.Trace.{Answered, ops_of}
use Rattle.am_record.specs.Refusals.{is_one_too_many}
use Rattle.am_law_serial.specs.Machine.{Transaction, is_open, body_in, locks_in, blocker, extended, without_transaction}
use Rattle.am_audit_locks.specs.HeldLocks.{owner_of, RiseByNumber, IsAnswerTo}

abbrev number : Transaction → ℕ
number x = x.0

abbrev owner : OwnerLocks → ℕ
owner h = h.owner

abbrev locks_done : Transaction → List Lock
locks_done x = locks_by (ops_of x.1)

-- ---- owners and their locks

pub owners_are : (txs : List Transaction) (t : ℕ) → is_owner (map owner_of txs) t ≡ is_open txs t
owners_are = has_number-map number owner owner_of (λ x. refl)

pub locks_are : (txs : List Transaction) (t : ℕ) → locks_owned (map owner_of txs) t ≡ locks_in txs t
locks_are txs t = of_number-map number owner owner_of (λ x. refl) locks_done (λ h. h.locks) [] (λ x. refl) txs t
    ∙ sym (of_number-told number (λ x. x.1) [] (λ done. locks_by (ops_of done)) txs t)

-- ---- the first blocker is the least

blocker_is : (txs : List Transaction) (t : ℕ) (asked : Option Lock) → blocker_among owner (λ h. h.locks)
    (map owner_of txs) t asked ≡ blocker txs t asked
blocker_is = blocker_among-map number owner locks_done (λ h. h.locks) owner_of (λ x. refl) (λ x. refl)

pub blocked : (txs : List Transaction) (t : ℕ) (asked : Lock) (h : ℕ) → RiseByNumber txs →
    IsLeastOf (blockers (map owner_of txs) t asked) h → blocker txs t (Some asked) ≡ Some h
blocked txs t asked h rise least = sym (blocker_is txs t (Some asked)) ∙ firsts.blocked (map owner_of txs) t asked h
    (RiseBy-map number owner owner_of (λ x. refl) txs rise) least

pub free : (txs : List Transaction) (t : ℕ) (asked : Lock) → blockers (map owner_of txs) t asked ≡ [] →
    blocker txs t (Some asked) ≡ None
free txs t asked none = sym (blocker_is txs t (Some asked)) ∙ firsts.free (map owner_of txs) t asked none

pub free_of_nothing : (txs : List Transaction) (t : ℕ) → blocker txs t None ≡ None
free_of_nothing = none_blocks number locks_done

-- ---- other locks of one owner

-- what that transaction did is what stands under its number
own_bodies : (txs : List Transaction) (t : ℕ) → RiseByNumber txs →
    AllByRecursion (λ (x : Transaction). x.0 ≡ t → x.1 ≡ body_in txs t) txs
own_bodies txs t r = AllByRecursion-map (λ (x : Transaction). body_in txs x.0 ≡ x.1)
    (λ (x : Transaction). x.0 ≡ t → x.1 ≡ body_in txs t) (λ x found e. sym found ∙ ap (body_in txs) e) txs
    (each_found number (λ x. x.1) [] txs (AreOnce-RiseBy number txs r))

pub relocked_same : (txs : List Transaction) (t : ℕ) → RiseByNumber txs →
    with_locks (map owner_of txs) t (locks_in txs t) ≡ map owner_of txs
relocked_same txs t r =
    let with : OwnerLocks → OwnerLocks = λ h. record h { locks = locks_in txs t } in
    with_changed-map owner with owner_of owner_of t txs
    (AllByRecursion-map (λ (x : Transaction). x.0 ≡ t → x.1 ≡ body_in txs t)
    (λ (x : Transaction). x.0 ≡ t → with (owner_of x) ≡ owner_of x)
    (λ x own e i. record { owner = x.0; locks = locks_by (ops_of (sym (own e) i)) }) txs (own_bodies txs t r))
    (λ x other. refl)

-- the table with those locks is the one of transactions where one did that operation
module _ (txs : List Transaction) (t : ℕ) (op : Op) (reply : Reply) where
  abbrev with_lock_of : OwnerLocks → OwnerLocks
  with_lock_of h = record h { locks = with_asked (locks_in txs t) (lock_of op) }

  abbrev then : Transaction → OwnerLocks
  then x = owner_of (cond (x.0 == t) (extended (op, reply) x) x)

  grown : (x : Transaction) → (x.0 ≡ t → x.1 ≡ body_in txs t) → x.0 ≡ t → with_lock_of (owner_of x) ≡ then x
  grown x own e =
      let locks : with_asked (locks_in txs t) (lock_of op) ≡ locks_by (ops_of (x.1 ++ (op, reply) ∷ [])) =
      ap (λ (done : List Answered). with_asked (locks_by (ops_of done)) (lock_of op)) (sym (own e))
      ∙ sym (ap locks_by (map-append (λ (a : Answered). a.0) x.1 ((op, reply) ∷ [])) ∙ locks_from_push (ops_of x.1) op
      []) in
      (λ i. record { owner = x.0; locks = locks i })
      ∙ sym (λ i. owner_of (cond (eq-eqb x.0 t e i) (extended (op, reply) x) x))

  pub relocked_done : RiseByNumber txs → with_locks (map owner_of txs) t (with_asked (locks_in txs t) (lock_of op)) ≡
      map owner_of (with_changed number (extended (op, reply)) t txs)
  relocked_done r =
      with_changed-map owner with_lock_of owner_of then t txs
      (AllByRecursion-map (λ (x : Transaction). x.0 ≡ t → x.1 ≡ body_in txs t)
      (λ x. x.0 ≡ t → with_lock_of (owner_of x) ≡ then x) grown txs (own_bodies txs t r))
      (λ x other. sym (λ i. owner_of (cond (ne_eqb x.0 t other i) (extended (op, reply) x) x)))
      ∙ sym (map-map owner_of (λ x. cond (x.0 == t) (extended (op, reply) x) x) txs)

-- ---- a lock that is given back

longer : (own : List Lock) (asked : Option Lock) → length own ≤ length (with_asked own asked)
longer own None = omega arith
longer own (Some asked) = cond_both (is_covered own asked) own (own ++ asked ∷ []) (λ ls. length own ≤ length ls)
    (λ _. omega arith) (λ _. simp length-append (omega arith))

module _ (txs : List Transaction) (t : ℕ) (asked : Option Lock) (r : RiseByNumber txs) (on : is_open txs t ≡ true)
    (granted : List OwnerLocks) (is : granted ≡ with_locks (map owner_of txs) t (with_asked (locks_in txs t) asked))
  where
    owned : is_owner (map owner_of txs) t ≡ true
    owned = owners_are txs t ∙ on

    pub still_owner : is_owner granted t ≡ true
    still_owner = ap (λ (table : List OwnerLocks). is_owner table t) is ∙ is_owner-with_locks (map owner_of txs) t
        (with_asked (locks_in txs t) asked) t ∙ owned

    new_locks : locks_owned granted t ≡ with_asked (locks_in txs t) asked
    new_locks = ap (λ (table : List OwnerLocks). locks_owned table t) is ∙ locks_owned-with_locks (map owner_of txs) t
        (with_asked (locks_in txs t) asked) owned

    pub held_before : (n : ℕ) → n ≡ length (locks_owned (map owner_of txs) t) → n ≤ length (locks_owned granted t)
    held_before n e =
        subst (λ k. k ≤ length (locks_owned granted t)) (sym (e ∙ ap length (locks_are txs t)))
        (subst (λ (ls : List Lock). length (locks_in txs t) ≤ length ls) (sym new_locks)
        (longer (locks_in txs t) asked))

    pub given_back : (n : ℕ) → n ≡ length (locks_owned (map owner_of txs) t) →
        with_locks granted t (take n (locks_owned granted t)) ≡ map owner_of txs
    given_back n e =
        (λ i. with_locks (is i) t (take ((e ∙ ap length (locks_are txs t)) i) (new_locks i)))
        ∙ ap (with_locks (with_locks (map owner_of txs) t (with_asked (locks_in txs t) asked)) t)
        (asked_behind (locks_in txs t) asked)
        ∙ with_changed-twice owner (λ h. record h { locks = with_asked (locks_in txs t) asked }) t
        (λ h. record h { locks = locks_in txs t }) (λ h. refl) (map owner_of txs)
        ∙ relocked_same txs t r

-- ---- a transaction begins, or ends

pub entered_is : (txs : List Transaction) (t : ℕ) → entered (map owner_of txs) t ≡ map owner_of (txs ++ (t, []) ∷ [])
entered_is txs t = sym (map-append owner_of txs ((t, []) ∷ []))

pub released_is : (txs : List Transaction) (t : ℕ) → released (map owner_of txs) t ≡ map owner_of
    (without_transaction t txs)
released_is txs t = without_number-map number owner owner_of (λ x. refl) t txs

-- ---- the answers of the table

pub full_is : (own : List Lock) (asked : Lock) → length own ≤ 256 → is_covered own asked ≡ false → length own ≡ 256 →
    is_one_too_many own (Some asked) ≡ true
full_is own asked few not_covered full =
    (λ i. nat_le 256 (full i) && not (not_covered i))

pub not_full_is : (own : List Lock) (asked : Lock) → length own ≤ 256 →
    ((is_covered own asked ≡ false) × (length own ≡ 256) → ⊥) → is_one_too_many own (Some asked) ≡ false
not_full_is own asked few never = at (nat_le 256 (length own)) (is_covered own asked) refl refl
  where
    at : (a b : Bool) → nat_le 256 (length own) ≡ a → is_covered own asked ≡ b →
        (nat_le 256 (length own) && not (is_covered own asked)) ≡ false
    at false b e f = ap (λ c. c && not (is_covered own asked)) e
    at true true e f = (λ i. e i && not (f i))
    at true false e f = let full : 256 ≤ length own = leb-true 256 (length own) e in absurd (never (f, omega arith))

module _ (txs : List Transaction) (t : ℕ) (lock : Lock) (r : RiseByNumber txs)
    (few : length (locks_owned (map owner_of txs) t) ≤ 256) where
  abbrev TooMany : Asked → Type 0
  TooMany result = (result ≡ TooManyLocks) ↔ ((blockers (map owner_of txs) t lock ≡ []) ×
      (is_covered (locks_owned (map owner_of txs) t) lock ≡ false) × (length (locks_owned (map owner_of txs) t) ≡ 256))

  few_own : length (locks_in txs t) ≤ 256
  few_own = subst (λ (ls : List Lock). length ls ≤ 256) (locks_are txs t) few

  answered : (result : Asked) → MatchBusy result (IsLeastOf (blockers (map owner_of txs) t lock))
      (blockers (map owner_of txs) t lock ≡ []) → TooMany result → IsAnswerTo txs t (Some lock) result
  answered Granted none many = (
    free txs t lock none,
    not_full_is (locks_in txs t) lock few_own (λ both.
        let no : Granted ≡ TooManyLocks = many.1 (
          none,
          subst (λ (ls : List Lock). is_covered ls lock ≡ false)
              (sym (locks_are txs t)) both.0,
          ap length (locks_are txs t) ∙ both.1,
        ) in cc),
  )
  answered (Busy h) least many = blocked txs t lock h r least
  answered TooManyLocks none many =
      let parts = many.0 refl in (
        free txs t lock none,
        full_is (locks_in txs t) lock few_own (subst (λ (ls : List Lock). is_covered ls lock ≡ false) (locks_are txs t)
            parts.1) (sym (ap length (locks_are txs t)) ∙ parts.2),
      )
  answered NoMemory none many = tt

pub answer_to : (txs : List Transaction) (t : ℕ) (lock : Lock) (table : List OwnerLocks) (asked : Option Lock)
    (result : Asked) → RiseByNumber txs → table ≡ map owner_of txs → asked ≡ Some lock →
    length (locks_owned table t) ≤ 256 →
    MatchBusy result (IsLeastOf (blockers table t lock)) (blockers table t lock ≡ []) →
    (result ≡ TooManyLocks) ↔ ((blockers table t lock ≡ []) × (is_covered (locks_owned table t) lock ≡ false) ×
    (length (locks_owned table t) ≡ 256)) → IsAnswerTo txs t asked result
answer_to txs t lock table asked result r is given few busy many =
    subst (λ o. IsAnswerTo txs t o result) (sym given)
    (answered txs t lock r (subst (λ tb. length (locks_owned tb t) ≤ 256) is few) result
    (subst (λ tb. MatchBusy result (IsLeastOf (blockers tb t lock)) (blockers tb t lock ≡ [])) is busy)
    (subst (λ tb. (result ≡ TooManyLocks) ↔ ((blockers tb t lock ≡ []) × (is_covered (locks_owned tb t) lock ≡ false) ×
    (length (locks_owned tb t) ≡ 256))) is many))

pub granted_is : (txs : List Transaction) (t : ℕ) (lock : Lock) (table new : List OwnerLocks) (asked : Option Lock) →
    table ≡ map owner_of txs → asked ≡ Some lock →
    new ≡ with_locks table t (with_lock (locks_owned table t) lock) →
    new ≡ with_locks table t (with_asked (locks_in txs t) asked)
granted_is txs t lock table new asked is given e =
    e ∙ ap (λ (ls : List Lock). with_locks table t (with_lock ls lock)) (ap (λ tb. locks_owned tb t) is ∙
    locks_are txs t)
    ∙ ap (λ o. with_locks table t (with_asked (locks_in txs t) o)) (sym given)

pub granted_nothing : (txs : List Transaction) (t : ℕ) (table : List OwnerLocks) (asked : Option Lock) →
    RiseByNumber txs → table ≡ map owner_of txs → asked ≡ None →
    table ≡ with_locks table t (with_asked (locks_in txs t) asked)
granted_nothing txs t table asked r is none =
    is ∙ sym (relocked_same txs t r) ∙ (λ i. with_locks (sym is i) t (with_asked (locks_in txs t) (sym none i)))

pub answer_nothing : (txs : List Transaction) (t : ℕ) (asked : Option Lock) → asked ≡ None →
    IsAnswerTo txs t asked Granted
answer_nothing txs t asked none = subst (λ o. IsAnswerTo txs t o Granted) (sym none) (free_of_nothing txs t, refl)
