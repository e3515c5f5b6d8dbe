-- Each call leaves the table consistent.
use Rattle.std.proofs.Common.{◌≡◌, ℕ, ◌+◌, ◌<◌, ◌≤◌, ◌^◌, List, [], ◌∷◌, ◌++◌, length, get_or, set, map, true, false}
use Rattle.std.proofs.Common.{cond, not, ◌==◌, All, ◌≢◌, subst, refl, sym, ap, ◌∙◌, arith, length-append}
use Rattle.std.proofs.lemmas.List.{map-append, length-map}
use Rattle.std.proofs.lemmas.List.Elements.{All-head, All-tail, All-push, All-filter, All-weaker, All-set}
use Rattle.std.specs.List.{AllByRecursion}
use Rattle.am_record.specs.ByNumber.{has_number, with_changed, without_number}
use Rattle.am_record.specs.declared.lock.Lock.{Lock}
use Rattle.am_record.proofs.Lists.{AllByRecursion-map}
use Rattle.am_record.proofs.ByNumber.{has_number-map, has_number-none, numbers-with_changed, RiseBy-with_changed}
use Rattle.am_record.proofs.ByNumber.{RiseBy-push, RiseBy-filter, without_number-map, length-without_number}
use Rattle.am_store_locks.specs.declared.lock_answers.Asked.{Asked}
use Rattle.am_store_locks.specs.declared.lock_answers.Asked.TheVariants.{Granted, Busy, TooManyLocks, NoMemory}
use Rattle.am_store_locks.specs.OwnerLocks.{OwnerLocks}
use Rattle.am_store_locks.specs.Table.{is_owner, owner_numbers, with_locks}
use Rattle.am_store_tx.specs.declared.transaction.Transaction.{Transaction}
use Rattle.am_store_tx.specs.Active.{tx_numbers, is_active_in, new_transaction}
use Rattle.am_store_tx.specs.Txs.{Txs, IsConsistent, txs_after_begin, txs_after_end}

abbrev number : Transaction → ℕ
number x = x.number

abbrev owner : OwnerLocks → ℕ
owner h = h.owner

-- the owners of locks are the active transactions
pub is_owner-is_active_in : (t : Txs) (tx : ℕ) → IsConsistent t → is_owner t.locks tx ≡ is_active_in t.active tx
is_owner-is_active_in t tx f =
    sym (has_number-map owner (λ n. n) owner (λ h. refl) t.locks tx) ∙ ap (λ ns. has_number (λ n. n) ns tx) f.owners
    ∙ has_number-map number (λ n. n) number (λ x. refl) t.active tx

pub owns : (t now : Txs) (tx : ℕ) → IsConsistent t → t ≡ now → is_active_in now.active tx ≡ true →
    is_owner t.locks tx ≡ true
owns t now tx f e a = is_owner-is_active_in t tx f ∙ (λ i. is_active_in (e i).active tx) ∙ a

-- no number is above those that were begun
not_above : (m : ℕ) (xs : List Transaction) → All (λ n. n ≤ m) (tx_numbers xs) →
    AllByRecursion (λ (x : Transaction). x.number ≤ m) xs
not_above m [] a = tt
not_above m (x ∷ xs) a = (
  All-head (λ n. n ≤ m) x.number (tx_numbers xs) a,
  not_above m xs (All-tail (λ n. n ≤ m) x.number (tx_numbers xs) a),
)

pub next-is-new : (t : Txs) → IsConsistent t → is_owner t.locks (t.begun + 1) ≡ false
next-is-new t f =
    is_owner-is_active_in t (t.begun + 1) f
    ∙ has_number-none number (t.begun + 1) t.active (AllByRecursion-map (λ (x : Transaction). x.number ≤ t.begun)
    (λ (x : Transaction). x.number ≢ t.begun + 1) (λ x low e. omega (arith, low, e)) t.active
    (not_above t.begun t.active f.begun_before))

pub IsConsistent-txs_after_begin : (t : Txs) → IsConsistent t → length t.active < 64 → t.begun < 2 ^ 63 →
    IsConsistent (txs_after_begin t)
IsConsistent-txs_after_begin t f few more =
    let all : tx_numbers (txs_after_begin t).active ≡ tx_numbers t.active ++ (t.begun + 1) ∷ [] =
    map-append (λ (x : Transaction). x.number) t.active (new_transaction (t.begun + 1) ∷ []) in
    record {
      rise = RiseBy-push number t.active (new_transaction (t.begun + 1)) f.rise
          (AllByRecursion-map (λ (x : Transaction). x.number ≤ t.begun) (λ (x : Transaction). x.number < t.begun + 1)
          (λ x low. omega (arith, low)) t.active (not_above t.begun t.active f.begun_before));
      begun_before = subst (All (λ n. n ≤ t.begun + 1)) (sym all)
          (All-push (λ n. n ≤ t.begun + 1) (tx_numbers t.active) (t.begun + 1)
          (All-weaker (λ n. n ≤ t.begun) (λ n. n ≤ t.begun + 1) (λ n h. omega (arith, h)) (tx_numbers t.active)
          f.begun_before) (omega arith));
      owners = map-append (λ (h : OwnerLocks). h.owner) t.locks (record { owner = t.begun + 1; locks = [] } ∷ []) ∙
          ap (λ ns. ns ++ (t.begun + 1) ∷ []) f.owners ∙ sym all;
      few = omega (arith, few, length-append t.active (new_transaction (t.begun + 1) ∷ []));
      begun = omega (arith, more);
      ops = All-push (λ (x : Transaction). x.ops ≤ 4096) t.active (new_transaction (t.begun + 1)) f.ops (omega arith);
    }

pub IsConsistent-txs_after_end : (t : Txs) (tx : ℕ) → IsConsistent t → IsConsistent (txs_after_end t tx)
IsConsistent-txs_after_end t tx f =
    let left : tx_numbers (txs_after_end t tx).active ≡ without_number (λ n. n) tx (tx_numbers t.active) =
    sym (without_number-map number (λ n. n) number (λ x. refl) tx t.active) in
    record {
      rise = RiseBy-filter number (λ (x : Transaction). not (x.number == tx)) t.active f.rise;
      begun_before = subst (All (λ n. n ≤ t.begun)) (sym left)
          (All-filter (λ n. not (n == tx)) (λ n. n ≤ t.begun) (tx_numbers t.active) f.begun_before);
      owners = sym (without_number-map owner (λ n. n) owner (λ h. refl) tx t.locks) ∙
          ap (without_number (λ n. n) tx) f.owners ∙ sym left;
      few = omega (arith, f.few, length-without_number number tx t.active);
      begun = f.begun;
      ops = All-filter (λ (x : Transaction). not (x.number == tx)) (λ (x : Transaction). x.ops ≤ 4096) t.active f.ops;
    }

-- a transaction is changed, found at a place
pub IsConsistent-with_changed : (t : Txs) (tx : ℕ) (f : Transaction → Transaction) (place : ℕ) (new : Transaction) →
    IsConsistent t → ((x : Transaction) → (f x).number ≡ x.number)
    → set t.active place new ≡ with_changed number f tx t.active → new.ops ≤ 4096 →
    IsConsistent (record t { active = with_changed number f tx t.active })
IsConsistent-with_changed t tx f place new consistent same written few =
    let all = numbers-with_changed number f tx same t.active in
    record {
      rise = RiseBy-with_changed number f tx same t.active consistent.rise;
      begun_before = subst (All (λ n. n ≤ t.begun)) (sym all) consistent.begun_before;
      owners = consistent.owners ∙ sym all;
      few = omega (arith, consistent.few, length-map t.active (λ (x : Transaction). cond (x.number == tx) (f x) x));
      begun = consistent.begun;
      ops = subst (All (λ (x : Transaction). x.ops ≤ 4096)) written
          (All-set (λ (x : Transaction). x.ops ≤ 4096) t.active place new few consistent.ops);
    }

-- the locks are changed, and their owners are not
pub IsConsistent-locks : (t : Txs) (locks : List OwnerLocks) → IsConsistent t →
    map (λ (h : OwnerLocks). h.owner) locks ≡ map (λ (h : OwnerLocks). h.owner) t.locks →
    IsConsistent (record t { locks = locks })
IsConsistent-locks t locks f same = record {
  rise = f.rise;
  begun_before = f.begun_before;
  owners = same ∙ f.owners;
  few = f.few;
  begun = f.begun;
  ops = f.ops;
}

-- other locks for one owner leave all owners
pub owners-with_locks : (table : List OwnerLocks) (tx : ℕ) (locks : List Lock) →
    owner_numbers (with_locks table tx locks) ≡ owner_numbers table
owners-with_locks table tx locks = numbers-with_changed owner (λ h. record h { locks = locks }) tx (λ h. refl) table

-- asking for a lock leaves the owners
pub owners-asked : (answer : Asked) (table new : List OwnerLocks) (tx : ℕ) (locks : List Lock) →
    (answer ≡ Granted → new ≡ with_locks table tx locks) → (answer ≢ Granted → new ≡ table) →
    owner_numbers new ≡ owner_numbers table
owners-asked Granted table new tx locks g r = ap owner_numbers (g refl) ∙ owners-with_locks table tx locks
owners-asked (Busy h) table new tx locks g r = ap owner_numbers (r (λ p. cc))
owners-asked TooManyLocks table new tx locks g r = ap owner_numbers (r (λ p. cc))
owners-asked NoMemory table new tx locks g r = ap owner_numbers (r (λ p. cc))

-- ---- a transaction found at its place, and written there

-- what stands at the place of the transaction tx, which any change may be written over
pub record IsAt (t now : Txs) (tx place : ℕ) (x d : Transaction) : Type 0 where
  pub same : t ≡ now
  pub in_bounds : place < length now.active
  pub value : x ≡ get_or t.active place d
  pub write : (f : Transaction → Transaction) → set now.active place (f (get_or now.active place d)) ≡ with_changed
      number f tx
      now.active

pub set-with_changed : (t now : Txs) (tx place : ℕ) (x d : Transaction) (f : Transaction → Transaction) →
    IsAt t now tx place x d → set t.active place (f x) ≡ with_changed number f tx t.active
set-with_changed t now tx place x d f at =
    (λ i. set t.active place (f (at.value i))) ∙ subst (λ (s : Txs). set s.active place (f (get_or s.active place d)) ≡
    with_changed number f tx s.active) (sym at.same) (at.write f)

pub few-ops : (t now : Txs) (tx place : ℕ) (x d : Transaction) → IsConsistent t → IsAt t now tx place x d → x.ops ≤ 4096
few-ops t now tx place x d consistent at =
    subst (λ (y : Transaction). y.ops ≤ 4096) (sym at.value)
    (consistent.ops place d (subst (λ (s : Txs). place < length s.active) (sym at.same) at.in_bounds))

pub IsConsistent-set : (t now : Txs) (tx place : ℕ) (x d : Transaction) (f : Transaction → Transaction) →
    IsConsistent t → IsAt t now tx place x d → ((y : Transaction) → (f y).number ≡ y.number) → (f x).ops ≤ 4096
    → IsConsistent (record t { active = set t.active place (f x) })
IsConsistent-set t now tx place x d f consistent at same few =
    let e = set-with_changed t now tx place x d f at in
    subst (λ xs. IsConsistent (record t { active = xs })) (sym e)
    (IsConsistent-with_changed t tx f place (f x) consistent same e few)

-- the table with the change written, as a call leaves it
pub set-is : (t now : Txs) (tx place : ℕ) (x d : Transaction) (f : Transaction → Transaction) → IsAt t now tx place x d
    → record t { active = set t.active place (f x) } ≡ record now { active = with_changed number f tx now.active }
set-is t now tx place x d f at = (λ i. record t { active = set-with_changed t now tx place x d f at i }) ∙
    (λ i. record (at.same i) { active = with_changed number f tx (at.same i).active })
