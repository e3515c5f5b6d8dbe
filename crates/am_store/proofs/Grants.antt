-- What the table of locks answers, against what is due.
use Rattle.std.proofs.Common.{◌≡◌, ◌≤◌, ◌<◌, inl, inr, ℕ, [], length, true, false, not, ◌&&◌}
use Rattle.std.proofs.Common.{Option, Some, None, refl, sym, ap, ◌∙◌, subst, ⊎_elim, arith}
use Rattle.std.specs.Prelude.{nat_le}
use Rattle.std.proofs.lemmas.Bool.{cases_Bool, and_left, and_right, le-leb, lt-leb, leb-true, leb-false}
use Rattle.am_record.specs.Locks.{is_covered, with_lock}
use Rattle.am_record.specs.declared.lock.Lock.{Lock}
use Rattle.am_record.specs.declared.step.Refusal.TheVariants.{Busy, TooManyLocks, NoMemory}
use Rattle.am_record.proofs.Owners.{none_blocks}
use Rattle.am_store_locks.specs.Table.{locks_owned, with_locks, blockers}
use Rattle.am_store_locks.specs.Answers.{IsLeastOf}
use Rattle.am_store_locks.proofs.Laws.{locks_owned-with_locks, locks_owned-with_locks_other, is_owner-with_locks}
use Rattle.am_store_tx.specs.Active.{is_active_in}
use Rattle.am_store_tx.specs.Txs.{Txs, IsConsistent}
use Rattle.am_store_tx.proofs.Consistent.{is_owner-is_active_in}
use Rattle.am_record.specs.Refusals.{is_one_too_many, lock_refusal}
use Rattle.am_law_sound.specs.StoreState.{Active, blocker_in}
use Rattle.am_law_sound.specs.Tables.{TableLaws}
use Rattle.am_store.specs.StoreContent.{actives}
use Rattle.am_store.specs.Admission.{lock_refusal_for, IsLockRefusal, HasLocks, IsLockGranted}
use Rattle.am_store.proofs.Actives.{owners_of-actives, rise-actives}

-- ---- no lock is asked for

pub granted_nothing : (t : Txs) (tx : ℕ) (asked : Option Lock) → IsConsistent t → is_active_in t.active tx ≡ true →
    asked ≡ None → IsLockGranted t tx asked t
granted_nothing t tx asked ok a e = subst (λ (o : Option Lock). IsLockGranted t tx o t) (sym e) (record {
  due = ap (λ (o : Option ℕ). lock_refusal o false) (none_blocks (λ (x : Active). x.number) (λ x. x.locks) (actives t)
      tx);
  locks = record {
    begun = refl;
    active = refl;
    owner = is_owner-is_active_in t tx ok ∙ a;
    holds = refl;
    others = λ u d. refl;
  };
})

-- ---- a lock is asked for

module _ (t : Txs) (tx : ℕ) (lock : Lock) (ok : IsConsistent t) (laws : TableLaws (actives t)) where
  free : blockers t.locks tx lock ≡ [] → blocker_in (actives t) tx (Some lock) ≡ None
  free none = laws.free tx lock (ap (λ hs. blockers hs tx lock) (owners_of-actives t ok) ∙ none)

  blocked : (h : ℕ) → IsLeastOf (blockers t.locks tx lock) h → blocker_in (actives t) tx (Some lock) ≡ Some h
  blocked h least = laws.blocked tx lock h (rise-actives (locks_owned t.locks) t.active ok.rise)
      (subst (λ hs. IsLeastOf (blockers hs tx lock) h) (sym (owners_of-actives t ok)) least)

  -- the locks aren't too many where the table doesn't say so
  not_too_many : blockers t.locks tx lock ≡ [] → length (locks_owned t.locks tx) ≤ 256
      → ((blockers t.locks tx lock ≡ []) × (is_covered (locks_owned t.locks tx) lock ≡ false) ×
      (length (locks_owned t.locks tx) ≡ 256) → ⊥)
      → is_one_too_many (locks_owned t.locks tx) (Some lock) ≡ false
  not_too_many none few unless = ⊎_elim
      (λ covered. and_right (nat_le 256 (length (locks_owned t.locks tx)))
      (not (is_covered (locks_owned t.locks tx) lock)) (ap not covered))
      (λ open_. and_left (nat_le 256 (length (locks_owned t.locks tx))) (not (is_covered (locks_owned t.locks tx) lock))
      (lt-leb 256 (length (locks_owned t.locks tx)) (below open_)))
      (cases_Bool (is_covered (locks_owned t.locks tx) lock))
    where
      below : is_covered (locks_owned t.locks tx) lock ≡ false → length (locks_owned t.locks tx) < 256
      below open_ = ⊎_elim
          (λ (yes : nat_le 256 (length (locks_owned t.locks tx)) ≡ true).
          let more = leb-true 256 (length (locks_owned t.locks tx)) yes in
          absurd (unless (none, open_, omega (arith, few, more))))
          (λ (other : nat_le 256 (length (locks_owned t.locks tx)) ≡ false).
          let less = leb-false 256 (length (locks_owned t.locks tx)) other in less)
          (cases_Bool (nat_le 256 (length (locks_owned t.locks tx))))

  nothing_due : blockers t.locks tx lock ≡ [] → length (locks_owned t.locks tx) ≤ 256
      → ((blockers t.locks tx lock ≡ []) × (is_covered (locks_owned t.locks tx) lock ≡ false) ×
      (length (locks_owned t.locks tx) ≡ 256) → ⊥)
      → lock_refusal_for t tx (Some lock) ≡ None
  nothing_due none few unless = λ i. lock_refusal (free none i) (not_too_many none few unless i)

  pub granted : (asked : Option Lock) (t' : Txs) → asked ≡ Some lock → is_active_in t.active tx ≡ true →
      blockers t.locks tx lock ≡ [] → length (locks_owned t.locks tx) ≤ 256
      → ((blockers t.locks tx lock ≡ []) × (is_covered (locks_owned t.locks tx) lock ≡ false) ×
      (length (locks_owned t.locks tx) ≡ 256) → ⊥)
      → t' ≡ record t { locks = with_locks t.locks tx (with_lock (locks_owned t.locks tx) lock) } →
      IsLockGranted t tx asked t'
  granted asked t' e a none few unless new =
      let locks' = with_lock (locks_owned t.locks tx) lock in
      let owner = is_owner-is_active_in t tx ok ∙ a in
      subst (λ (o : Option Lock). IsLockGranted t tx o t') (sym e) (record {
        due = nothing_due none few unless;
        locks = subst (λ (s : Txs). HasLocks t tx locks' s) (sym new) (record {
          begun = refl;
          active = refl;
          owner = is_owner-with_locks t.locks tx locks' tx ∙ owner;
          holds = locks_owned-with_locks t.locks tx locks' owner;
          others = λ u d. locks_owned-with_locks_other t.locks tx locks' u d;
        });
      })

  pub refused_busy : (asked : Option Lock) (h : ℕ) → asked ≡ Some lock → IsLeastOf (blockers t.locks tx lock) h →
      IsLockRefusal t tx asked (Busy h)
  refused_busy asked h e least = subst (λ (o : Option Lock). IsLockRefusal t tx o (Busy h)) (sym e)
      (inl (ap (λ (o : Option ℕ). lock_refusal o (is_one_too_many (locks_owned t.locks tx) (Some lock)))
      (blocked h least)))

  pub refused_many : (asked : Option Lock) → asked ≡ Some lock → (blockers t.locks tx lock ≡ []) ×
      (is_covered (locks_owned t.locks tx) lock ≡ false) × (length (locks_owned t.locks tx) ≡ 256)
      → IsLockRefusal t tx asked TooManyLocks
  refused_many asked e many =
      let n = length (locks_owned t.locks tx) in
      let full : nat_le 256 n ≡ true = le-leb 256 n (omega (arith, many.2)) in
      subst (λ (o : Option Lock). IsLockRefusal t tx o TooManyLocks) (sym e)
      (inl (λ i. lock_refusal (free many.0 i) (full i && not (many.1 i))))

  pub refused_memory : (asked : Option Lock) → asked ≡ Some lock → blockers t.locks tx lock ≡ [] →
      length (locks_owned t.locks tx) ≤ 256
      → ((blockers t.locks tx lock ≡ []) × (is_covered (locks_owned t.locks tx) lock ≡ false) ×
      (length (locks_owned t.locks tx) ≡ 256) → ⊥)
      → (is_covered (locks_owned t.locks tx) lock ≡ false) × (8 ≤ length (locks_owned t.locks tx)) →
      IsLockRefusal t tx asked NoMemory
  refused_memory asked e none few unless wants =
      let n = length (locks_owned t.locks tx) in
      let eight : nat_le 8 n ≡ true = le-leb 8 n wants.1 in
      subst (λ (o : Option Lock). IsLockRefusal t tx o NoMemory) (sym e)
      (inr (refl, nothing_due none few unless, λ i. not (wants.0 i) && eight i))
