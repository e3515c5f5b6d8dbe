-- The locks of an owner that is the only one.
use Rattle.std.proofs.Common.{◌≡◌, ℕ, ◌+◌, ◌≤◌, List, [], ◌∷◌, ◌++◌, length, Bool, true, false, refl, ap, ◌∙◌}
use Rattle.std.proofs.Common.{◌<◌, subst, rules, arith, length-append}
use Rattle.std.specs.Prelude.{◌==◌, ◌||◌}
use Rattle.std.proofs.lemmas.Bool.{cond-true, cond_both, eq-eqb, eqb-true}
use Rattle.am_record.specs.Locks.{is_covered, with_lock}
use Rattle.am_record.specs.declared.lock.Lock.{Lock}
use Rattle.std.specs.List.{Contains}
use Rattle.am_store_locks.specs.OwnerLocks.{OwnerLocks}
use Rattle.am_store_locks.specs.Answers.{IsLeastOf}
use Rattle.am_store_locks.specs.Table.{is_owner, locks_owned, with_locks, without_owner, blockers}
use Rattle.am_audit_locks.specs.OnlyOwnerLocks.{locks_by, only_owner}

pub locks_by-push : (own asked : List Lock) (lock : Lock) → locks_by own (asked ++ lock ∷ []) ≡ with_lock
    (locks_by own asked) lock
locks_by-push own [] lock = refl
locks_by-push own (first ∷ asked) lock = locks_by-push (with_lock own first) asked lock

one_more : (own : List Lock) (lock : Lock) → length (with_lock own lock) ≤ length own + 1
one_more own lock = cond_both (is_covered own lock) own (own ++ lock ∷ []) (λ ls. length ls ≤ length own + 1)
    (λ _. omega arith) (λ _. simp length-append (omega arith))

few_from : (own asked : List Lock) → length (locks_by own asked) ≤ length own + length asked
few_from own [] = omega arith
few_from own (first ∷ asked) = omega (arith, few_from (with_lock own first) asked, one_more own first)

-- an owner has no more locks than it asked for
pub few_locks : (asked : List Lock) → length (locks_by [] asked) ≤ length asked
few_locks asked = omega (arith, few_from [] asked)

module _ (n : ℕ) (asked : List Lock) where
  pub is_there : is_owner (only_owner n asked ∷ []) n ≡ true
  is_there = ap (λ b. b || false) (eq-eqb n n refl)

  pub its_locks : locks_owned (only_owner n asked ∷ []) n ≡ locks_by [] asked
  its_locks = cond-true (n == n) (locks_by [] asked) [] (eq-eqb n n refl)

  -- nobody is in its way
  pub meets_nobody : (lock : Lock) → blockers (only_owner n asked ∷ []) n lock ≡ []
  meets_nobody lock = rw (eq-eqb n n refl) refl

  pub no_other : without_owner (only_owner n asked ∷ []) n ≡ []
  no_other = rw (eq-eqb n n refl) refl

  -- one more lock is granted
  pub one_asked : (lock : Lock) → with_locks (only_owner n asked ∷ []) n
      (with_lock (locks_owned (only_owner n asked ∷ []) n) lock) ≡ only_owner n (asked ++ lock ∷ []) ∷ []
  one_asked lock = rw (its_locks, eq-eqb n n refl, locks_by-push [] asked lock) refl

-- the only owner is this one
pub the_owner : (n t : ℕ) (asked : List Lock) → is_owner (only_owner n asked ∷ []) t ≡ true → n ≡ t
the_owner n t asked h = eqb-true n t (at (n == t) h)
  where
    at : (b : Bool) → (b || false) ≡ true → b ≡ true
    at true e = refl
    at false e = e

module _ (n : ℕ) (asked : List Lock) (lock : Lock) (table : List OwnerLocks) (is : table ≡ only_owner n asked ∷ [])
  where
    pub never_busy : (h : ℕ) → IsLeastOf (blockers table n lock) h → ⊥
    never_busy h least =
        let none : blockers table n lock ≡ [] = ap (λ t. blockers t n lock) is ∙ meets_nobody n asked lock in
        let there : Contains [] h = subst (λ numbers. Contains numbers h) none least.one_of_them in
        let no : ⊥ = search rules in no

    pub never_full : length asked < 256 → length (locks_owned table n) ≡ 256 → ⊥
    never_full few full =
        let same : length (locks_owned table n) ≡ length (locks_by [] asked) =
        ap length (ap (λ t. locks_owned t n) is ∙ its_locks n asked) in
        omega (arith, few, full, same, few_locks asked)

    pub granted_to : (new : List OwnerLocks) → new ≡ with_locks table n (with_lock (locks_owned table n) lock) →
        new ≡ only_owner n (asked ++ lock ∷ []) ∷ []
    granted_to new e =
        e ∙ ap (λ t. with_locks t n (with_lock (locks_owned t n) lock)) is ∙ one_asked n asked lock
