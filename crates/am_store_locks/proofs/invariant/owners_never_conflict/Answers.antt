use Rattle.std.proofs.Common.{◌≡◌, ◌≢◌, ℕ, List, [], ◌∷◌, Bool, true, false, cond, ◌==◌, All, refl, sym, ◌∙◌}
use Rattle.std.proofs.lemmas.Bool.{eqb-true}
use Rattle.std.proofs.lemmas.List.Elements.{All-nil, All-contains}
use Rattle.am_record.specs.Locks.{conflicts}
use Rattle.am_record.specs.declared.lock.Lock.{Lock}
use Rattle.am_store_locks.specs.OwnerLocks.{OwnerLocks, NoConflicts}
use Rattle.am_store_locks.specs.Table.{locks_owned, AreAllApart}
use Rattle.am_store_locks.proofs.Conflicts.{NoConflicts-comm}
use Rattle.am_store_locks.proofs.invariant.owners_never_conflict.Goals as goal
use Rattle.am_store_locks.proofs.Apart.{spares_none}

-- no lock conflicts with one of nothing
none : (locks : List Lock) → NoConflicts locks []
none locks = λ k d b. All-nil _

apart : (table : List OwnerLocks) → AreAllApart table → (t u : ℕ) → t ≢ u →
    NoConflicts (locks_owned table t) (locks_owned table u)
apart [] a t u other = none []
apart (h ∷ table) a t u other = by_owner (h.owner == t) (h.owner == u) refl refl (apart table a.1 t u other)
  where
    by_owner : (b c : Bool) → (h.owner == t) ≡ b → (h.owner == u) ≡ c →
        NoConflicts (locks_owned table t) (locks_owned table u) → NoConflicts (cond b h.locks (locks_owned table t))
        (cond c h.locks (locks_owned table u))
    by_owner true true e f later = absurd (other (sym (eqb-true _ _ e) ∙ eqb-true _ _ f))
    by_owner true false e f later = spares_none h table u a.0
    by_owner false true e f later = NoConflicts-comm h.locks (locks_owned table t) (spares_none h table t a.0)
    by_owner false false e f later = later

pub returns : goal.returns
returns c = λ table a t u other l m there here.
    All-contains (λ y. conflicts l y ≡ false) (locks_owned table u) m
    (All-contains (λ x. All (λ y. conflicts x y ≡ false) (locks_owned table u)) (locks_owned table t) l
    (apart table a t u other) there) here
