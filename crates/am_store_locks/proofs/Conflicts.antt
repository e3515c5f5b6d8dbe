-- When locks conflict: the order of the two doesn't matter, and two exclusive locks on one key do.
use Rattle.std.proofs.Common.{◌≡◌, List, Bool, true, false, not, ◌&&◌, refl, ap, ◌∙◌}
use Rattle.am_record.specs.OrderedKey.{OrderedKey}
use Rattle.am_record.specs.Interval.{key_le, within}
use Rattle.am_record.proofs.KeyOrder.{key_le_trans}
use Rattle.am_record.specs.Locks.{conflicts, is_exclusive, are_compatible}
use Rattle.am_record.specs.declared.lock.Mode.{Mode}
use Rattle.am_record.specs.declared.lock.Mode.TheVariants.{Shared, Exclusive}
use Rattle.am_record.specs.declared.lock.Lock.{Lock}
use Rattle.am_store_locks.specs.OwnerLocks.{NoConflicts}

are_compatible-comm : (a b : Mode) → are_compatible a b ≡ are_compatible b a
are_compatible-comm Shared Shared = refl
are_compatible-comm Shared Exclusive = refl
are_compatible-comm Exclusive Shared = refl
are_compatible-comm Exclusive Exclusive = refl

swapped : (x y c d : Bool) → c ≡ d → ((x && y) && not c) ≡ ((y && x) && not d)
swapped true true c d e = ap not e
swapped true false c d e = refl
swapped false true c d e = refl
swapped false false c d e = refl

pub conflicts-comm : (a b : Lock) → conflicts a b ≡ conflicts b a
conflicts-comm a b = swapped (key_le a.range.lo b.range.hi) (key_le b.range.lo a.range.hi) _ _
    (are_compatible-comm a.mode b.mode)

pub NoConflicts-comm : (ls ms : List Lock) → NoConflicts ls ms → NoConflicts ms ls
NoConflicts-comm ls ms h = λ k d b j e c. conflicts-comm _ _ ∙ h j e c k d b

both : (x y : Bool) → (x && y) ≡ true → (x ≡ true) × (y ≡ true)
both true y e = (refl, e)
both false y e = cc

clash : (m n : Mode) (x y : Bool) → is_exclusive m ≡ true → is_exclusive n ≡ true → x ≡ true → y ≡ true →
    ((x && y) && not (are_compatible m n)) ≡ true
clash Exclusive Exclusive true true p q r s = refl
clash m n x y p q r s = cc

-- two exclusive locks on one key conflict
pub exclusive-conflicts : (a b : Lock) (k : OrderedKey) → (is_exclusive a.mode && within a.range k) ≡ true →
    (is_exclusive b.mode && within b.range k) ≡ true → conflicts a b ≡ true
exclusive-conflicts a b k p q =
    let here = both _ _ p in
    let there = both _ _ q in
    let inside = both _ _ here.1 in
    let other = both _ _ there.1 in
    clash a.mode b.mode _ _ here.0 there.0 (key_le_trans _ _ _ inside.0 other.1) (key_le_trans _ _ _ other.0 inside.1)
