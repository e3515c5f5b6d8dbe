use Rattle.std.proofs.Common.{◌≡◌, true, ⊎_elim}
use Rattle.std.proofs.lemmas.Bool.{and_parts, and_from}
use Rattle.am_record.specs.OrderedKey.{OrderedKey}
use Rattle.am_record.specs.Interval.{Interval, IsOrdered, key_le, key_le-itself, within, meets, encloses}
use Rattle.am_record.proofs.KeyOrder.{key_le_trans, key_le_total, in_ends}
use Rattle.am_record.proofs.laws.ranges_are_sets_of_keys.Goals as goal

inside : (r : Interval) (key : OrderedKey) → within r key ≡ true → (key_le r.lo key ≡ true) × (key_le key r.hi ≡ true)
inside r key h = and_parts (key_le r.lo key) (key_le key r.hi) h

-- the greater of the low ends is in both
common : (a b : Interval) → IsOrdered a → IsOrdered b → meets a b ≡ true → (key : OrderedKey) × (within a key ≡ true) ×
    (within b key ≡ true)
common a b p q h =
    let m = and_parts (key_le a.lo b.hi) (key_le b.lo a.hi) h in
    ⊎_elim
    (λ le. (b.lo, in_ends a b.lo le m.1, in_ends b b.lo (key_le-itself b.lo) q))
    (λ le. (a.lo, in_ends a a.lo (key_le-itself a.lo) p, in_ends b a.lo le m.0))
    (key_le_total a.lo b.lo)

meet_there : (a b : Interval) → (key : OrderedKey) × (within a key ≡ true) × (within b key ≡ true) → meets a b ≡ true
meet_there a b k =
    let s = inside a k.0 k.1 in
    let t = inside b k.0 k.2 in
    and_from (key_le a.lo b.hi) (key_le b.lo a.hi) (key_le_trans a.lo k.0 b.hi s.0 t.1)
    (key_le_trans b.lo k.0 a.hi t.0 s.1)

all_inside : (outer inner : Interval) → encloses outer inner ≡ true → (key : OrderedKey) → within inner key ≡ true →
    within outer key ≡ true
all_inside outer inner h key k =
    let e = and_parts (key_le outer.lo inner.lo) (key_le inner.hi outer.hi) h in
    let s = inside inner key k in
    in_ends outer key (key_le_trans outer.lo inner.lo key e.0 s.0) (key_le_trans key inner.hi outer.hi s.1 e.1)

enclosed : (outer inner : Interval) → IsOrdered inner →
    ((key : OrderedKey) → within inner key ≡ true → within outer key ≡ true) → encloses outer inner ≡ true
enclosed outer inner p h =
    let low = inside outer inner.lo (h inner.lo (in_ends inner inner.lo (key_le-itself inner.lo) p)) in
    let high = inside outer inner.hi (h inner.hi (in_ends inner inner.hi p (key_le-itself inner.hi))) in
    and_from (key_le outer.lo inner.lo) (key_le inner.hi outer.hi) low.0 high.1

pub returns-clause-meet : goal.returns-clause-meet
returns-clause-meet c = λ a b p q. (common a b p q, meet_there a b)

pub returns-clause-enclose : goal.returns-clause-enclose
returns-clause-enclose c = λ outer inner p. (all_inside outer inner, enclosed outer inner p)
