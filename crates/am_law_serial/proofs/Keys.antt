-- Keys in order, points and spans.
use Rattle.std.proofs.Common.{◌≡◌, ℕ, List, [], ◌∷◌, true, false, sym, subst, ⊎_elim}
use Rattle.std.specs.Ordering.{is_lt, eq_by_cmp}
use Rattle.std.specs.FinMap.{is_sorted}
use Rattle.std.specs.FinMap.Entries.{below_all}
use Rattle.std.proofs.lemmas.Bool.{false≢true, both_ways, and_parts, and_from, or_cases, or_left, false_from_ne_true}
use Rattle.am_record.specs.OrderedKey.{OrderedKey, key_cmp, key_eq-exact}
use Rattle.am_record.specs.Interval.{key_le, within, point, key_le-itself}
use Rattle.am_record.specs.Records.{Records}
use Rattle.am_record.specs.Plain.{is_key_of, is_rising}
use Rattle.am_record.specs.Asks.{last_key, span}
use Rattle.am_record.proofs.Orderings.{lt_le}
use Rattle.am_record.proofs.KeyOrder.{key_le_trans}
use Rattle.am_record.proofs.FirstRows.{key_eq-itself}

-- what is outside a point is another key
pub not_in_point : (q k : OrderedKey) → within (point k) q ≡ false → eq_by_cmp key_cmp q k ≡ false
not_in_point q k h = false_from_ne_true (eq_by_cmp key_cmp q k) (λ e.
    both_ways (within (point k) q) h
    (and_from (key_le k q) (key_le q k) (subst (λ x. key_le k x ≡ true) (sym (key_eq-exact q k e)) (key_le-itself k))
    (subst (λ x. key_le x k ≡ true) (sym (key_eq-exact q k e)) (key_le-itself k))))

pub in_point : (k : OrderedKey) → within (point k) k ≡ true
in_point k = and_from (key_le k k) (key_le k k) (key_le-itself k) (key_le-itself k)

from_below : (x q : OrderedKey) (ps : Records) → below_all key_cmp x ps ≡ true → is_key_of ps q ≡ true →
    key_le x q ≡ true
from_below x q [] b h = absurd (false≢true h)
from_below x q (e ∷ es) b h =
    let parts = and_parts (is_lt (key_cmp x e.0)) (below_all key_cmp x es) b in
    ⊎_elim
    (λ here. subst (λ y. key_le x y ≡ true) (sym (key_eq-exact q e.0 here)) (lt_le (key_cmp x e.0) parts.0))
    (λ later. from_below x q es parts.1 later)
    (or_cases (eq_by_cmp key_cmp q e.0) (is_key_of es q) h)

up_to_last : (q : OrderedKey) (p : OrderedKey × List ℕ) (ps : Records) → is_sorted key_cmp (p ∷ ps) ≡ true →
    is_key_of (p ∷ ps) q ≡ true → key_le q (last_key p.0 ps) ≡ true
up_to_last q p [] s h =
    ⊎_elim
    (λ here. subst (λ y. key_le y p.0 ≡ true) (sym (key_eq-exact q p.0 here)) (key_le-itself p.0))
    (λ later. absurd (false≢true later))
    (or_cases (eq_by_cmp key_cmp q p.0) false h)
up_to_last q p (e ∷ es) s h =
    let parts = and_parts (below_all key_cmp p.0 (e ∷ es)) (is_sorted key_cmp (e ∷ es)) s in
    ⊎_elim
    (λ here. subst (λ y. key_le y (last_key e.0 es) ≡ true) (sym (key_eq-exact q p.0 here))
    (key_le_trans p.0 e.0 (last_key e.0 es)
    (lt_le (key_cmp p.0 e.0) (and_parts (is_lt (key_cmp p.0 e.0)) (below_all key_cmp p.0 es) parts.0).0)
    (up_to_last e.0 e es parts.1 (or_left (eq_by_cmp key_cmp e.0 e.0) (is_key_of es e.0) (key_eq-itself e.0)))))
    (λ later. up_to_last q e es parts.1 later)
    (or_cases (eq_by_cmp key_cmp q p.0) (is_key_of (e ∷ es) q) h)

from_first : (q : OrderedKey) (p : OrderedKey × List ℕ) (ps : Records) → is_sorted key_cmp (p ∷ ps) ≡ true →
    is_key_of (p ∷ ps) q ≡ true → key_le p.0 q ≡ true
from_first q p ps s h =
    let parts = and_parts (below_all key_cmp p.0 ps) (is_sorted key_cmp ps) s in
    ⊎_elim
    (λ here. subst (λ y. key_le p.0 y ≡ true) (sym (key_eq-exact q p.0 here)) (key_le-itself p.0))
    (λ later. from_below p.0 q ps parts.0 later)
    (or_cases (eq_by_cmp key_cmp q p.0) (is_key_of ps q) h)

-- the keys of rising records lie from the first to the last
pub in_span : (records : Records) (q : OrderedKey) → is_rising records ≡ true → is_key_of records q ≡ true →
    within (span records) q ≡ true
in_span [] q s h = absurd (false≢true h)
in_span (p ∷ ps) q s h = and_from (key_le p.0 q) (key_le q (last_key p.0 ps)) (from_first q p ps s h)
    (up_to_last q p ps s h)
