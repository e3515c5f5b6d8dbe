-- The order of entries: by partition, then by key.
use Rattle.std.specs.Prelude.{◌≡◌, ◌≢◌, ℕ, ◌<◌, ◌≤◌}
use Rattle.std.proofs.Common.{refl, arith}
use Rattle.std.specs.declared.cmp.Ordering.{Ordering}
use Rattle.std.specs.declared.cmp.Ordering.TheVariants.{Less, Equal, Greater}
use Rattle.std.specs.Ordering.{nat_cmp, ordering_then, MatchOrdering}
use Rattle.std.specs.Cmp.{IsTotalOrder, nat_cmp_total, on_total, then_total, ranks}
use Rattle.std.specs.FinMap.{IsAntisymmetric}
use Rattle.am_record.specs.OrderedKey.{OrderedKey, key_cmp, key_cmp-total, key_cmp-exact}
use Rattle.am_record.specs.declared.entry.Entry.{Entry}

-- a partition and a key
abbrev pub Place : Type 0
Place = ℕ × OrderedKey

abbrev pub place_of : Entry → Place
place_of e = (e.part, e.key)

-- by partition, then by key. It is opened in this file alone
unfoldable pub place_cmp : Place → Place → Ordering
place_cmp a b = ordering_then (nat_cmp a.0 b.0) (key_cmp a.1 b.1)

pub place_cmp-total : IsTotalOrder place_cmp
unfolding place_cmp
place_cmp-total = then_total (on_total (λ p. p.0) nat_cmp_total) (on_total (λ p. p.1) key_cmp-total)

-- a first comparison that does not answer `Greater` of two numbers
first_le : (x y : ℕ) (r s : Ordering) → MatchOrdering r (x < y) (x ≡ y) (y < x) → ordering_then r s ≢ Greater → x ≤ y
first_le x y Less s m h = omega (arith, m)
first_le x y Equal s m h = omega (arith, m)
first_le x y Greater s m h = absurd (h refl)

-- what is not above stands in no greater partition
pub place_cmp-part : (a b : Place) → place_cmp a b ≢ Greater → a.0 ≤ b.0
unfolding place_cmp
place_cmp-part a b h = first_le a.0 b.0 (nat_cmp a.0 b.0) (key_cmp a.1 b.1) (ranks a.0 b.0) h

both_equal : (x y : ℕ) (r s : Ordering) → MatchOrdering r (x < y) (x ≡ y) (y < x) → ordering_then r s ≡ Equal →
    (x ≡ y) × (s ≡ Equal)
both_equal x y Less s m e = cc
both_equal x y Equal s m e = (m, e)
both_equal x y Greater s m e = cc

-- places that compare as equal have one partition and one key
pub place_cmp-equal : (a b : Place) → place_cmp a b ≡ Equal → (a.0 ≡ b.0) × (a.1 ≡ b.1)
unfolding place_cmp
place_cmp-equal a b e = let both = both_equal a.0 b.0 (nat_cmp a.0 b.0) (key_cmp a.1 b.1) (ranks a.0 b.0) e in
    (both.0, key_cmp-exact a.1 b.1 both.1)

-- places that compare as equal are one place
pub place_cmp-exact : IsAntisymmetric place_cmp
place_cmp-exact a b e = let both = place_cmp-equal a b e in λ i. (both.0 i, both.1 i)

same_number : (x : ℕ) (r s : Ordering) → MatchOrdering r (x < x) (x ≡ x) (x < x) → ordering_then r s ≡ s
same_number x Less s m = absurd (omega (arith, m))
same_number x Equal s m = refl
same_number x Greater s m = absurd (omega (arith, m))

-- within a partition the keys decide
pub place_cmp-same : (n : ℕ) (k l : OrderedKey) → place_cmp (n, k) (n, l) ≡ key_cmp k l
unfolding place_cmp
place_cmp-same n k l = same_number n (nat_cmp n n) (key_cmp k l) (ranks n n)
