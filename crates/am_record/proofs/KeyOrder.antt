-- Keys at or below one another.
use Rattle.std.proofs.Common.{◌≡◌, ◌⊎◌, inl, inr, Bool, true, refl, sym, ap, ◌∙◌}
use Rattle.std.proofs.lemmas.Bool.{false≢true, and_parts, and_from}
use Rattle.std.specs.declared.cmp.Ordering.{Ordering}
use Rattle.std.specs.declared.cmp.Ordering.TheVariants.{Less, Equal, Greater}
use Rattle.std.specs.Ordering.{is_le, ordering_reverse}
use Rattle.am_record.specs.OrderedKey.{OrderedKey, key_cmp, key_cmp-total, key_cmp-exact}
use Rattle.am_record.specs.Interval.{Interval, key_le, within, encloses}

pub key_le_trans : (a b c : OrderedKey) → key_le a b ≡ true → key_le b c ≡ true → key_le a c ≡ true
key_le_trans a b c h k = first (key_cmp a b) refl h
  where
    second : (o : Ordering) → key_cmp b c ≡ o → is_le o ≡ true → key_cmp a b ≡ Less → key_le a c ≡ true
    second Less below _ less = ap is_le (key_cmp-total.trans a b c less below)
    second Equal same _ less = ap is_le (ap (key_cmp a) (sym (key_cmp-exact b c same)) ∙ less)
    second Greater above le less = absurd (false≢true le)

    first : (o : Ordering) → key_cmp a b ≡ o → is_le o ≡ true → key_le a c ≡ true
    first Less below _ = second (key_cmp b c) refl k below
    first Equal same _ = ap (λ x. key_le x c) (key_cmp-exact a b same) ∙ k
    first Greater above le = absurd (false≢true le)

pub key_le_total : (a b : OrderedKey) → (key_le a b ≡ true) ⊎ (key_le b a ≡ true)
key_le_total a b = by_order (key_cmp a b) refl
  where
    by_order : (o : Ordering) → key_cmp a b ≡ o → (key_le a b ≡ true) ⊎ (key_le b a ≡ true)
    by_order Less h = inl (ap is_le h)
    by_order Equal h = inl (ap is_le h)
    by_order Greater h = inr (ap is_le (key_cmp-total.antisymm b a ∙ ap ordering_reverse h))

-- keys that tie are one
pub ties_alike : (test : OrderedKey → Bool) (q x : OrderedKey) → key_cmp q x ≡ Equal → test x ≡ test q
ties_alike test q x e = ap test (sym (key_cmp-exact q x e))

-- ---- ranges

pub in_ends : (range : Interval) (key : OrderedKey) → key_le range.lo key ≡ true → key_le key range.hi ≡ true →
    within range key ≡ true
in_ends range key from to = and_from (key_le range.lo key) (key_le key range.hi) from to

-- a key in the inner range is one in the outer
pub encloses_key : (outer inner : Interval) (key : OrderedKey) → encloses outer inner ≡ true → within inner key ≡ true →
    within outer key ≡ true
encloses_key outer inner key holds there =
    let ends = and_parts (key_le outer.lo inner.lo) (key_le inner.hi outer.hi) holds in
    let ordered = and_parts (key_le inner.lo key) (key_le key inner.hi) there in
    in_ends outer key (key_le_trans outer.lo inner.lo key ends.0 ordered.0)
    (key_le_trans key inner.hi outer.hi ordered.1 ends.1)
