-- What tests of an ordering say of it.
use Rattle.std.proofs.Common.{◌≡◌, ◌≢◌, true, false, refl}
use Rattle.std.proofs.lemmas.Bool.{true≢false, false≢true}
use Rattle.std.specs.declared.cmp.Ordering.{Ordering}
use Rattle.std.specs.declared.cmp.Ordering.TheVariants.{Less, Equal, Greater}
use Rattle.std.specs.Ordering.{is_eq, is_lt, is_gt, is_le, is_ge, ordering_reverse}

pub is_less : (o : Ordering) → is_lt o ≡ true → o ≡ Less
is_less Less h = refl
is_less Equal h = absurd (false≢true h)
is_less Greater h = absurd (false≢true h)

pub is_equal : (o : Ordering) → is_eq o ≡ true → o ≡ Equal
is_equal Less h = absurd (false≢true h)
is_equal Equal h = refl
is_equal Greater h = absurd (false≢true h)

pub is_greater : (o : Ordering) → is_gt o ≡ true → o ≡ Greater
is_greater Less h = absurd (false≢true h)
is_greater Equal h = absurd (false≢true h)
is_greater Greater h = refl

pub less_or_greater : (o : Ordering) → o ≡ Less → o ≡ Greater → ⊥
less_or_greater o less greater = cc

-- ---- one test from another

pub lt_le : (o : Ordering) → is_lt o ≡ true → is_le o ≡ true
lt_le Less h = refl
lt_le Equal h = refl
lt_le Greater h = absurd (false≢true h)

pub lt_not_eq : (o : Ordering) → is_lt o ≡ true → is_eq o ≡ false
lt_not_eq Less h = refl
lt_not_eq Equal h = absurd (false≢true h)
lt_not_eq Greater h = refl

pub le_not_gt : (o : Ordering) → is_le o ≡ true → is_gt o ≡ false
le_not_gt Less h = refl
le_not_gt Equal h = refl
le_not_gt Greater h = absurd (false≢true h)

pub not_gt_le : (o : Ordering) → is_gt o ≡ false → is_le o ≡ true
not_gt_le Less h = refl
not_gt_le Equal h = refl
not_gt_le Greater h = absurd (true≢false h)

pub le_not_greater : (o : Ordering) → is_le o ≡ true → o ≢ Greater
le_not_greater Less h e = absurd (cc)
le_not_greater Equal h e = absurd (cc)
le_not_greater Greater h e = false≢true h

pub not_greater_le : (o : Ordering) → o ≢ Greater → is_le o ≡ true
not_greater_le Less n = refl
not_greater_le Equal n = refl
not_greater_le Greater n = absurd (n refl)

-- ---- the other way round

pub ge_reversed : (o : Ordering) → is_ge (ordering_reverse o) ≡ is_le o
ge_reversed Less = refl
ge_reversed Equal = refl
ge_reversed Greater = refl

pub gt_reversed : (o : Ordering) → is_gt (ordering_reverse o) ≡ is_lt o
gt_reversed Less = refl
gt_reversed Equal = refl
gt_reversed Greater = refl

pub not_lt_le_back : (o : Ordering) → is_lt o ≡ false → is_le (ordering_reverse o) ≡ true
not_lt_le_back Less h = absurd (true≢false h)
not_lt_le_back Equal h = refl
not_lt_le_back Greater h = refl
