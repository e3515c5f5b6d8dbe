-- Where the entries end that are not above a place, and where those begin that are not below it.
use Rattle.std.proofs.Common.{◌≡◌, ◌≢◌, ◌<◌, ℕ, zero, suc, ◌+◌, List, [], ◌∷◌, true, length, get_or, sym, subst, arith}
use Rattle.std.proofs.lemmas.List.{take_all, drop_all}
use Rattle.std.proofs.lemmas.Bool.{true≢false}
use Rattle.std.specs.declared.cmp.Ordering.{Ordering}
use Rattle.std.specs.declared.cmp.Ordering.TheVariants.{Less, Equal, Greater}
use Rattle.std.specs.Ordering.{is_le, is_ge}
use Rattle.am_record.specs.OrderedKey.{OrderedKey}
use Rattle.am_record.specs.EntryOrder.{Place, place_of, place_cmp, place_cmp-total}
use Rattle.am_record.specs.declared.entry.Entry.{Entry}
use Rattle.am_record.proofs.Lists.{AllByRecursion-map, AllByRecursion-at}
use Rattle.am_record.proofs.Orderings.{le_not_greater, less_or_greater}
use Rattle.am_index.specs.Entries.{IsRising}
use Rattle.am_index.specs.Places.{NoneAbove, AllAbove, IsLowerBound, IsUpperBound}
use Rattle.am_index_btree.proofs.Children.{below_through}

-- where the last entry is not above the place, none is
none_above : (p : Place) (es : List Entry) → IsRising es → (i : ℕ) → i + 1 ≡ length es →
    ((d : Entry) → is_le (place_cmp (place_of (get_or es i d)) p) ≡ true) → NoneAbove p es
none_above p [] rising i long last = tt
none_above p (e ∷ []) rising zero long last = (le_not_greater (place_cmp (place_of e) p) (last e), tt)
none_above p (e ∷ f ∷ es) rising zero long last = absurd (omega (arith, long))
none_above p (e ∷ es) rising (suc i) long last =
    let less : place_cmp (place_of e) p ≡ Less = below_through (place_of e) (place_of (get_or es i e)) p
    (AllByRecursion-at (λ f. place_cmp (place_of e) (place_of f) ≡ Less) es i e rising.0 (omega (arith, long)))
    (le_not_greater (place_cmp (place_of (get_or es i e)) p) (last e)) in
    (less_or_greater (place_cmp (place_of e) p) less, none_above p es rising.1 i (omega (arith, long)) last)

pub ends_at_last : (es : List Entry) (part : ℕ) (key : OrderedKey) (n i : ℕ) → IsRising es → n ≡ length es →
    i + 1 ≡ n → ((d : Entry) → is_le (place_cmp (place_of (get_or es i d)) (part, key)) ≡ true) →
    IsUpperBound es part key n
ends_at_last es part key n i rising whole next last = record {
  in_range = omega (arith, whole);
  others = subst (NoneAbove (part, key)) (sym (take_all n es (omega (arith, whole))))
      (none_above (part, key) es rising i (omega (arith, whole, next)) last);
  above = subst (AllAbove (part, key)) (sym (drop_all n es (omega (arith, whole)))) tt;
}

-- where the first entry is not below the place, none is
pub starts_at_first : (es : List Entry) (part : ℕ) (key : OrderedKey) → IsRising es → 0 < length es →
    ((d : Entry) → is_ge (place_cmp (place_of (get_or es 0 d)) (part, key)) ≡ true) → IsLowerBound es part key 0
starts_at_first [] part key rising some first = absurd (omega arith)
starts_at_first (e ∷ es) part key rising some first = record {
  in_range = omega arith;
  below = tt;
  others = (
    ge_not_less (place_cmp (place_of e) (part, key)) (first e),
    AllByRecursion-map
        (λ f. place_cmp (place_of e) (place_of f) ≡ Less) (λ f. place_cmp (place_of f) (part, key) ≢ Less)
        (λ f up less. ge_not_less (place_cmp (place_of e) (part, key)) (first e)
        (place_cmp-total.trans (place_of e) (place_of f) (part, key) up less)) es rising.0,
  );
}
  where
    ge_not_less : (o : Ordering) → is_ge o ≡ true → o ≢ Less
    ge_not_less Less h e = absurd (true≢false (sym h))
    ge_not_less Equal h e = absurd (cc (e))
    ge_not_less Greater h e = absurd (cc (e))
