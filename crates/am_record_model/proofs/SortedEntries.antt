-- Entries whose keys rise, as a finite map.
use Rattle.std.proofs.Common.{◌≡◌, true, List, [], ◌∷◌, T, refl, sym, ap, ◌∙◌, subst}
use Rattle.std.proofs.lemmas.Bool.{and_from}
use Rattle.std.specs.declared.cmp.Ordering.TheVariants.{Less}
use Rattle.std.specs.Ordering.{is_lt}
use Rattle.std.specs.List.{AllByRecursion}
use Rattle.std.specs.List.Sorted.{IsStrictlySortedBy}
use Rattle.std.specs.Map.{keys_of}
use Rattle.std.specs.FinMap.{entries, from_entries, from_sorted, get-from_entries, get-from_sorted, entries-from_sorted}
use Rattle.std.specs.FinMap.{same_map, is_sorted}
use Rattle.std.specs.FinMap.Entries.{below_all}
use Rattle.am_record.specs.OrderedKey.{OrderedKey, key_cmp, key_cmp-total, key_cmp-exact}

module _ {X : Type 0} where
  below : (k : OrderedKey) (es : List (OrderedKey × X)) → AllByRecursion (λ q. key_cmp k q ≡ Less) (keys_of es) →
      below_all key_cmp k es ≡ true
  below k [] h = refl
  below k (e ∷ es) h = and_from (is_lt (key_cmp k e.0)) (below_all key_cmp k es) (ap is_lt h.0) (below k es h.1)

  pub rising : (es : List (OrderedKey × X)) → IsStrictlySortedBy key_cmp (keys_of es) → is_sorted key_cmp es ≡ true
  unfolding IsStrictlySortedBy
  rising [] h = refl
  rising (e ∷ es) h = and_from (below_all key_cmp e.0 es) (is_sorted key_cmp es) (below e.0 es h.0) (rising es h.1)

  -- the entries of the map are the list itself
  pub entries_stay : (es : List (OrderedKey × X)) → is_sorted key_cmp es ≡ true →
      entries (from_entries {R = key_cmp} es) ≡ es
  entries_stay es h =
      let sorted : T (is_sorted key_cmp es) = subst (λ b. T b) (sym h) tt in
      ap entries (same_map key_cmp-total key_cmp-exact (from_entries es) (from_sorted es)
      (λ q. get-from_entries key_cmp-total es q ∙ sym (get-from_sorted key_cmp es q sorted)))
      ∙ entries-from_sorted key_cmp es sorted
