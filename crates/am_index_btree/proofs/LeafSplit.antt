-- A leaf with a new entry, cut in two.
use Rattle.std.proofs.Common.{◌≡◌, ◌≢◌, ℕ, ◌+◌, ◌-◌, ◌<◌, List, [], ◌∷◌, ◌++◌, length, get_or, take, drop, sym, ap, ◌∙◌}
use Rattle.std.proofs.Common.{subst, arith, length-drop}
use Rattle.std.proofs.lemmas.List.{take-append-drop}
use Rattle.std.proofs.lemmas.List.Edits.{length-insert}
use Rattle.std.specs.List.{insert}
use Rattle.std.specs.declared.cmp.Ordering.TheVariants.{Less}
use Rattle.std.specs.Cmp.{tied_itself}
use Rattle.am_record.specs.declared.entry.Entry.{Entry}
use Rattle.am_record.specs.EntryOrder.{Place, place_of, place_cmp, place_cmp-total}
use Rattle.am_record.proofs.Lists.{AllByRecursion-map}
use Rattle.am_record.proofs.PlaceOrder.{turned_less}
use Rattle.am_index.specs.Entries.{insert_entry, IsRising}
use Rattle.am_index.specs.Places.{AllBelow, NoneBelow, IsGapFor}
use Rattle.am_index.proofs.Lists.{rising_back, below_itself}
use Rattle.am_index.proofs.Searches.{insert_gap, rising_insert_gap}

none_below_first : (r : Entry) (rs : List Entry) → IsRising (r ∷ rs) → NoneBelow (place_of r) (r ∷ rs)
none_below_first r rs h = (
  (λ less. absurd (cc (tied_itself place_cmp-total (place_of r)))),
  AllByRecursion-map (λ f. place_cmp (place_of r) (place_of f) ≡ Less)
      (λ f. place_cmp (place_of f) (place_of r) ≢ Less)
      (λ f e less. absurd (cc (turned_less (place_of r) (place_of f) e))) rs h.0,
)

-- the first entry of the upper part parts the two
pub parted_at : (ls rs : List Entry) (p : Place) → IsRising (ls ++ rs) → 0 < length rs →
    ((d : Entry) → p ≡ place_of (get_or rs 0 d)) → AllBelow p ls × NoneBelow p rs
parted_at ls [] p h lt is = absurd (omega arith)
parted_at ls (r ∷ rs) p h lt is = (
  subst (λ (q : Place). AllBelow q ls) (sym (is r)) (below_itself ls r rs h),
  subst (λ (q : Place). NoneBelow q (r ∷ rs)) (sym (is r)) (none_below_first r rs (rising_back ls (r ∷ rs) h)),
)

module _ (xs : List Entry) (x : Entry) (i : ℕ) (gap : IsGapFor xs x.part x.key i) (rising : IsRising xs) (m : ℕ)
    (lower upper : List Entry) (front : lower ≡ take m (insert xs i x)) (back : upper ≡ drop m (insert xs i x)) where
  cut : lower ++ upper ≡ insert xs i x
  cut = (λ j. front j ++ back j) ∙ take-append-drop m (insert xs i x)

  pub joined : lower ++ upper ≡ insert_entry xs x
  joined = cut ∙ insert_gap xs x i gap

  pub rising_both : IsRising (lower ++ upper)
  rising_both = subst IsRising (sym cut) (rising_insert_gap xs x i gap rising)

  pub rising_upper : IsRising upper
  rising_upper = rising_back lower upper rising_both

  pub upper_long : length upper ≡ length xs + 1 - m
  upper_long = ap length back ∙ length-drop m (insert xs i x) ∙
      ap (λ (k : ℕ). k - m) (length-insert xs i x gap.in_range)
