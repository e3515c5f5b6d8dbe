-- What the order of places says of three places.
use Rattle.std.proofs.Common.{◌≡◌, ◌≢◌, ◌<◌, ◌≤◌, refl, sym, ap, ◌∙◌, arith}
use Rattle.std.specs.declared.cmp.Ordering.{Ordering}
use Rattle.std.specs.declared.cmp.Ordering.TheVariants.{Less, Equal, Greater}
use Rattle.std.specs.Ordering.{ordering_reverse, ordering_index}
use Rattle.std.specs.Cmp.{alike_right}
use Rattle.am_record.specs.EntryOrder.{Place, place_cmp, place_cmp-total, place_cmp-part, place_cmp-equal}
use Rattle.am_record.proofs.Orderings.{less_or_greater}

-- the other way round
pub turned_less : (a b : Place) → place_cmp a b ≡ Less → place_cmp b a ≡ Greater
turned_less a b h = place_cmp-total.antisymm b a ∙ ap ordering_reverse h

pub turned_greater : (a b : Place) → place_cmp a b ≡ Greater → place_cmp b a ≡ Less
turned_greater a b h = place_cmp-total.antisymm b a ∙ ap ordering_reverse h

-- a is below b, and b is p
pub below_same : (a b p : Place) → place_cmp a b ≡ Less → place_cmp b p ≡ Equal → place_cmp a p ≡ Less
below_same a b p h e = sym (alike_right place_cmp-total b p a e) ∙ h

above_at : (a b p : Place) (o : Ordering) → place_cmp a p ≡ o → o ≢ Less → place_cmp a b ≡ Less →
    place_cmp b p ≡ Greater
above_at a b p Less e n h = absurd (n refl)
above_at a b p Equal e n h = turned_less p b (sym (place_cmp-total.congr a p b e) ∙ h)
above_at a b p Greater e n h = turned_less p b (place_cmp-total.trans p a b (turned_greater a p e) h)

-- a is not below p, so what is above a is above p
pub above_from : (a b p : Place) → place_cmp a p ≢ Less → place_cmp a b ≡ Less → place_cmp b p ≡ Greater
above_from a b p n h = above_at a b p (place_cmp a p) refl n h

ranks_at : (a b p : Place) (o : Ordering) → place_cmp b p ≡ o → place_cmp a b ≡ Less →
    ordering_index (place_cmp a p) ≤ ordering_index o
ranks_at a b p Less e h = omega (arith, ap ordering_index (place_cmp-total.trans a b p h e))
ranks_at a b p Equal e h = omega (arith, ap ordering_index (below_same a b p h e))
ranks_at a b p Greater e h = at_most_two (place_cmp a p)
  where
    at_most_two : (o : Ordering) → ordering_index o ≤ 2
    at_most_two Less = omega arith
    at_most_two Equal = omega arith
    at_most_two Greater = omega arith

-- along a rising list the comparisons with p rise
pub ranks_rise : (a b p : Place) → place_cmp a b ≡ Less → ordering_index (place_cmp a p) ≤ ordering_index
    (place_cmp b p)
ranks_rise a b p h = ranks_at a b p (place_cmp b p) refl h

-- what stands in a smaller partition is below
pub lower_part : (a b : Place) → a.0 < b.0 → place_cmp a b ≡ Less
lower_part a b lt = by_order (place_cmp a b) refl
  where
    by_order : (o : Ordering) → place_cmp a b ≡ o → place_cmp a b ≡ Less
    by_order Less h = h
    by_order Equal h = let same = (place_cmp-equal a b h).0 in absurd (omega (arith, same))
    by_order Greater h =
        let back : b.0 ≤ a.0 = place_cmp-part b a (λ greater. less_or_greater (place_cmp b a) (turned_greater a b h)
        greater) in
        absurd (omega arith)
