-- Where a place stands among the children of a node.
use Rattle.std.proofs.Common.{◌≡◌, ◌≢◌, ℕ, Bool, true, false, List, [], ◌∷◌, ◌++◌}
use Rattle.std.proofs.Common.{Some, None, refl, sym, ◌∙◌, if◌then◌else◌, arith}
use Rattle.std.specs.declared.cmp.Ordering.{Ordering}
use Rattle.std.specs.declared.cmp.Ordering.TheVariants.{Less, Equal, Greater}
use Rattle.std.specs.Ordering.{is_eq}
use Rattle.std.specs.List.{AllByRecursion}
use Rattle.std.specs.Cmp.{alike_right}
use Rattle.am_record.specs.OrderedKey.{OrderedKey}
use Rattle.am_record.specs.declared.entry.Entry.{Entry}
use Rattle.am_record.specs.EntryOrder.{Place, place_of, place_cmp, place_cmp-total}
use Rattle.am_record.proofs.Lists.{AllByRecursion-map, AllByRecursion-append}
use Rattle.am_record.proofs.PlaceOrder.{turned_less, turned_greater}
use Rattle.am_index.specs.Entries.{entry_at, first_such}
use Rattle.am_index.specs.Places.{AllBelow, NoneBelow, AllAbove}
use Rattle.am_index.proofs.Lists.{entry_at_none}
use Rattle.am_index_btree.specs.declared.separator.Separator.{Separator}
use Rattle.am_index_btree.specs.Shape.{Shape}
use Rattle.am_index_btree.specs.Separators.{separator_place}
use Rattle.am_index_btree.specs.Nodes.{all_entries, AreParted}

below_by : (a b p : Place) (o : Ordering) → place_cmp b p ≡ o → o ≢ Greater → place_cmp a b ≡ Less →
    place_cmp a p ≡ Less
below_by a b p Less e n h = place_cmp-total.trans a b p h e
below_by a b p Equal e n h = sym (alike_right place_cmp-total b p a e) ∙ h
below_by a b p Greater e n h = absurd (n refl)

-- a is below b, which is not above p
pub below_through : (a b p : Place) → place_cmp a b ≡ Less → place_cmp b p ≢ Greater → place_cmp a p ≡ Less
below_through a b p h n = below_by a b p (place_cmp b p) refl n h

above_by : (a b p : Place) (o : Ordering) → place_cmp a b ≡ o → o ≢ Less → place_cmp b p ≡ Greater →
    place_cmp a p ≡ Greater
above_by a b p Less e n h = absurd (n refl)
above_by a b p Equal e n h = place_cmp-total.congr a b p e ∙ h
above_by a b p Greater e n h = turned_less p a
    (place_cmp-total.trans p b a (turned_greater b p h) (turned_greater a b e))

-- a is not below b, which is above p
pub above_through : (a b p : Place) → place_cmp a b ≢ Less → place_cmp b p ≡ Greater → place_cmp a p ≡ Greater
above_through a b p n h = above_by a b p (place_cmp a b) refl n h

pub all_below_through : (m p : Place) (es : List Entry) → AllBelow m es → place_cmp m p ≢ Greater → AllBelow p es
all_below_through m p es b n = AllByRecursion-map (λ e. place_cmp (place_of e) m ≡ Less)
    (λ e. place_cmp (place_of e) p ≡ Less) (λ e h. below_through (place_of e) m p h n) es b

pub all_above_through : (m p : Place) (es : List Entry) → NoneBelow m es → place_cmp m p ≡ Greater → AllAbove p es
all_above_through m p es b g = AllByRecursion-map (λ e. place_cmp (place_of e) m ≢ Less)
    (λ e. place_cmp (place_of e) p ≡ Greater) (λ e h. above_through (place_of e) m p h g) es b

-- children that begin above a place hold entries above it alone
pub children_above : (p : Place) (ls : List Separator) (ks : List Shape) → AreParted ls ks →
    AllByRecursion (λ l. place_cmp (separator_place l) p ≡ Greater) ls → AllAbove p (all_entries ks)
children_above p [] [] a g = tt
children_above p [] (k ∷ ks) a g = absurd (omega (arith, a))
children_above p (l ∷ ls) [] a g = absurd (omega (arith, a))
children_above p (l ∷ ls) (k ∷ ks) a g =
    AllByRecursion-append (λ e. place_cmp (place_of e) p ≡ Greater) k.entries (all_entries ks)
    (all_above_through (separator_place l) p k.entries a.0 g.0) (children_above p ls ks a.2 g.1)

first_such-front : (test : Entry → Bool) (xs ys : List Entry) → first_such test ys ≡ None →
    first_such test (xs ++ ys) ≡ first_such test xs
first_such-front test [] ys n = n
first_such-front test (x ∷ xs) ys n =
    elim (test x) as (λ b. (if b then Some x else first_such test (xs ++ ys)) ≡
    (if b then Some x else first_such test xs)) [ true ↦ refl | false ↦ first_such-front test xs ys n ]

-- entries above a place are passed over from the back
pub entry_at-front : (part : ℕ) (key : OrderedKey) (xs ys : List Entry) → AllAbove (part, key) ys →
    entry_at (xs ++ ys) part key ≡ entry_at xs part key
entry_at-front part key xs ys a = first_such-front (λ e. is_eq (place_cmp (place_of e) (part, key))) xs ys
    (entry_at_none part key ys a)
