-- Rising lists of entries, cut, changed and searched at an index.
use Rattle.std.proofs.Common.{◌≡◌, ℕ, zero, suc, ◌<◌, ◌≤◌, Bool, List, [], ◌∷◌, length, get_or, take, drop, sym, ◌∙◌}
use Rattle.std.proofs.Common.{arith}
use Rattle.std.specs.declared.cmp.Ordering.TheVariants.{Less, Equal, Greater}
use Rattle.std.specs.Cmp.{alike_right}
use Rattle.std.specs.List.{AllByRecursion, insert, remove}
use Rattle.am_record.specs.declared.entry.Entry.{Entry}
use Rattle.am_record.specs.EntryOrder.{Place, place_of, place_cmp, place_cmp-total}
use Rattle.am_record.proofs.PlaceOrder.{turned_less, turned_greater}
use Rattle.am_record.proofs.Lists.{AllByRecursion-map, AllByRecursion-at, AllByRecursion-take, AllByRecursion-drop}
use Rattle.am_record.proofs.Lists.{AllByRecursion-append}
use Rattle.am_index.specs.Entries.{IsRising}
use Rattle.am_index.specs.Places.{AllBelow, AllAbove}
use Rattle.am_index_leaf.specs.Changes.{set_at}

-- f is above e
abbrev IsBelow : Entry → Entry → Type 0
IsBelow e f = place_cmp (place_of e) (place_of f) ≡ Less

-- ---- cuts and changes

pub rising-drop : (n : ℕ) (es : List Entry) → IsRising es → IsRising (drop n es)
rising-drop zero es r = r
rising-drop (suc n) [] r = tt
rising-drop (suc n) (e ∷ es) r = rising-drop n es r.1

pub rising-insert : (es : List Entry) (i : ℕ) (x : Entry) → IsRising es → i ≤ length es →
    AllBelow (place_of x) (take i es) → AllAbove (place_of x) (drop i es) → IsRising (insert es i x)
rising-insert es zero x r le b a = (
  AllByRecursion-map (λ f. place_cmp (place_of f) (place_of x) ≡ Greater) (IsBelow x)
      (λ f h. turned_greater (place_of f) (place_of x) h) es a,
  r,
)
rising-insert [] (suc i) x r le b a = absurd (omega arith)
rising-insert (e ∷ es) (suc i) x r le b a = (
  AllByRecursion-append (IsBelow e) (take i es) (x ∷ drop i es) (AllByRecursion-take (IsBelow e) i es r.0)
      (b.0, AllByRecursion-drop (IsBelow e) i es r.0),
  rising-insert es i x r.1 (omega arith) b.1 a,
)

pub rising-remove : (es : List Entry) (i : ℕ) → IsRising es → i < length es → IsRising (remove es i)
rising-remove [] i r lt = absurd (omega arith)
rising-remove (e ∷ es) zero r lt = r.1
rising-remove (e ∷ es) (suc i) r lt = (
  AllByRecursion-append (IsBelow e) (take i es) (drop (suc i) es)
      (AllByRecursion-take (IsBelow e) i es r.0) (AllByRecursion-drop (IsBelow e) (suc i) es r.0),
  rising-remove es i r.1 (omega arith),
)

all_set : (e : Entry) (es : List Entry) (i : ℕ) (v : List ℕ) (b : Bool) → AllByRecursion (IsBelow e) es →
    AllByRecursion (IsBelow e) (set_at es i v b)
all_set e [] i v b a = tt
all_set e (f ∷ es) zero v b a = a
all_set e (f ∷ es) (suc i) v b a = (a.0, all_set e es i v b a.1)

-- value and ghost bit say nothing of the order
pub rising-set_at : (es : List Entry) (i : ℕ) (v : List ℕ) (b : Bool) → IsRising es → IsRising (set_at es i v b)
rising-set_at [] i v b r = tt
rising-set_at (e ∷ es) zero v b r = r
rising-set_at (e ∷ es) (suc i) v b r = (all_set e es i v b r.0, rising-set_at es i v b r.1)

-- ---- searches

module _ (p : Place) where
  -- up to an entry below the place, all are
  pub all_below : (es : List Entry) (i : ℕ) (d : Entry) → IsRising es → i < length es →
      place_cmp (place_of (get_or es i d)) p ≡ Less → AllBelow p (take (suc i) es)
  all_below [] i d r lt h = absurd (omega arith)
  all_below (e ∷ es) zero d r lt h = (h, tt)
  all_below (e ∷ es) (suc i) d r lt h = (
    place_cmp-total.trans (place_of e) (place_of (get_or es i d)) p
        (AllByRecursion-at (IsBelow e) es i d r.0 (omega arith)) h,
    all_below es i d r.1 (omega arith) h,
  )

  -- from an entry above the place on, all are
  pub all_above : (es : List Entry) (i : ℕ) (d : Entry) → IsRising es → i < length es →
      place_cmp (place_of (get_or es i d)) p ≡ Greater → AllAbove p (drop i es)
  all_above [] i d r lt h = absurd (omega arith)
  all_above (e ∷ es) zero d r lt h = (
    h,
    AllByRecursion-map (IsBelow e) (λ f. place_cmp (place_of f) p ≡ Greater)
        (λ f below. turned_less p (place_of f) (place_cmp-total.trans p (place_of e) (place_of f)
        (turned_greater (place_of e) p h) below)) es r.0,
  )
  all_above (e ∷ es) (suc i) d r lt h = all_above es i d r.1 (omega arith) h

  -- before the entry of the place all are below it, and after it above
  pub below_here : (es : List Entry) (i : ℕ) (d : Entry) → IsRising es → i < length es →
      place_cmp (place_of (get_or es i d)) p ≡ Equal → AllBelow p (take i es)
  below_here [] i d r lt h = absurd (omega arith)
  below_here (e ∷ es) zero d r lt h = tt
  below_here (e ∷ es) (suc i) d r lt h = (
    sym (alike_right place_cmp-total (place_of (get_or es i d)) p (place_of e) h) ∙
        AllByRecursion-at (IsBelow e) es i d r.0 (omega arith),
    below_here es i d r.1 (omega arith) h,
  )

  pub above_here : (es : List Entry) (i : ℕ) (d : Entry) → IsRising es → i < length es →
      place_cmp (place_of (get_or es i d)) p ≡ Equal → AllAbove p (drop (suc i) es)
  above_here [] i d r lt h = absurd (omega arith)
  above_here (e ∷ es) zero d r lt h =
      AllByRecursion-map (IsBelow e) (λ f. place_cmp (place_of f) p ≡ Greater)
      (λ f below. turned_less p (place_of f) (sym (place_cmp-total.congr (place_of e) p (place_of f) h) ∙ below)) es
      r.0
  above_here (e ∷ es) (suc i) d r lt h = above_here es i d r.1 (omega arith) h
