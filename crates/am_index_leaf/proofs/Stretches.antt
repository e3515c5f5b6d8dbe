-- What the fronts of places that rise say of one, and what is said of places of the entries there.
use Rattle.std.proofs.Common.{◌≡◌, ◌≢◌, ℕ, zero, suc, ◌+◌, ◌-◌, ◌/◌, ◌<◌, ◌≤◌, List, [], ◌∷◌, length, get_or, take}
use Rattle.std.proofs.Common.{drop, nat_eq, nat_lt, length-drop, refl, sym, ap, ◌∙◌, subst, arith, ⊎_elim}
use Rattle.std.proofs.lemmas.Bool.{cases_Bool, ltb-true, ltb-false}
use Rattle.std.proofs.lemmas.List.{drop_all, drop-drop}
use Rattle.std.proofs.lemmas.List.Sums.{count_by-le-length, prefix_len-le-length}
use Rattle.std.specs.declared.cmp.Ordering.TheVariants.{Less, Greater}
use Rattle.std.specs.List.{AllByRecursion}
use Rattle.am_record.specs.OrderedKey.{OrderedKey, key_cmp}
use Rattle.am_record.specs.KeyFront.{key_front}
use Rattle.am_record.specs.EntryOrder.{Place, place_of, place_cmp, place_cmp-total, place_cmp-part, place_cmp-same}
use Rattle.am_record.proofs.NumberOrder.{NeverFalls, falls-drop, lower_first, higher_last}
use Rattle.am_record.proofs.Lists.{AllByRecursion-map, AllByRecursion-at, AllByRecursion-take, AllByRecursion-drop}
use Rattle.am_record.proofs.Lists.{some_item}
use Rattle.am_record.proofs.Orderings.{less_or_greater}
use Rattle.am_record.proofs.PlaceOrder.{turned_less}
use Rattle.am_index.specs.Entries.{IsRising}
use Rattle.am_index_leaf.specs.Fronts.{front_in_part, count_lower, count_alike}
use Rattle.am_index_leaf.specs.Leaf.{entries_of}
use Rattle.am_index_leaf.specs.Stretch.{PlacesRise, IsStretchFor}

-- ---- entries and their places

module _ (P : Place → Type 0) where
  all-places : (ps : List Place) (vs : List (List ℕ)) (m : ℕ) → length ps ≡ length vs →
      AllByRecursion (λ e. P (place_of e)) (entries_of ps vs m) → AllByRecursion P ps
  all-places [] vs m e a = tt
  all-places (p ∷ ps) [] m e a = absurd (omega arith)
  all-places (p ∷ ps) (v ∷ vs) m e a = (a.0, all-places ps vs (m / 2) (omega arith) a.1)

  pub all-taken : (n : ℕ) (ps : List Place) (vs : List (List ℕ)) (m : ℕ) → length ps ≡ length vs →
      AllByRecursion P (take n ps) → AllByRecursion (λ e. P (place_of e)) (take n (entries_of ps vs m))
  all-taken zero ps vs m e a = tt
  all-taken (suc n) [] vs m e a = tt
  all-taken (suc n) (p ∷ ps) [] m e a = absurd (omega arith)
  all-taken (suc n) (p ∷ ps) (v ∷ vs) m e a = (a.0, all-taken n ps vs (m / 2) (omega arith) a.1)

  pub all-dropped : (n : ℕ) (ps : List Place) (vs : List (List ℕ)) (m : ℕ) → length ps ≡ length vs →
      AllByRecursion P (drop n ps) → AllByRecursion (λ e. P (place_of e)) (drop n (entries_of ps vs m))
  all-dropped zero [] vs m e a = tt
  all-dropped zero (p ∷ ps) [] m e a = absurd (omega arith)
  all-dropped zero (p ∷ ps) (v ∷ vs) m e a = (a.0, all-dropped zero ps vs (m / 2) (omega arith) a.1)
  all-dropped (suc n) [] vs m e a = tt
  all-dropped (suc n) (p ∷ ps) [] m e a = absurd (omega arith)
  all-dropped (suc n) (p ∷ ps) (v ∷ vs) m e a = all-dropped n ps vs (m / 2) (omega arith) a

pub places-rise : (ps : List Place) (vs : List (List ℕ)) (m : ℕ) → length ps ≡ length vs →
    IsRising (entries_of ps vs m) → PlacesRise ps
places-rise [] vs m e r = tt
places-rise (p ∷ ps) [] m e r = absurd (omega arith)
places-rise (p ∷ ps) (v ∷ vs) m e r = (
  all-places (λ q. place_cmp p q ≡ Less) ps vs (m / 2) (omega arith) r.0,
  places-rise ps vs (m / 2) (omega arith) r.1,
)

-- ---- up to the last

none : (P : Place → Type 0) (ps : List Place) → length ps ≡ 0 → AllByRecursion P ps
none P [] e = tt
none P (p ∷ ps) e = absurd (omega arith)

all_both : (P Q R : Place → Type 0) → ((q : Place) → P q → Q q → R q) → (ps : List Place) → AllByRecursion P ps →
    AllByRecursion Q ps → AllByRecursion R ps
all_both P Q R f [] a b = tt
all_both P Q R f (p ∷ ps) a b = (f p a.0 b.0, all_both P Q R f ps a.1 b.1)

-- what the last one has, and with a place all below it
up_to : (P : Place → Type 0) → ((q r : Place) → place_cmp q r ≡ Less → P r → P q) → (ps : List Place) (i : ℕ)
    (d : Place) → PlacesRise ps → suc i ≡ length ps → P (get_or ps i d) → AllByRecursion P ps
up_to P down [] i d r last h = tt
up_to P down (p ∷ ps) zero d r last h = (h, none P ps (omega (arith, last)))
up_to P down (p ∷ ps) (suc i) d r last h = (
  down p (get_or ps i d) (AllByRecursion-at (λ q. place_cmp p q ≡ Less) ps i d r.0 (omega (arith, last))) h,
  up_to P down ps i d r.1 (omega (arith, last)) h,
)

no_later_part : (q r : Place) → place_cmp q r ≡ Less → q.0 ≤ r.0
no_later_part q r h = place_cmp-part q r (λ g. less_or_greater (place_cmp q r) h g)

not_before : (ps : List Place) (d : Place) → PlacesRise ps → AllByRecursion (λ q. (get_or ps 0 d).0 ≤ q.0) ps
not_before [] d r = tt
not_before (p ∷ ps) d r = (
  omega arith,
  AllByRecursion-map (λ q. place_cmp p q ≡ Less) (λ q. p.0 ≤ q.0) (λ q h. no_later_part p q h) ps r.0,
)

none_behind : (p : Place) (ps : List Place) (n : ℕ) → n ≡ length ps →
    AllByRecursion (λ q. place_cmp q p ≡ Greater) (drop n ps)
none_behind p ps n all =
    subst (AllByRecursion (λ q. place_cmp q p ≡ Greater)) (sym (drop_all n ps (omega (arith, all)))) tt

-- ---- by fronts, within a partition

abbrev front : Place → ℕ
front q = key_front q.1

module _ (law : (k l : OrderedKey) → key_front k < key_front l → key_cmp k l ≡ Less) (part : ℕ) where
  lower_front : (q r : Place) → q.0 ≡ part → r.0 ≡ part → front q < front r → place_cmp q r ≡ Less
  lower_front q r its theirs h = ap (λ n. place_cmp (n, q.1) r) its ∙ ap (λ n. place_cmp (part, q.1) (n, r.1)) theirs ∙
      place_cmp-same part q.1 r.1 ∙ law q.1 r.1 h

  never_lower : (q r : Place) → place_cmp q r ≡ Less → q.0 ≡ part → r.0 ≡ part → front q ≤ front r
  never_lower q r h its theirs =
      ⊎_elim
      (λ e. absurd (less_or_greater (place_cmp r q) (lower_front r q theirs its (ltb-true (front r) (front q) e))
      (turned_less q r h)))
      (λ e. ltb-false (front r) (front q) e) (cases_Bool (nat_lt (front r) (front q)))

  fronts_rise : (ps : List Place) → PlacesRise ps → AllByRecursion (λ q. q.0 ≡ part) ps → NeverFalls front ps
  fronts_rise [] r a = tt
  fronts_rise (q ∷ ps) r a = (
    all_both (λ s. place_cmp q s ≡ Less) (λ s. s.0 ≡ part) (λ s. front q ≤ front s)
        (λ s h its. never_lower q s h a.0 its) ps r.0 a.1,
    fronts_rise ps r.1 a.1,
  )

  -- the first and the last of some places are of the partition
  module _ (ps : List Place) (rise : PlacesRise ps) (len : ℕ) (all : len ≡ length ps) (some : len ≢ 0) (x y : ℕ × ℕ)
      (first : (d : Place) → x ≡ front_in_part (get_or ps 0 d))
      (last : (d : Place) → y ≡ front_in_part (get_or ps (len - 1) d)) (first_in : x.0 ≡ part) (last_in : y.0 ≡ part)
      (key : OrderedKey) (f : ℕ) (its : f ≡ key_front key) where
    abbrev i : ℕ
    i = len - 1

    ends : suc i ≡ length ps
    ends = omega (arith, all, some)

    d : Place
    d = some_item ps i (omega (arith, ends))

    last_part : (get_or ps i d).0 ≡ part
    last_part = sym (ap (λ (n : ℕ × ℕ). n.0) (last d)) ∙ last_in

    -- so all are
    all_in : AllByRecursion (λ q. q.0 ≡ part) ps
    all_in =
        let at_least : (get_or ps 0 d).0 ≡ part = sym (ap (λ (n : ℕ × ℕ). n.0) (first d)) ∙ first_in in
        all_both (λ q. (get_or ps 0 d).0 ≤ q.0) (λ q. q.0 ≤ part) (λ q. q.0 ≡ part)
        (λ q a b. omega (arith, at_least, a, b)) ps (not_before ps d rise)
        (up_to (λ q. q.0 ≤ part) (λ q s h le. omega (arith, no_later_part q s h, le)) ps i d rise ends
        (omega (arith, last_part)))

    -- where the last front is lower, all places are below
    pub all_below : y.1 < f → IsStretchFor ps (part, key) len len
    all_below lt =
        let p : Place = (part, key) in
        let below : front (get_or ps i d) < front p =
        omega (arith, lt, its, ap (λ (n : ℕ × ℕ). n.1) (last d)) in
        record {
          ordered = omega arith;
          in_range = omega (arith, all);
          below = AllByRecursion-take (λ q. place_cmp q p ≡ Less) len ps
              (up_to (λ q. place_cmp q p ≡ Less) (λ q s h. place_cmp-total.trans q s p h) ps i d rise ends
              (lower_front (get_or ps i d) p last_part refl below));
          above = none_behind p ps len all;
        }

    module _ (n m : ℕ) (lower : n ≡ count_lower f ps) (alike : m ≡ count_alike f (drop n ps)) where
      pub alike_within : n + m ≤ len
      alike_within = omega (
        arith,
        all,
        lower,
        count_by-le-length (λ q. nat_lt (front q) f) ps,
        alike,
        prefix_len-le-length (λ q. nat_eq (front q) f) (drop n ps),
        length-drop n ps,
      )

      -- those of the key's own front alone may be the place, or next to it
      pub stretch_by_fronts : IsStretchFor ps (part, key) n (n + m)
      stretch_by_fronts =
          let p : Place = (part, key) in let falls = fronts_rise ps rise all_in in
          let parted = subst (λ k. AllByRecursion (λ q. front q < f) (take k ps) ×
          AllByRecursion (λ q. f ≤ front q) (drop k ps)) (sym lower) (lower_first front f ps falls) in
          let higher = subst (λ k. AllByRecursion (λ q. f < front q) (drop k (drop n ps))) (sym alike)
          (higher_last front f (drop n ps) (falls-drop front n ps falls) parted.1) in
          record {
            ordered = omega arith;
            in_range = omega (arith, alike_within, all);
            below = all_both (λ q. front q < f) (λ q. q.0 ≡ part) (λ q. place_cmp q p ≡ Less)
                (λ q lt theirs. lower_front q p theirs refl (omega (arith, lt, its))) (take n ps) parted.0
                (AllByRecursion-take (λ q. q.0 ≡ part) n ps all_in);
            above = subst (AllByRecursion (λ q. place_cmp q p ≡ Greater)) (drop-drop m n ps)
                (all_both (λ q. f < front q) (λ q. q.0 ≡ part) (λ q. place_cmp q p ≡ Greater)
                (λ q lt theirs. turned_less p q (lower_front p q refl theirs (omega (arith, lt, its))))
                (drop m (drop n ps)) higher
                (AllByRecursion-drop (λ q. q.0 ≡ part) m (drop n ps)
                (AllByRecursion-drop (λ q. q.0 ≡ part) n ps all_in)));
          }
