-- Lists of entries that are cut at a place: all of xs below it, none of ys.
use Rattle.std.proofs.Common.{◌≡◌, ◌≢◌, ℕ, zero, suc, take, ◌<◌, ◌≤◌, Bool, true, false, cond, ◌&&◌, eqb, List, [], ◌∷◌}
use Rattle.std.proofs.Common.{◌++◌, Some, None, refl, sym, ap, ◌∙◌, subst, ⊎_elim, arith}
use Rattle.std.proofs.lemmas.Bool.{eq-eqb, ne_eqb, eqb-true, both_ways, cases_Bool, cond-true, cond-false, and_from}
use Rattle.std.proofs.lemmas.Bool.{and_right}
use Rattle.std.specs.declared.cmp.Ordering.{Ordering}
use Rattle.std.specs.declared.cmp.Ordering.TheVariants.{Less, Equal, Greater}
use Rattle.std.specs.Ordering.{is_eq, is_lt, is_gt, is_ge}
use Rattle.std.specs.List.{AllByRecursion, slice_get}
use Rattle.am_record.specs.OrderedKey.{OrderedKey}
use Rattle.am_record.specs.declared.entry.Entry.{Entry}
use Rattle.am_record.specs.EntryOrder.{Place, place_of, place_cmp, place_cmp-part}
use Rattle.am_record.proofs.Lists.{AllByRecursion-map, AllByRecursion-append, AllByRecursion-front, AllByRecursion-back}
use Rattle.am_record.proofs.Lists.{AllByRecursion-take}
use Rattle.am_record.proofs.PlaceOrder.{above_from, turned_greater}
use Rattle.am_index.specs.Entries.{first_such, entry_at, next_any, next_ghost, next_from, after, insert_entry}
use Rattle.am_index.specs.Entries.{set_entry}
use Rattle.am_index.specs.Entries.{remove_entry, IsRising}
use Rattle.am_index.specs.Places.{AllBelow, NoneBelow, AllAbove, NoneAbove, only_of}

-- ---- the first entry that passes a test

-- entries that fail the test are passed over
pub first_such-append : (test : Entry → Bool) (xs ys : List Entry) → AllByRecursion (λ e. test e ≡ false) xs →
    first_such test (xs ++ ys) ≡ first_such test ys
first_such-append test [] ys a = refl
first_such-append test (x ∷ xs) ys a = rw a.0 (first_such-append test xs ys a.1)

pub first_such_none : (test : Entry → Bool) (xs : List Entry) → AllByRecursion (λ e. test e ≡ false) xs →
    first_such test xs ≡ None
first_such_none test [] a = refl
first_such_none test (x ∷ xs) a = rw a.0 (first_such_none test xs a.1)

pub first_such_here : (test : Entry → Bool) (x : Entry) (xs : List Entry) → test x ≡ true →
    first_such test (x ∷ xs) ≡ Some x
first_such_here test x xs h = rw h

and_alone : (a b : Bool) → b ≡ true → (a && b) ≡ a
and_alone true b e = e
and_alone false b e = refl

pub first_false : (a b : Bool) → a ≡ false → (a && b) ≡ false
first_false true b e = absurd (cc)
first_false false b e = refl

pub not_less : (o : Ordering) → o ≢ Less → is_ge o ≡ true
not_less Less n = absurd (n refl)
not_less Equal n = refl
not_less Greater n = refl

pub not_greater : (o : Ordering) → o ≢ Greater → is_gt o ≡ false
not_greater Less n = refl
not_greater Equal n = refl
not_greater Greater n = absurd (n refl)

pub differ : (a b : ℕ) → eqb a b ≡ false → a ≢ b
differ a b h e = both_ways (eqb a b) h (eq-eqb a b e)

module _ (part : ℕ) (key : OrderedKey) where
  abbrev p : Place
  p = (part, key)

  abbrev c : Entry → Ordering
  c e = place_cmp (place_of e) p

  -- ---- past the entries below

  pub entry_at-append : (xs ys : List Entry) → AllBelow p xs → entry_at (xs ++ ys) part key ≡ entry_at ys part key
  entry_at-append xs ys b = first_such-append (λ e. is_eq (c e)) xs ys
      (AllByRecursion-map (λ e. c e ≡ Less) (λ e. is_eq (c e) ≡ false) (λ e h. ap is_eq h) xs b)

  pub next_any-append : (xs ys : List Entry) → AllBelow p xs → next_any (xs ++ ys) part key ≡ next_any ys part key
  next_any-append xs ys b = first_such-append (λ e. is_ge (c e)) xs ys
      (AllByRecursion-map (λ e. c e ≡ Less) (λ e. is_ge (c e) ≡ false) (λ e h. ap is_ge h) xs b)

  pub next_ghost-append : (xs ys : List Entry) → AllBelow p xs → next_ghost (xs ++ ys) part key ≡ next_ghost ys part key
  next_ghost-append xs ys b = first_such-append (λ e. e.is_ghost && is_ge (c e)) xs ys
      (AllByRecursion-map (λ e. c e ≡ Less) (λ e. (e.is_ghost && is_ge (c e)) ≡ false)
      (λ e h. and_right e.is_ghost (is_ge (c e)) (ap is_ge h)) xs b)

  pub next_from-append : (xs ys : List Entry) → AllBelow p xs → next_from (xs ++ ys) part key ≡ next_from ys part key
  next_from-append xs ys b = first_such-append (λ e. eqb e.part part && is_ge (c e)) xs ys
      (AllByRecursion-map (λ e. c e ≡ Less) (λ e. (eqb e.part part && is_ge (c e)) ≡ false)
      (λ e h. and_right (eqb e.part part) (is_ge (c e)) (ap is_ge h)) xs b)

  pub after-append : (xs ys : List Entry) → NoneAbove p xs → after (xs ++ ys) part key ≡ after ys part key
  after-append xs ys b = first_such-append (λ e. eqb e.part part && is_gt (c e)) xs ys
      (AllByRecursion-map (λ e. c e ≢ Greater) (λ e. (eqb e.part part && is_gt (c e)) ≡ false)
      (λ e h. and_right (eqb e.part part) (is_gt (c e)) (not_greater (c e) h)) xs b)

  -- ---- at the first entry that is not below

  pub entry_at_here : (y : Entry) (ys : List Entry) → c y ≡ Equal → entry_at (y ∷ ys) part key ≡ Some y
  entry_at_here y ys h = first_such_here (λ e. is_eq (c e)) y ys (ap is_eq h)

  pub entry_at_none : (ys : List Entry) → AllAbove p ys → entry_at ys part key ≡ None
  entry_at_none ys a = first_such_none (λ e. is_eq (c e)) ys
      (AllByRecursion-map (λ e. c e ≡ Greater) (λ e. is_eq (c e) ≡ false) (λ e h. ap is_eq h) ys a)

  pub next_any_here : (y : Entry) (ys : List Entry) → c y ≢ Less → next_any (y ∷ ys) part key ≡ Some y
  next_any_here y ys h = first_such_here (λ e. is_ge (c e)) y ys (not_less (c y) h)

  pub next_from_here : (y : Entry) (ys : List Entry) → c y ≢ Less → y.part ≡ part → next_from (y ∷ ys) part key ≡ Some y
  next_from_here y ys h same = first_such_here (λ e. eqb e.part part && is_ge (c e)) y ys
      (and_from (eqb y.part part) (is_ge (c y)) (eq-eqb y.part part same) (not_less (c y) h))

  pub after_here : (y : Entry) (ys : List Entry) → c y ≡ Greater → y.part ≡ part → after (y ∷ ys) part key ≡ Some y
  after_here y ys h same = first_such_here (λ e. eqb e.part part && is_gt (c e)) y ys
      (and_from (eqb y.part part) (is_gt (c y)) (eq-eqb y.part part same) (ap is_gt h))

  pub other_part : (t : Entry → Bool) (e : Entry) → e.part ≢ part → (eqb e.part part && t e) ≡ false
  other_part t e n = first_false (eqb e.part part) (t e) (ne_eqb e.part part n)

  -- an entry that is not below, of another partition, stands in a greater one
  greater_part : (y : Entry) → c y ≢ Less → y.part ≢ part → part < y.part
  greater_part y h n =
      let up : part ≤ y.part = place_cmp-part p (place_of y) (λ g. h (turned_greater p (place_of y) g)) in omega arith

  -- so do all after it
  pub later_parts : (y : Entry) (ys : List Entry) → c y ≢ Less → y.part ≢ part → IsRising (y ∷ ys) →
      AllByRecursion (λ e. e.part ≢ part) (y ∷ ys)
  later_parts y ys h n r = (
    n,
    AllByRecursion-map (λ f. place_cmp (place_of y) (place_of f) ≡ Less) (λ f. f.part ≢ part) (λ f less same.
        let up : y.part ≤ f.part = place_cmp-part (place_of y) (place_of f) (λ g. absurd (cc)) in
        let far : part < y.part = greater_part y h n in omega (arith, same)) ys r.0,
  )

  pub next_from_none : (ys : List Entry) → AllByRecursion (λ e. e.part ≢ part) ys → next_from ys part key ≡ None
  next_from_none ys a = first_such_none (λ e. eqb e.part part && is_ge (c e)) ys
      (AllByRecursion-map (λ e. e.part ≢ part) (λ e. (eqb e.part part && is_ge (c e)) ≡ false)
      (λ e h. other_part (λ f. is_ge (c f)) e h) ys a)

  pub after_none : (ys : List Entry) → AllByRecursion (λ e. e.part ≢ part) ys → after ys part key ≡ None
  after_none ys a = first_such_none (λ e. eqb e.part part && is_gt (c e)) ys
      (AllByRecursion-map (λ e. e.part ≢ part) (λ e. (eqb e.part part && is_gt (c e)) ≡ false)
      (λ e h. other_part (λ f. is_gt (c f)) e h) ys a)

  -- ---- at the front of entries that are not below, or all above

  pub next_any_front : (ys : List Entry) → NoneBelow p ys → next_any ys part key ≡ slice_get ys 0
  next_any_front [] n = refl
  next_any_front (y ∷ ys) n = next_any_here y ys n.0

  pub next_ghost_front : (ys : List Entry) → NoneBelow p ys → next_ghost ys part key ≡ first_such (λ e. e.is_ghost) ys
  next_ghost_front [] n = refl
  next_ghost_front (y ∷ ys) n = λ i. cond (and_alone y.is_ghost (is_ge (c y)) (not_less (c y) n.0) i) (Some y)
      (next_ghost_front ys n.1 i)

  pub next_from_front : (ys : List Entry) → IsRising ys → NoneBelow p ys → next_from ys part key ≡ only_of part
      (slice_get ys 0)
  next_from_front [] rising n = refl
  next_from_front (y ∷ ys) rising n =
      ⊎_elim
      (λ same. next_from_here y ys n.0 (eqb-true y.part part same) ∙
      sym (cond-true (eqb y.part part) (Some y) None same))
      (λ other. next_from_none (y ∷ ys) (later_parts y ys n.0 (differ y.part part other) rising) ∙
      sym (cond-false (eqb y.part part) (Some y) None other))
      (cases_Bool (eqb y.part part))

  pub after_front : (ys : List Entry) → IsRising ys → AllAbove p ys → after ys part key ≡ only_of part (slice_get ys 0)
  after_front [] rising a = refl
  after_front (y ∷ ys) rising a =
      let not_less : c y ≢ Less = λ less. absurd (cc a.0) in
      ⊎_elim
      (λ same. after_here y ys a.0 (eqb-true y.part part same) ∙ sym (cond-true (eqb y.part part) (Some y) None same))
      (λ other. after_none (y ∷ ys) (later_parts y ys not_less (differ y.part part other) rising) ∙
      sym (cond-false (eqb y.part part) (Some y) None other))
      (cases_Bool (eqb y.part part))

  -- ---- edits

  pub set_entry-append : (xs : List Entry) (y : Entry) (ys : List Entry) (value : List ℕ) (is_ghost : Bool) →
      AllBelow p xs → c y ≡ Equal
      → set_entry (xs ++ y ∷ ys) part key value is_ghost ≡ xs ++ record y { value = value; is_ghost = is_ghost } ∷ ys
  set_entry-append [] y ys value is_ghost b h = rw h
  set_entry-append (x ∷ xs) y ys value is_ghost b h =
      rw b.0 (ap (λ l. x ∷ l) (set_entry-append xs y ys value is_ghost b.1 h))

  pub remove_entry-append : (xs : List Entry) (y : Entry) (ys : List Entry) → AllBelow p xs → c y ≡ Equal →
      remove_entry (xs ++ y ∷ ys) part key ≡ xs ++ ys
  remove_entry-append [] y ys b h = rw h
  remove_entry-append (x ∷ xs) y ys b h = rw b.0 (ap (λ l. x ∷ l) (remove_entry-append xs y ys b.1 h))

not_lt : (o : Ordering) → o ≢ Less → is_lt o ≡ false
not_lt Less n = absurd (n refl)
not_lt Equal n = refl
not_lt Greater n = refl

insert_here : (x : Entry) (ys : List Entry) → NoneBelow (place_of x) ys → insert_entry ys x ≡ x ∷ ys
insert_here x [] n = refl
insert_here x (y ∷ ys) n = rw (not_lt _ n.0)

pub insert_entry-append : (x : Entry) (xs ys : List Entry) → AllBelow (place_of x) xs → NoneBelow (place_of x) ys →
    insert_entry (xs ++ ys) x ≡ xs ++ x ∷ ys
insert_entry-append x [] ys b n = insert_here x ys n
insert_entry-append x (e ∷ xs) ys b n = rw b.0 (ap (λ l. e ∷ l) (insert_entry-append x xs ys b.1 n))

-- ---- rising lists

pub rising_front : (xs ys : List Entry) → IsRising (xs ++ ys) → IsRising xs
rising_front [] ys r = tt
rising_front (x ∷ xs) ys r = (
  AllByRecursion-front (λ f. place_cmp (place_of x) (place_of f) ≡ Less) xs ys r.0,
  rising_front xs ys r.1,
)

pub rising_back : (xs ys : List Entry) → IsRising (xs ++ ys) → IsRising ys
rising_back [] ys r = r
rising_back (x ∷ xs) ys r = rising_back xs ys r.1

pub rising-take : (n : ℕ) (es : List Entry) → IsRising es → IsRising (take n es)
rising-take zero es r = tt
rising-take (suc n) [] r = tt
rising-take (suc n) (e ∷ es) r = (
  AllByRecursion-take (λ f. place_cmp (place_of e) (place_of f) ≡ Less) n es r.0,
  rising-take n es r.1,
)

pub below_itself : (before : List Entry) (e : Entry) (behind : List Entry) → IsRising (before ++ e ∷ behind) →
    AllBelow (place_of e) before
below_itself [] e behind r = tt
below_itself (x ∷ xs) e behind r = (
  (AllByRecursion-back (λ (f : Entry). place_cmp (place_of x) (place_of f) ≡ Less) xs
      (e ∷ behind) r.0).0,
  below_itself xs e behind r.1,
)

pub rising_insert : (x : Entry) (xs ys : List Entry) → IsRising (xs ++ ys) → AllBelow (place_of x) xs →
    AllAbove (place_of x) ys → IsRising (xs ++ x ∷ ys)
rising_insert x [] ys r b a = (
  AllByRecursion-map (λ f. place_cmp (place_of f) (place_of x) ≡ Greater)
      (λ f. place_cmp (place_of x) (place_of f) ≡ Less) (λ f h. turned_greater (place_of f) (place_of x) h) ys a,
  r,
)
rising_insert x (e ∷ xs) ys r b a =
    let P : Entry → Type 0 = λ f. place_cmp (place_of e) (place_of f) ≡ Less in (
      AllByRecursion-append P xs (x ∷ ys) (AllByRecursion-front P xs ys r.0) (b.0, AllByRecursion-back P xs ys r.0),
      rising_insert x xs ys r.1 b.1 a,
    )

pub rising_remove : (xs : List Entry) (y : Entry) (ys : List Entry) → IsRising (xs ++ y ∷ ys) → IsRising (xs ++ ys)
rising_remove [] y ys r = r.1
rising_remove (e ∷ xs) y ys r =
    let P : Entry → Type 0 = λ f. place_cmp (place_of e) (place_of f) ≡ Less in
    let back : AllByRecursion P (y ∷ ys) = AllByRecursion-back P xs (y ∷ ys) r.0 in
    (AllByRecursion-append P xs ys (AllByRecursion-front P xs (y ∷ ys) r.0) back.1, rising_remove xs y ys r.1)

-- another entry at the same place
pub rising_set : (xs : List Entry) (y z : Entry) (ys : List Entry) → place_of z ≡ place_of y → IsRising (xs ++ y ∷ ys) →
    IsRising (xs ++ z ∷ ys)
rising_set [] y z ys same r = (
  subst (λ (q : Place). AllByRecursion (λ f. place_cmp q (place_of f) ≡ Less) ys)
      (sym same) r.0,
  r.1,
)
rising_set (e ∷ xs) y z ys same r =
    let P : Entry → Type 0 = λ f. place_cmp (place_of e) (place_of f) ≡ Less in
    let back : AllByRecursion P (y ∷ ys) = AllByRecursion-back P xs (y ∷ ys) r.0 in (
      AllByRecursion-append P xs (z ∷ ys) (AllByRecursion-front P xs (y ∷ ys) r.0)
          (subst (λ (q : Place). place_cmp (place_of e) q ≡ Less) (sym same) back.0, back.1),
      rising_set xs y z ys same r.1,
    )

-- above an entry that is not below a place, all are above it
pub rising_above : (p : Place) (y : Entry) (ys : List Entry) → place_cmp (place_of y) p ≢ Less → IsRising (y ∷ ys) →
    AllAbove p ys
rising_above p y ys n r = AllByRecursion-map (λ f. place_cmp (place_of y) (place_of f) ≡ Less)
    (λ f. place_cmp (place_of f) p ≡ Greater) (λ f h. above_from (place_of y) (place_of f) p n h) ys r.0
