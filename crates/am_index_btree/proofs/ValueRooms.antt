-- Which room for values the parts of a tree have, and which edits keep.
use Rattle.std.proofs.Common.{◌≡◌, ℕ, zero, suc, ◌<◌, ◌≤◌, Bool, true, false, ◌||◌, List, [], ◌∷◌, ◌++◌, length, get_or}
use Rattle.std.proofs.Common.{set, take, drop, map, Option, Some, None, IsSome, if◌then◌else◌, refl, sym, ap, ◌∙◌}
use Rattle.std.proofs.Common.{subst}
use Rattle.std.proofs.Common.{inl, inr, ◌⊎◌, append-nil, append_assoc, arith}
use Rattle.std.specs.Prelude.{is_some, nat_lt}
use Rattle.std.specs.declared.cmp.Ordering.TheVariants.{Less, Equal, Greater}
use Rattle.std.specs.Ordering.{is_eq}
use Rattle.std.specs.Option.{option_map, option_or}
use Rattle.std.specs.List.{remove, AllByRecursion}
use Rattle.std.proofs.lemmas.Bool.{or_left, or_right, or_cases, lt-ltb, le-ltb, ltb-true, ltb-false}
use Rattle.std.proofs.lemmas.List.{set_split, take-append-drop}
use Rattle.am_record.specs.OrderedKey.{OrderedKey}
use Rattle.am_record.specs.EntryOrder.{Place, place_of, place_cmp, place_cmp-total}
use Rattle.am_record.specs.declared.entry.Entry.{Entry}
use Rattle.am_record.proofs.Lists.{AllByRecursion-map, AllByRecursion-back, AllByRecursion-take, AllByRecursion-drop}
use Rattle.am_record.proofs.Orderings.{is_equal}
use Rattle.am_record.proofs.PlaceOrder.{turned_less}
use Rattle.am_index.specs.Entries.{Slot, slot_of, entry_at, find, IsRising}
use Rattle.am_index.specs.Places.{AllAbove}
use Rattle.am_index.specs.Rooms.{is_among, HasRoom, HaveRoom, KeepRoom}
use Rattle.am_index.proofs.Lists.{entry_at_none, rising_back}
use Rattle.am_index.proofs.Rooms.{among-append, among_all, keep_all, keep_on}
use Rattle.am_index_leaf.specs.LeafCode.{Seen, ValuesHaveRoom}
use Rattle.am_index_btree.specs.Shape.{Shape}
use Rattle.am_index_btree.specs.Rooms.{IsRoomed, KeepsRoom}
use Rattle.am_index_btree.specs.Nodes.{all_entries, all_roomy, leaf_roomy, leaf_shape, inner_shape, shape_of, IsTree}
use Rattle.am_index_btree.specs.declared.node.Node.{Node}
use Rattle.am_index_btree.specs.declared.node.Node.TheVariants.{Leaf, Inner}
use Rattle.am_index_btree.specs.InsertResults.{RoomIsSplit}
use Rattle.am_index_btree.proofs.ChildInserts.{in_place, all_in_place}
use Rattle.am_index_btree.proofs.ChildHalves.{all_entries-append, all_entries_cut}

pub remove_set : {X : Type 0} (xs : List X) (i : ℕ) (y : X) → remove (set xs i y) i ≡ remove xs i
remove_set [] i y = refl
remove_set (x ∷ xs) zero y = refl
remove_set (x ∷ xs) (suc i) y = ap (λ l. x ∷ l) (remove_set xs i y)

-- ---- what stands in two lists, one after the other

module _ (part : ℕ) (key : OrderedKey) where
  abbrev p : Place
  p = (part, key)

  find-append : (xs ys : List Entry) → find (xs ++ ys) part key ≡ option_or (find xs part key) (find ys part key)
  find-append [] ys = refl
  find-append (x ∷ xs) ys =
      elim (is_eq (place_cmp (place_of x) p)) as
      (λ b. option_map slot_of (if b then Some x else entry_at (xs ++ ys) part key) ≡
      option_or (option_map slot_of (if b then Some x else entry_at xs part key)) (find ys part key))
      [ true ↦ refl | false ↦ find-append xs ys ]

  some_or : {X : Type 0} (a b : Option X) → is_some (option_or a b) ≡ (is_some a || is_some b)
  some_or None b = refl
  some_or (Some x) b = refl

  pub stands-append : (xs ys : List Entry) → is_some (find (xs ++ ys) part key) ≡
      (is_some (find xs part key) || is_some (find ys part key))
  stands-append xs ys = ap is_some (find-append xs ys) ∙ some_or (find xs part key) (find ys part key)

  pub stands_first : (xs ys : List Entry) → IsSome (find xs part key) → IsSome (find (xs ++ ys) part key)
  stands_first xs ys h = stands-append xs ys ∙ or_left (is_some (find xs part key)) (is_some (find ys part key)) h

  stands_next : (xs ys : List Entry) → IsSome (find ys part key) → IsSome (find (xs ++ ys) part key)
  stands_next xs ys h = stands-append xs ys ∙ or_right (is_some (find xs part key)) (is_some (find ys part key)) h

  stands_in : (xs ys : List Entry) → IsSome (find (xs ++ ys) part key) →
      IsSome (find xs part key) ⊎ IsSome (find ys part key)
  stands_in xs ys h = or_cases (is_some (find xs part key)) (is_some (find ys part key)) (sym (stands-append xs ys) ∙ h)

  among_first : (xs ys : List Place) → is_among xs part key ≡ true → is_among (xs ++ ys) part key ≡ true
  among_first xs ys h = among-append xs ys part key ∙ or_left (is_among xs part key) (is_among ys part key) h

  among_next : (xs ys : List Place) → is_among ys part key ≡ true → is_among (xs ++ ys) part key ≡ true
  among_next xs ys h = among-append xs ys part key ∙ or_right (is_among xs part key) (is_among ys part key) h

  among_in : (xs ys : List Place) → is_among (xs ++ ys) part key ≡ true →
      (is_among xs part key ≡ true) ⊎ (is_among ys part key ≡ true)
  among_in xs ys h = or_cases (is_among xs part key) (is_among ys part key) (sym (among-append xs ys part key) ∙ h)

  above_here : (e : Place) (ys : List Entry) → place_cmp e p ≡ Equal →
      AllByRecursion (λ f. place_cmp e (place_of f) ≡ Less) ys → AllAbove p ys
  above_here e ys same a = AllByRecursion-map (λ f. place_cmp e (place_of f) ≡ Less)
      (λ f. place_cmp (place_of f) p ≡ Greater)
      (λ f less. turned_less p (place_of f) (sym (place_cmp-total.congr e p (place_of f) same) ∙ less)) ys a

  none_there : (o : Option Slot) → o ≡ None → IsSome o → ⊥
  none_there None e h = absurd (cc)
  none_there (Some s) e h = absurd (cc)

  -- no place stands twice
  apart : (xs ys : List Entry) → IsRising (xs ++ ys) → IsSome (find xs part key) → IsSome (find ys part key) → ⊥
  apart [] ys rising first next = absurd (cc)
  apart (x ∷ xs) ys rising first next = by (is_eq (place_cmp (place_of x) p)) refl (apart xs ys rising.1)
    where
      by : (b : Bool) → is_eq (place_cmp (place_of x) p) ≡ b →
          (IsSome (find xs part key) → IsSome (find ys part key) → ⊥) → ⊥
      by true h rest = none_there (find ys part key)
          (ap (option_map slot_of) (entry_at_none part key ys
          (above_here (place_of x) ys (is_equal (place_cmp (place_of x) p) h)
          (AllByRecursion-back (λ f. place_cmp (place_of x) (place_of f) ≡ Less) xs ys rising.0)))) next
      by false h rest =
          rest (subst (λ b. IsSome (option_map slot_of (if b then Some x else entry_at xs part key))) h first) next

  -- ---- the room of one child

  some_in : (ks : List Shape) (i : ℕ) (k : Shape) → i < length ks → k ≡ get_or ks i k →
      IsSome (find k.entries part key) →
      IsSome (find (all_entries ks) part key)
  some_in [] i k lt here h = absurd (omega arith)
  some_in (c ∷ ks) zero k lt here h = stands_first c.entries (all_entries ks)
      (subst (λ (s : Shape). IsSome (find s.entries part key)) here h)
  some_in (c ∷ ks) (suc i) k lt here h = stands_next c.entries (all_entries ks) (some_in ks i k (omega arith) here h)

  among_up : (ks : List Shape) (i : ℕ) (k : Shape) → i < length ks → k ≡ get_or ks i k →
      is_among k.roomy part key ≡ true →
      is_among (all_roomy ks) part key ≡ true
  among_up [] i k lt here h = absurd (omega arith)
  among_up (c ∷ ks) zero k lt here h = among_first c.roomy (all_roomy ks)
      (subst (λ (s : Shape). is_among s.roomy part key ≡ true) here h)
  among_up (c ∷ ks) (suc i) k lt here h = among_next c.roomy (all_roomy ks) (among_up ks i k (omega arith) here h)

-- ---- the room of all children

have_both : (xs ys : List Entry) (a b : List Place) → HaveRoom xs a → HaveRoom ys b → HaveRoom (xs ++ ys) (a ++ b)
have_both xs ys a b h g = record {
  values = λ part key slot there. by_find part key slot there (find xs part key) refl;
  places = λ part key among. by_place part key (among_in part key a b among);
}
  where
    more : (part : ℕ) (key : OrderedKey) (bytes : ℕ) → HasRoom a part key bytes → HasRoom (a ++ b) part key bytes
    more part key bytes (inl short) = inl short
    more part key bytes (inr among) = inr (among_first part key a b among)

    further : (part : ℕ) (key : OrderedKey) (bytes : ℕ) → HasRoom b part key bytes → HasRoom (a ++ b) part key bytes
    further part key bytes (inl short) = inl short
    further part key bytes (inr among) = inr (among_next part key a b among)

    by_find : (part : ℕ) (key : OrderedKey) (slot : Slot) → find (xs ++ ys) part key ≡ Some slot → (o : Option Slot) →
        find xs part key ≡ o → HasRoom (a ++ b) part key (length slot.0)
    by_find part key slot there None e = further part key (length slot.0) (g.values part key slot
        (sym (find-append part key xs ys ∙ ap (λ o. option_or o (find ys part key)) e) ∙ there))
    by_find part key slot there (Some s) e = more part key (length slot.0) (h.values part key slot
        (e ∙ sym (find-append part key xs ys ∙ ap (λ o. option_or o (find ys part key)) e) ∙ there))

    by_place : (part : ℕ) (key : OrderedKey) → (is_among a part key ≡ true) ⊎ (is_among b part key ≡ true) →
        IsSome (find (xs ++ ys) part key)
    by_place part key (inl among) = stands_first part key xs ys (h.places part key among)
    by_place part key (inr among) = stands_next part key xs ys (g.places part key among)

nothing_has : HaveRoom [] []
nothing_has = record {
  values = λ part key slot there. absurd (cc);
  places = λ part key among. absurd (cc);
}

pub all_have : (ks : List Shape) → AllByRecursion (λ (k : Shape). IsRoomed k) ks →
    HaveRoom (all_entries ks) (all_roomy ks)
all_have [] a = nothing_has
all_have (k ∷ ks) a = have_both k.entries (all_entries ks) k.roomy (all_roomy ks) a.0 (all_have ks a.1)

pub all_roomy-append : (xs ys : List Shape) → all_roomy (xs ++ ys) ≡ all_roomy xs ++ all_roomy ys
all_roomy-append [] ys = refl
all_roomy-append (x ∷ xs) ys = ap (λ l. x.roomy ++ l) (all_roomy-append xs ys) ∙
    sym (append_assoc x.roomy (all_roomy xs) (all_roomy ys))

-- ---- one child

-- the room of an entry of a child is that in the child
pub among_child : (part : ℕ) (key : OrderedKey) (ks : List Shape) (i : ℕ) (k : Shape) → IsRising (all_entries ks) →
    AllByRecursion (λ (j : Shape). IsRoomed j) ks → i < length ks → k ≡ get_or ks i k →
    IsSome (find k.entries part key) →
    is_among (all_roomy ks) part key ≡ true → is_among k.roomy part key ≡ true
among_child part key [] i k rising roomed lt here stands h = absurd (omega arith)
among_child part key (c ∷ ks) zero k rising roomed lt here stands h =
    by (among_in part key c.roomy (all_roomy ks) h)
  where
    by : (is_among c.roomy part key ≡ true) ⊎ (is_among (all_roomy ks) part key ≡ true) →
        is_among k.roomy part key ≡ true
    by (inl first) = subst (λ (s : Shape). is_among s.roomy part key ≡ true) (sym here) first
    by (inr next) = absurd (apart part key c.entries (all_entries ks) rising
        (subst (λ (s : Shape). IsSome (find s.entries part key)) here stands)
        ((all_have ks roomed.1).places part key next))
among_child part key (c ∷ ks) (suc i) k rising roomed lt here stands h =
    by (among_child part key ks i k (rising_back c.entries (all_entries ks) rising) roomed.1 (omega arith) here stands)
    (among_in part key c.roomy (all_roomy ks) h)
  where
    by : (is_among (all_roomy ks) part key ≡ true → is_among k.roomy part key ≡ true) →
        (is_among c.roomy part key ≡ true) ⊎ (is_among (all_roomy ks) part key ≡ true) →
        is_among k.roomy part key ≡ true
    by rest (inl first) = absurd (apart part key c.entries (all_entries ks) rising (roomed.0.places part key first)
        (some_in part key ks i k (omega arith) here stands))
    by rest (inr next) = rest next

pub room_child : (part : ℕ) (key : OrderedKey) (ks : List Shape) (i : ℕ) (k : Shape) (bytes : ℕ) →
    IsRising (all_entries ks) → AllByRecursion (λ (j : Shape). IsRoomed j) ks → i < length ks → k ≡ get_or ks i k →
    IsSome (find k.entries part key) → HasRoom (all_roomy ks) part key bytes → HasRoom k.roomy part key bytes
room_child part key ks i k bytes rising roomed lt here stands (inl short) = inl short
room_child part key ks i k bytes rising roomed lt here stands (inr among) =
    inr (among_child part key ks i k rising roomed lt here stands among)

pub room_up : (part : ℕ) (key : OrderedKey) (ks : List Shape) (i : ℕ) (k : Shape) (bytes : ℕ) → i < length ks →
    k ≡ get_or ks i k → HasRoom k.roomy part key bytes → HasRoom (all_roomy ks) part key bytes
room_up part key ks i k bytes lt here (inl short) = inl short
room_up part key ks i k bytes lt here (inr among) = inr (among_up part key ks i k lt here among)

-- with others in place of one child, which keep its room
pub kept_in_place : (ks : List Shape) (i : ℕ) (k : Shape) (nk : List Shape) → IsRising (all_entries ks) →
    AllByRecursion (λ (j : Shape). IsRoomed j) ks → i < length ks → k ≡ get_or ks i k
    → KeepRoom k.roomy (all_roomy nk) (all_entries nk)
    → (part : ℕ) (key : OrderedKey) → is_among (all_roomy ks) part key ≡ true →
    IsSome (find (all_entries (in_place ks i nk)) part key) → is_among (all_roomy (in_place ks i nk)) part key ≡ true
kept_in_place [] i k nk rising roomed lt here keep part key among stands = absurd (omega arith)
kept_in_place (c ∷ ks) zero k nk rising roomed lt here keep part key among stands =
    subst (λ l. is_among l part key ≡ true) (sym (all_roomy-append nk ks))
    (by (among_in part key c.roomy (all_roomy ks) among)
    (stands_in part key (all_entries nk) (all_entries ks)
    (subst (λ es. IsSome (find es part key)) (all_entries-append nk ks) stands)))
  where
    by : (is_among c.roomy part key ≡ true) ⊎ (is_among (all_roomy ks) part key ≡ true) →
        IsSome (find (all_entries nk) part key) ⊎ IsSome (find (all_entries ks) part key) →
        is_among (all_roomy nk ++ all_roomy ks) part key ≡ true
    by (inl first) (inl now) = among_first part key (all_roomy nk) (all_roomy ks) (keep.kept part key
        (subst (λ (s : Shape). is_among s.roomy part key ≡ true) (sym here) first) now)
    by (inl first) (inr later) =
        absurd (apart part key c.entries (all_entries ks) rising (roomed.0.places part key first) later)
    by (inr next) now = among_next part key (all_roomy nk) (all_roomy ks) next
kept_in_place (c ∷ ks) (suc i) k nk rising roomed lt here keep part key among stands =
    by (kept_in_place ks i k nk (rising_back c.entries (all_entries ks) rising) roomed.1 (omega arith) here keep part
    key)
    (among_in part key c.roomy (all_roomy ks) among)
    (stands_in part key c.entries (all_entries (in_place ks i nk)) stands)
  where
    by : (is_among (all_roomy ks) part key ≡ true → IsSome (find (all_entries (in_place ks i nk)) part key) →
        is_among (all_roomy (in_place ks i nk)) part key ≡ true) → (is_among c.roomy part key ≡ true) ⊎
        (is_among (all_roomy ks) part key ≡ true) →
        IsSome (find c.entries part key) ⊎ IsSome (find (all_entries (in_place ks i nk)) part key) →
        is_among (c.roomy ++ all_roomy (in_place ks i nk)) part key ≡ true
    by rest (inl first) now = among_first part key c.roomy (all_roomy (in_place ks i nk)) first
    by rest (inr next) (inl now) = absurd (apart part key c.entries (all_entries ks) rising now
        ((all_have ks roomed.1).places part key next))
    by rest (inr next) (inr now) = among_next part key c.roomy (all_roomy (in_place ks i nk)) (rest next now)

-- the children of a node, one of which was edited
module _ (ks : List Shape) (i : ℕ) (k : Shape) (rising : IsRising (all_entries ks))
    (roomed : AllByRecursion (λ (j : Shape). IsRoomed j) ks) (lt : i < length ks) (here : k ≡ get_or ks i k) where
  keeps_by : (nk ls : List Shape) → ls ≡ in_place ks i nk → KeepRoom k.roomy (all_roomy nk) (all_entries nk) →
      AllByRecursion (λ (j : Shape). IsRoomed j) nk → KeepsRoom (inner_shape ks) (inner_shape ls)
  keeps_by nk ls is keep new_roomed = subst (λ js. KeepRoom (all_roomy ks) (all_roomy js) (all_entries js)) (sym is)
      (record {
        kept = kept_in_place ks i k nk rising roomed lt here keep;
        have = all_have (in_place ks i nk) (all_in_place (λ (j : Shape). IsRoomed j) ks i nk roomed new_roomed);
      })

  as_one : (k' : Shape) → KeepsRoom k k' → KeepRoom k.roomy (all_roomy (k' ∷ [])) (all_entries (k' ∷ []))
  as_one k' keep = subst (λ rs. KeepRoom k.roomy rs (k'.entries ++ [])) (sym (append-nil k'.roomy))
      (subst (KeepRoom k.roomy k'.roomy) (sym (append-nil k'.entries)) keep)

  pub keeps_set : (k' : Shape) → KeepsRoom k k' → KeepsRoom (inner_shape ks) (inner_shape (set ks i k'))
  keeps_set k' keeps = keeps_by (k' ∷ []) (set ks i k') (set_split ks i k' lt) (as_one k' keeps) (keeps.have, tt)

  pub keeps_removed : (k' : Shape) → KeepsRoom (inner_shape ks) (inner_shape (remove (set ks i k') i))
  keeps_removed k' = keeps_by [] (remove (set ks i k') i) (remove_set ks i k')
      (record {
        kept = λ part key among stands. absurd (cc);
        have = nothing_has;
      }) tt

  pub keeps_split : (k' right : Shape) (ls : List Shape) → ls ≡ in_place ks i (k' ∷ right ∷ []) →
      RoomIsSplit k k' right → KeepsRoom (inner_shape ks) (inner_shape ls)
  keeps_split k' right ls is split =
      keeps_by (k' ∷ right ∷ []) ls is
      (subst (λ rs. KeepRoom k.roomy (k'.roomy ++ rs) (all_entries (k' ∷ right ∷ []))) (sym (append-nil right.roomy))
      (subst (λ es. KeepRoom k.roomy (k'.roomy ++ right.roomy) (k'.entries ++ es)) (sym (append-nil right.entries))
      split.kept)) (split.roomed, (split.right_roomed, tt))

-- ---- a leaf

module _ (part : ℕ) (key : OrderedKey) where
  fits_there : (n : ℕ) (es : List Entry) (slot : Slot) → AllByRecursion (λ (e : Entry). length e.value ≤ n) es →
      find es part key ≡ Some slot → length slot.0 ≤ n
  fits_there n [] slot a there = absurd (cc)
  fits_there n (e ∷ es) slot a there = by (is_eq (place_cmp (place_of e) (part, key))) refl
      (fits_there n es slot a.1)
    where
      by : (b : Bool) → is_eq (place_cmp (place_of e) (part, key)) ≡ b →
          (find es part key ≡ Some slot → length slot.0 ≤ n) → length slot.0 ≤ n
      by true h rest = let it : Some (slot_of e) ≡ Some slot = sym (ap (λ b. option_map slot_of (if b then Some e else
          entry_at es part key)) h) ∙ there in
          let same : slot_of e ≡ slot = cc it in subst (λ (s : Slot). length s.0 ≤ n) same a.0
      by false h rest = rest (sym (ap (λ b. option_map slot_of (if b then Some e else entry_at es part key)) h) ∙ there)

abbrev pub places_of_all : List Entry → List Place
places_of_all es = map (λ (e : Entry). place_of e) es

pub roomy_wide : (l : Seen) → 64 ≤ l.value_room → leaf_roomy l ≡ places_of_all l.entries
roomy_wide l wide = ap (λ b. if b then [] else places_of_all l.entries) (le-ltb l.value_room 64 wide)

pub roomy_short : (l : Seen) → l.value_room < 64 → leaf_roomy l ≡ []
roomy_short l short = ap (λ b. if b then [] else places_of_all l.entries) (lt-ltb l.value_room 64 short)

-- where a leaf has a place with room for any value, it is wide
pub wide_from : (l : Seen) (part : ℕ) (key : OrderedKey) → is_among (leaf_roomy l) part key ≡ true → 64 ≤ l.value_room
wide_from l part key among = by (nat_lt l.value_room 64) refl
  where
    by : (b : Bool) → nat_lt l.value_room 64 ≡ b → 64 ≤ l.value_room
    by true h = absurd (cc (among, ap (λ rs. is_among rs part key) (roomy_short l (ltb-true l.value_room 64 h))))
    by false h = ltb-false l.value_room 64 h

pub among_wide : (l : Seen) (part : ℕ) (key : OrderedKey) → 64 ≤ l.value_room → IsSome (find l.entries part key) →
    is_among (leaf_roomy l) part key ≡ true
among_wide l part key wide stands = ap (λ rs. is_among rs part key) (roomy_wide l wide) ∙ among_all l.entries part key ∙
    stands

pub leaf_roomed : (l : Seen) → ValuesHaveRoom l → IsRoomed (leaf_shape l)
leaf_roomed l has = record {
  values = λ part key slot there. by part key slot there has.kind;
  places = λ part key among. sym (among_all l.entries part key) ∙
      sym (ap (λ rs. is_among rs part key) (roomy_wide l (wide_from l part key among))) ∙ among;
}
  where
    by : (part : ℕ) (key : OrderedKey) (slot : Slot) → find l.entries part key ≡ Some slot →
        (l.value_room ≡ 16) ⊎ (l.value_room ≡ 64) → HasRoom (leaf_roomy l) part key (length slot.0)
    by part key slot there (inl short) = inl (omega (
      arith,
      short,
      fits_there part key l.value_room l.entries slot has.none_longer there,
    ))
    by part key slot there (inr wide) = inr (among_wide l part key (omega (arith, wide)) (ap is_some there))

-- an edit of a leaf that keeps its kind or widens it
pub leaf_keeps : (old new : Seen) → ValuesHaveRoom new → old.value_room ≤ new.value_room →
    KeepsRoom (leaf_shape old) (leaf_shape new)
leaf_keeps old new has more = record {
  kept = λ part key among stands. among_wide new part key (omega (arith, more, wide_from old part key among)) stands;
  have = leaf_roomed new has;
}

-- the leaf and its right sibling
pub leaves_keep : (old new right : Seen) → ValuesHaveRoom new → ValuesHaveRoom right →
    old.value_room ≤ new.value_room → old.value_room ≤ right.value_room →
    RoomIsSplit (leaf_shape old) (leaf_shape new) (leaf_shape right)
leaves_keep old new right has right_has more right_more = record {
  kept = record {
    kept = λ part key among stands. by part key (wide_from old part key among)
        (stands_in part key new.entries right.entries stands);
    have = have_both new.entries right.entries (leaf_roomy new) (leaf_roomy right) (leaf_roomed new has)
        (leaf_roomed right right_has);
  };
  roomed = leaf_roomed new has;
  right_roomed = leaf_roomed right right_has;
}
  where
    by : (part : ℕ) (key : OrderedKey) → 64 ≤ old.value_room →
        IsSome (find new.entries part key) ⊎ IsSome (find right.entries part key) →
        is_among (leaf_roomy new ++ leaf_roomy right) part key ≡ true
    by part key wide (inl here) = among_first part key (leaf_roomy new) (leaf_roomy right)
        (among_wide new part key (omega (arith, more, wide)) here)
    by part key wide (inr there) = among_next part key (leaf_roomy new) (leaf_roomy right)
        (among_wide right part key (omega (arith, right_more, wide)) there)

-- a leaf that stays as it is, and a new one after it
pub leaf_and_next : (old right : Seen) → ValuesHaveRoom old → ValuesHaveRoom right →
    RoomIsSplit (leaf_shape old) (leaf_shape old) (leaf_shape right)
leaf_and_next old right has right_has = record {
  kept = record {
    kept = λ part key among stands. among_first part key (leaf_roomy old) (leaf_roomy right) among;
    have = have_both old.entries right.entries (leaf_roomy old) (leaf_roomy right) (leaf_roomed old has)
        (leaf_roomed right right_has);
  };
  roomed = leaf_roomed old has;
  right_roomed = leaf_roomed right right_has;
}

-- a value that has room in the tree is no longer than its leaf has room for
pub leaf_fits : (l : Seen) (part : ℕ) (key : OrderedKey) (bytes : ℕ) → ValuesHaveRoom l → bytes ≤ 64 →
    HasRoom (leaf_roomy l) part key bytes → bytes ≤ l.value_room
leaf_fits l part key bytes has most (inl short) = by has.kind
  where
    by : (l.value_room ≡ 16) ⊎ (l.value_room ≡ 64) → bytes ≤ l.value_room
    by (inl e) = omega (arith, e, short)
    by (inr e) = omega (arith, e, short)
leaf_fits l part key bytes has most (inr among) = omega (arith, wide_from l part key among, most)

-- and the other way round
pub fits_leaf : (l : Seen) (part : ℕ) (key : OrderedKey) (bytes : ℕ) → ValuesHaveRoom l →
    IsSome (find l.entries part key) → bytes ≤ l.value_room → HasRoom (leaf_roomy l) part key bytes
fits_leaf l part key bytes has stands fits = by has.kind
  where
    by : (l.value_room ≡ 16) ⊎ (l.value_room ≡ 64) → HasRoom (leaf_roomy l) part key bytes
    by (inl e) = inl (omega (arith, e, fits))
    by (inr e) = inr (among_wide l part key (omega (arith, e)) stands)

-- ---- a node

pub tree_roomed : (n : Node) → IsTree n → (s : Shape) → shape_of n ≡ s → IsRoomed s
tree_roomed (Leaf l) t s seen = subst IsRoomed seen (leaf_roomed l t.1.1)
tree_roomed (Inner separators children marks) t s seen =
    subst IsRoomed seen (all_have children.items t.0.children.roomed)

pub same_children : (ks ls : List Shape) → ls ≡ ks → AllByRecursion (λ (j : Shape). IsRoomed j) ks →
    KeepsRoom (inner_shape ks) (inner_shape ls)
same_children ks ls is roomed = subst (λ js. KeepsRoom (inner_shape ks) (inner_shape js)) (sym is)
    (keep_all (all_roomy ks) (all_entries ks) (all_have ks roomed))

-- the children, cut in two
pub cut_keeps : (m : ℕ) (ks lower upper : List Shape) → lower ≡ take m ks → upper ≡ drop m ks →
    AllByRecursion (λ (j : Shape). IsRoomed j) ks → RoomIsSplit (inner_shape ks) (inner_shape lower) (inner_shape upper)
cut_keeps m ks lower upper front back roomed =
    let whole : all_roomy (take m ks) ++ all_roomy (drop m ks) ≡ all_roomy ks =
    sym (all_roomy-append (take m ks) (drop m ks)) ∙ ap all_roomy (take-append-drop m ks) in
    subst (λ js. RoomIsSplit (inner_shape ks) (inner_shape js) (inner_shape upper)) (sym front)
    (subst (λ js. RoomIsSplit (inner_shape ks) (inner_shape (take m ks)) (inner_shape js)) (sym back) (record {
      kept = subst (λ rs. KeepRoom (all_roomy ks) rs (all_entries (take m ks) ++ all_entries (drop m ks))) (sym whole)
          (subst (KeepRoom (all_roomy ks) (all_roomy ks)) (sym (all_entries_cut m ks))
          (keep_all (all_roomy ks) (all_entries ks) (all_have ks roomed)));
      roomed = all_have (take m ks) (AllByRecursion-take (λ (j : Shape). IsRoomed j) m ks roomed);
      right_roomed = all_have (drop m ks) (AllByRecursion-drop (λ (j : Shape). IsRoomed j) m ks roomed);
    }))

-- ---- one edit after another

-- where only others were put after the entries between them
pub keeps_further : (old mid new : Shape) → IsRoomed old → (more : List Entry) → mid.entries ≡ old.entries ++ more →
    KeepsRoom old mid → KeepsRoom mid new → KeepsRoom old new
keeps_further old mid new roomed more is first second =
    keep_on old.roomy mid.roomy new.roomy mid.entries new.entries first second
    (λ part key among _. subst (λ es. IsSome (find es part key)) (sym is)
    (stands_first part key old.entries more (roomed.places part key among)))
