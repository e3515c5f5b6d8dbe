-- One entry more below one of a node's children.
use Rattle.std.proofs.Common.{◌≡◌, ◌≢◌, ℕ, zero, suc, ◌+◌, ◌-◌, ◌<◌, ◌≤◌, true, false, List, [], ◌∷◌, ◌++◌, length}
use Rattle.std.proofs.Common.{get_or, set, take, drop, None, if◌then◌else◌, refl, sym, ap, ◌∙◌, subst}
use Rattle.std.proofs.Common.{append-nil, length-set, inl, inr, ◌⊎◌, arith}
use Rattle.std.specs.declared.cmp.Ordering.TheVariants.{Less, Greater}
use Rattle.std.specs.Ordering.{is_lt}
use Rattle.std.specs.Cmp.{tied_itself}
use Rattle.std.specs.List.{insert, AllByRecursion}
use Rattle.std.proofs.lemmas.List.{take-append-drop, set_split}
use Rattle.std.proofs.Math.Seq.{drop-cons}
use Rattle.am_record.specs.OrderedKey.{OrderedKey}
use Rattle.am_record.specs.declared.entry.Entry.{Entry}
use Rattle.am_record.specs.EntryOrder.{Place, place_of, place_cmp, place_cmp-total}
use Rattle.am_record.proofs.Lists.{AllByRecursion-map, AllByRecursion-append, AllByRecursion-front, AllByRecursion-take}
use Rattle.am_record.proofs.Lists.{AllByRecursion-drop, AllByRecursion-at}
use Rattle.am_record.proofs.PlaceOrder.{turned_less, turned_greater}
use Rattle.am_index.specs.Entries.{entry_at, find, insert_entry, IsRising}
use Rattle.am_index.specs.Places.{AllBelow, NoneBelow, AllAbove}
use Rattle.am_index.proofs.Lists.{insert_entry-append}
use Rattle.am_index.proofs.Edits.{rising_inserted as entry_inserted}
use Rattle.am_index.proofs.Insertions.{option_none}
use Rattle.am_index_btree.specs.declared.separator.Separator.{Separator}
use Rattle.am_index_btree.specs.Shape.{Shape}
use Rattle.am_index_btree.specs.Rooms.{IsRoomed}
use Rattle.am_index_btree.specs.Separators.{separator_place, separator_for, lowered, IsReach, IsChildFor}
use Rattle.am_index_btree.specs.Nodes.{all_entries, depth_of, AreParted, AreFilledChildren, AreChildren}
use Rattle.am_index_btree.specs.Nodes.{IsInner}
use Rattle.am_index_btree.specs.declared.insert.Split.{Split}
use Rattle.am_index_btree.specs.InsertResults.{HasSplit}
use Rattle.am_index_btree.proofs.Children.{all_above_through}
use Rattle.am_index_btree.proofs.ChildWalks.{below, above, children_cut}
use Rattle.am_index_btree.proofs.ChildHalves.{all_both, all_in_each, parted_lengths, all_entries-append, depth_level}
use Rattle.am_index_btree.proofs.ChildHalves.{separators_apart, inner_from}

-- ---- the list with the entry

pub none_below_above : (p : Place) (es : List Entry) → AllAbove p es → NoneBelow p es
none_below_above p es a = AllByRecursion-map (λ e. place_cmp (place_of e) p ≡ Greater)
    (λ e. place_cmp (place_of e) p ≢ Less) (λ e g less. absurd (cc)) es a

pub insert_entry-front : (x : Entry) (xs ys : List Entry) → AllAbove (place_of x) ys →
    insert_entry (xs ++ ys) x ≡ insert_entry xs x ++ ys
insert_entry-front x [] ys a = insert_entry-append x [] ys tt (none_below_above (place_of x) ys a)
insert_entry-front x (e ∷ xs) ys a =
    elim (is_lt (place_cmp (place_of e) (place_of x))) as
    (λ b. (if b then e ∷ insert_entry (xs ++ ys) x else x ∷ e ∷ (xs ++ ys)) ≡
    ((if b then e ∷ insert_entry xs x else x ∷ e ∷ xs) ++ ys))
    [ true ↦ ap (λ l. e ∷ l) (insert_entry-front x xs ys a) | false ↦ refl ]

pub insert_entry-back : (x : Entry) (xs ys : List Entry) → AllBelow (place_of x) xs → insert_entry (xs ++ ys) x ≡ xs ++
    insert_entry ys x
insert_entry-back x [] ys b = refl
insert_entry-back x (e ∷ xs) ys b = rw b.0 (ap (λ l. e ∷ l) (insert_entry-back x xs ys b.1))

pub all_insert : (P : Entry → Type 0) (es : List Entry) (x : Entry) → AllByRecursion P es → P x →
    AllByRecursion P (insert_entry es x)
all_insert P [] x a h = (h, tt)
all_insert P (e ∷ es) x a h =
    elim (is_lt (place_cmp (place_of e) (place_of x))) as
    (λ b. AllByRecursion P (if b then e ∷ insert_entry es x else x ∷ e ∷ es))
    [ true ↦ (a.0, all_insert P es x a.1 h) | false ↦ (h, a) ]

pub insert_some : (es : List Entry) (x : Entry) → 0 < length (insert_entry es x)
insert_some [] x = omega arith
insert_some (e ∷ es) x =
    elim (is_lt (place_cmp (place_of e) (place_of x))) as
    (λ b. 0 < length (if b then e ∷ insert_entry es x else x ∷ e ∷ es)) [ true ↦ omega arith | false ↦ omega arith ]

pub rising_inserted : (es : List Entry) (x : Entry) → IsRising es → find es x.part x.key ≡ None →
    IsRising (insert_entry es x)
rising_inserted es x r n = entry_inserted es x r (option_none _ (entry_at es x.part x.key) n)

-- ---- a part of a list in place of one value

-- the list with `ys` in place of the value at the index
abbrev pub in_place : {X : Type 0} → List X → ℕ → List X → List X
in_place xs i ys = take i xs ++ (ys ++ drop (suc i) xs)

pub insert_next : {X : Type 0} (xs D : List X) (i : ℕ) (y z : X) → i < length xs → insert (take i xs ++ y ∷ D) (suc i)
    z ≡ take i xs ++ y ∷ z ∷ D
insert_next [] D i y z lt = absurd (omega arith)
insert_next (x ∷ xs) D zero y z lt = refl
insert_next (x ∷ xs) D (suc i) y z lt = ap (λ l. x ∷ l) (insert_next xs D i y z (omega arith))

pub all_in_place : {X : Type 0} (P : X → Type 0) (xs : List X) (i : ℕ) (ys : List X) → AllByRecursion P xs →
    AllByRecursion P ys → AllByRecursion P (in_place xs i ys)
all_in_place P xs i ys a b = AllByRecursion-append P (take i xs) (ys ++ drop (suc i) xs) (AllByRecursion-take P i xs a)
    (AllByRecursion-append P ys (drop (suc i) xs) b (AllByRecursion-drop P (suc i) xs a))

-- where a list of one alone may fail
filled_in_place : {X : Type 0} (P : X → Type 0) (xs : List X) (i : ℕ) (ys : List X) → i < length xs →
    (1 < length xs → AllByRecursion P xs) → AllByRecursion P ys → AllByRecursion P (in_place xs i ys)
filled_in_place P [] i ys lt f b = absurd (omega arith)
filled_in_place P (x ∷ []) zero ys lt f b = AllByRecursion-append P ys [] b tt
filled_in_place P (x ∷ []) (suc i) ys lt f b = absurd (omega arith)
filled_in_place P (x ∷ z ∷ xs) i ys lt f b = all_in_place P (x ∷ z ∷ xs) i ys (f (omega arith)) b

-- ---- parted again

join : (nl : List Separator) (nk : List Shape) (ls : List Separator) (ks : List Shape) → AreParted nl nk →
    AreParted ls ks
    → AllByRecursion (λ m. AllByRecursion (λ k. AllBelow (separator_place m) k.entries) nk) ls →
    AreParted (nl ++ ls) (nk ++ ks)
join [] [] ls ks a b c = b
join [] (k ∷ nk) ls ks a b c = absurd (omega (arith, a))
join (l ∷ nl) [] ls ks a b c = absurd (omega (arith, a))
join (l ∷ nl) (k ∷ nk) ls ks a b c =
    let P : Separator → Type 0 = λ m. AllBelow (separator_place m) k.entries in
    let Q : Separator → Type 0 = λ m. AllByRecursion (λ j. AllBelow (separator_place m) j.entries) nk in (
      a.0,
      AllByRecursion-append P nl ls a.1 (AllByRecursion-map (λ m. P m × Q m) P (λ m h. h.0) ls c),
      join nl nk ls ks a.2 b (AllByRecursion-map (λ m. P m × Q m) Q (λ m h. h.1) ls c),
    )

all_below_up : (l m : Place) (es : List Entry) → place_cmp l m ≡ Less → AllBelow l es → AllBelow m es
all_below_up l m es h b = AllByRecursion-map (λ e. place_cmp (place_of e) l ≡ Less)
    (λ e. place_cmp (place_of e) m ≡ Less) (λ e g. place_cmp-total.trans (place_of e) l m g h) es b

regrow : (i : ℕ) (ls : List Separator) (ks : List Shape) (low : Separator) (ms : List Separator) (nk : List Shape) →
    AreParted ls ks → i < length ls → (i ≡ 0) ⊎ (low ≡ get_or ls i low) → AreParted (low ∷ ms) nk
    → AllByRecursion (λ m. place_cmp (separator_place low) (separator_place m) ≡ Less) ms
    → AllByRecursion (λ m. AllByRecursion (λ k. AllBelow (separator_place m) k.entries) nk) (drop (suc i) ls)
    → AreParted (in_place ls i (low ∷ ms)) (in_place ks i nk)
regrow i [] ks low ms nk a lt same own apart later = absurd (omega arith)
regrow i (l ∷ ls) [] low ms nk a lt same own apart later = absurd (omega (arith, a))
regrow zero (l ∷ ls) (k ∷ ks) low ms nk a lt same own apart later = join (low ∷ ms) nk ls ks own a.2 later
regrow (suc i) (l ∷ ls) (k ∷ ks) low ms nk a lt (inl none) own apart later = absurd (omega arith)
regrow (suc i) (l ∷ ls) (k ∷ ks) low ms nk a lt (inr same) own apart later =
    let P : Separator → Type 0 = λ m. AllBelow (separator_place m) k.entries in
    let here : P low = subst P (sym same) (AllByRecursion-at P ls i low a.1 (omega arith)) in
    let more : AllByRecursion P ms = AllByRecursion-map (λ m. place_cmp (separator_place low) (separator_place m) ≡
    Less) P (λ m h. all_below_up (separator_place low) (separator_place m) k.entries h here) ms apart in (
      a.0,
      all_in_place P ls i (low ∷ ms) a.1 (here, more),
      regrow i ls ks low ms nk a.2 (omega arith) (inr same) own
          apart later,
    )

-- ---- the child for a place

all_at_take : {X : Type 0} (P : X → Type 0) (n : ℕ) (xs : List X) (d : X) → AllByRecursion P (take (suc n) xs) →
    n < length xs → P (get_or xs n d)
all_at_take P n [] d a lt = absurd (omega arith)
all_at_take P zero (x ∷ xs) d a lt = a.0
all_at_take P (suc n) (x ∷ xs) d a lt = all_at_take P n xs d a.1 (omega arith)

pub later_separators : (i : ℕ) (ls : List Separator) (ks : List Shape) (k : Shape) → AreParted ls ks → i < length ls →
    k ≡ get_or ks i k → AllByRecursion (λ m. AllBelow (separator_place m) k.entries) (drop (suc i) ls)
later_separators i [] ks k a lt here = absurd (omega arith)
later_separators i (l ∷ ls) [] k a lt here = absurd (omega (arith, a))
later_separators zero (l ∷ ls) (c ∷ ks) k a lt here =
    subst (λ (s : Shape). AllByRecursion (λ m. AllBelow (separator_place m) s.entries) ls) (sym here) a.1
later_separators (suc i) (l ∷ ls) (c ∷ ks) k a lt here = later_separators i ls ks k a.2 (omega arith) here

pub own_separator : (i : ℕ) (ls : List Separator) (ks : List Shape) (k : Shape) (d : Separator) → AreParted ls ks →
    i < length ls → k ≡ get_or ks i k → NoneBelow (separator_place (get_or ls i d)) k.entries
own_separator i [] ks k d a lt here = absurd (omega arith)
own_separator i (l ∷ ls) [] k d a lt here = absurd (omega (arith, a))
own_separator zero (l ∷ ls) (c ∷ ks) k d a lt here = subst (λ (s : Shape). NoneBelow (separator_place l) s.entries)
    (sym here) a.0
own_separator (suc i) (l ∷ ls) (c ∷ ks) k d a lt here = own_separator i ls ks k d a.2 (omega arith) here

abbrev pub before : ℕ → ℕ
before zero = 0
before (suc n) = n

pub before_is : (n : ℕ) → before n ≡ n - 1
before_is zero = omega arith
before_is (suc n) = omega arith

pub child_from_reach : (ls : List Separator) (part : ℕ) (key : OrderedKey) (n : ℕ) → 0 < length ls →
    IsReach ls part key n → IsChildFor ls part key (before n)
child_from_reach ls part key zero some r = record {
  in_range = some;
  reached = inl refl;
  above = AllByRecursion-drop (λ l. place_cmp (separator_place l) (part, key) ≡ Greater) 1 ls r.above;
}
child_from_reach ls part key (suc n) some r = record {
  in_range = omega (arith, r.in_range);
  reached = inr (λ d. all_at_take (λ l. place_cmp (separator_place l) (part, key) ≢ Greater) n ls d r.reached
      (omega (arith, r.in_range)));
  above = r.above;
}

-- where the child for an entry begins, once it is lowered
abbrev pub new_separator : List Separator → ℕ → Entry → Separator
new_separator ls zero x = separator_for x
new_separator ls (suc n) x = get_or ls n (separator_for x)

get_again : {X : Type 0} (xs : List X) (k : ℕ) (d : X) → get_or xs k d ≡ get_or xs k (get_or xs k d)
get_again [] k d = refl
get_again (x ∷ xs) zero d = refl
get_again (x ∷ xs) (suc k) d = get_again xs k d

pub lowered_is : (ls : List Separator) (n : ℕ) (x : Entry) → 0 < length ls → n ≤ length ls →
    lowered ls n x ≡ in_place ls (before n) (new_separator ls n x ∷ [])
lowered_is ls zero x some le = set_split ls 0 (separator_for x) some
lowered_is ls (suc n) x some le = sym (take-append-drop n ls) ∙
    ap (λ l. take n ls ++ l) (drop-cons ls n (separator_for x) (omega arith))

same_separator : (ls : List Separator) (n : ℕ) (x : Entry) → (before n ≡ 0) ⊎
    (new_separator ls n x ≡ get_or ls (before n) (new_separator ls n x))
same_separator ls zero x = inl refl
same_separator ls (suc n) x = inr (get_again ls n (separator_for x))

not_above : (ls : List Separator) (n : ℕ) (x : Entry) → IsReach ls x.part x.key n →
    place_cmp (separator_place (new_separator ls n x)) (place_of x) ≢ Greater
not_above ls zero x r g = absurd (cc (tied_itself place_cmp-total (place_of x)))
not_above ls (suc n) x r g = all_at_take (λ l. place_cmp (separator_place l) (place_of x) ≢ Greater) n ls
    (separator_for x) r.reached (omega (arith, r.in_range)) g

none_below_separator : (ls : List Separator) (ks : List Shape) (n : ℕ) (x : Entry) (k : Shape) → AreParted ls ks →
    0 < length ls → IsReach ls x.part x.key n → k ≡ get_or ks (before n) k →
    NoneBelow (separator_place (new_separator ls n x)) k.entries
none_below_separator ls ks zero x k a some r here =
    let l = get_or ls 0 (separator_for x) in
    none_below_above (place_of x) k.entries (all_above_through (separator_place l) (place_of x) k.entries
    (own_separator 0 ls ks k (separator_for x) a some here)
    (AllByRecursion-at (λ m. place_cmp (separator_place m) (place_of x) ≡ Greater) ls 0 (separator_for x) r.above
    some))
none_below_separator ls ks (suc n) x k a some r here = own_separator n ls ks k (separator_for x) a
    (omega (arith, r.in_range)) here

module _ (x : Entry) (d : ℕ) (ls : List Separator) (ks : List Shape) (n : ℕ) (k : Shape) (c : AreChildren d ls ks)
    (some : 0 < length ks) (r : IsReach ls x.part x.key n) (absent : find (all_entries ks) x.part x.key ≡ None)
    (here : k ≡ get_or ks (before n) k) where
  abbrev low : Separator
  low = new_separator ls n x

  some_separators : 0 < length ls
  some_separators = omega (arith, parted_lengths ls ks c.parted)

  pub child : IsChildFor ls x.part x.key (before n)
  child = child_from_reach ls x.part x.key n some_separators r

  child_in : before n < length ks
  child_in = omega (arith, child.in_range, parted_lengths ls ks c.parted)

  -- no entry of the child, with the new one, is below its separator
  pub none_below : NoneBelow (separator_place low) (insert_entry k.entries x)
  none_below = all_insert (λ e. place_cmp (place_of e) (separator_place low) ≢ Less) k.entries x
      (none_below_separator ls ks n x k c.parted some_separators r here)
      (λ less. not_above ls n x r (turned_less (place_of x) (separator_place low) less))

  all_later : AllByRecursion (λ m. AllBelow (separator_place m) (insert_entry k.entries x)) (drop (suc (before n)) ls)
  all_later = all_both (λ m. AllBelow (separator_place m) k.entries)
      (λ m. place_cmp (separator_place m) (place_of x) ≡ Greater)
      (λ m. AllBelow (separator_place m) (insert_entry k.entries x))
      (λ m b g. all_insert (λ e. place_cmp (place_of e) (separator_place m) ≡ Less) k.entries x b
      (turned_greater (separator_place m) (place_of x) g))
      (drop (suc (before n)) ls) (later_separators (before n) ls ks k c.parted child.in_range here) child.above

  module _ (ms : List Separator) (nk : List Shape) (own : AreParted (low ∷ ms) nk)
      (apart : AllByRecursion (λ m. place_cmp (separator_place low) (separator_place m) ≡ Less) ms)
      (all : all_entries nk ≡ insert_entry k.entries x) (level : AllByRecursion (λ (j : Shape). j.depth + 1 ≡ d) nk)
      (filled : AllByRecursion (λ (j : Shape). 0 < length j.entries) nk) where
    pub regrown_entries : all_entries (in_place ks (before n) nk) ≡ insert_entry (all_entries ks) x
    regrown_entries =
        let front = all_entries (take (before n) ks) in let behind = all_entries (drop (suc (before n)) ks) in
        all_entries-append (take (before n) ks) (nk ++ drop (suc (before n)) ks)
        ∙ ap (λ es. front ++ es) (all_entries-append nk (drop (suc (before n)) ks) ∙ ap (λ es. es ++ behind) all ∙
        sym (insert_entry-front x k.entries behind (above x.part x.key d ls ks c (before n) child)))
        ∙ sym (ap (λ es. insert_entry es x) (children_cut ks (before n) k child_in here) ∙
        insert_entry-back x front (k.entries ++ behind) (below x.part x.key d ls ks c (before n) child))

    pub regrown : AllByRecursion (λ (j : Shape). IsRoomed j) nk →
        AreFilledChildren d (in_place ls (before n) (low ∷ ms)) (in_place ks (before n) nk)
    regrown roomed = record {
      level = all_in_place (λ (j : Shape). j.depth + 1 ≡ d) ks (before n) nk c.level level;
      filled = filled_in_place (λ (j : Shape). 0 < length j.entries) ks (before n) nk child_in c.filled filled;
      parted = regrow (before n) ls ks low ms nk c.parted child.in_range (same_separator ls n x) own apart
          (AllByRecursion-map (λ m. AllBelow (separator_place m) (insert_entry k.entries x))
          (λ m. AllByRecursion (λ j. AllBelow (separator_place m) j.entries) nk)
          (λ m b. all_in_each (λ e. place_cmp (place_of e) (separator_place m) ≡ Less) nk
          (subst (AllBelow (separator_place m)) (sym all) b)) (drop (suc (before n)) ls) all_later);
      roomed = all_in_place (λ (j : Shape). IsRoomed j) ks (before n) nk c.roomed roomed;
      rising = subst IsRising (sym regrown_entries) (rising_inserted (all_entries ks) x c.rising absent);
    }

  pub deep : k.depth + 1 ≡ d
  deep = subst (λ (s : Shape). s.depth + 1 ≡ d) (sym here)
      (AllByRecursion-at (λ (j : Shape). j.depth + 1 ≡ d) ks (before n) k c.level
      (omega (arith, child.in_range, parted_lengths ls ks c.parted)))

  pub within : before n < length ks
  within = omega (arith, child.in_range, parted_lengths ls ks c.parted)

  set_is : (k' : Shape) → set ks (before n) k' ≡ in_place ks (before n) (k' ∷ [])
  set_is k' = set_split ks (before n) k' within

  pub set_deep : (k' : Shape) → k'.depth ≡ k.depth → depth_of (set ks (before n) k') ≡ d
  set_deep k' e = ap depth_of (set_is k') ∙ depth_level d (in_place ks (before n) (k' ∷ []))
      (omega (arith, ap length (set_is k'), length-set ks (before n) k'))
      (all_in_place (λ (j : Shape). j.depth + 1 ≡ d) ks (before n) (k' ∷ []) c.level (omega (arith, deep), tt))

  lowered_now : (L : List Separator) → L ≡ lowered ls n x → L ≡ in_place ls (before n) (low ∷ [])
  lowered_now L e = e ∙ lowered_is ls n x some_separators r.in_range

  module _ (k' : Shape) (same_depth : k'.depth ≡ k.depth) (holds : k'.entries ≡ insert_entry k.entries x) where
    own_one : AreParted (low ∷ []) (k' ∷ [])
    own_one = (subst (NoneBelow (separator_place low)) (sym holds) none_below, tt, tt)

    all_one : all_entries (k' ∷ []) ≡ insert_entry k.entries x
    all_one = append-nil k'.entries ∙ holds

    filled_one : 0 < length k'.entries
    filled_one = omega (arith, ap length holds, insert_some k.entries x)

    pub one_children : IsRoomed k' → AreFilledChildren d (in_place ls (before n) (low ∷ []))
        (in_place ks (before n) (k' ∷ []))
    one_children roomed = regrown [] (k' ∷ []) own_one tt all_one (omega (arith, deep), tt) (filled_one, tt)
        (roomed, tt)

    pub one_inner : IsRoomed k' → (L : List Separator) → L ≡ lowered ls n x → (rk : ℕ) → 32 ≤ rk → length ks ≤ 32 →
        IsInner L (set ks (before n) k') rk
    one_inner roomed L e rk room most =
        inner_from d (in_place ls (before n) (low ∷ [])) (in_place ks (before n) (k' ∷ [])) L (set ks (before n) k')
        rk (lowered_now L e) (set_is k') (one_children roomed)
        (omega (arith, ap length (set_is k'), length-set ks (before n) k'))
        (omega (arith, ap length (set_is k'), length-set ks (before n) k')) room

    pub one_entries : all_entries (set ks (before n) k') ≡ insert_entry (all_entries ks) x
    one_entries = ap all_entries (set_is k') ∙ regrown_entries [] (k' ∷ []) own_one tt all_one (omega (arith, deep), tt)
        (filled_one, tt)

  module _ (k' : Shape) (s : Split) (h : HasSplit k.depth (insert_entry k.entries x) k' s) where
    none_both : NoneBelow (separator_place low) (k'.entries ++ s.right.entries)
    none_both = subst (NoneBelow (separator_place low)) (sym h.entries) none_below

    none_left : NoneBelow (separator_place low) k'.entries
    none_left = AllByRecursion-front (λ e. place_cmp (place_of e) (separator_place low) ≢ Less) k'.entries
        s.right.entries none_both

    own_two : AreParted (low ∷ s.separator ∷ []) (k' ∷ s.right ∷ [])
    own_two = (none_left, (h.below, tt), (h.others, tt, tt))

    all_two : all_entries (k' ∷ s.right ∷ []) ≡ insert_entry k.entries x
    all_two = ap (λ es. k'.entries ++ es) (append-nil s.right.entries) ∙ h.entries

    apart_two : place_cmp (separator_place low) (separator_place s.separator) ≡ Less
    apart_two = separators_apart (separator_place low) (separator_place s.separator) k'.entries h.left_some none_left
        h.below

    level_two : AllByRecursion (λ (j : Shape). j.depth + 1 ≡ d) (k' ∷ s.right ∷ [])
    level_two = (omega (arith, deep, h.depth), (omega (arith, deep, h.right_depth), tt))

    separators_are : (L : List Separator) → L ≡ lowered ls n x → insert L (before n + 1) s.separator ≡ in_place ls
        (before n) (low ∷ s.separator ∷ [])
    separators_are L e =
        ap (λ ms. insert ms (before n + 1) s.separator) (lowered_now L e) ∙
        ap (λ (j : ℕ). insert (in_place ls (before n) (low ∷ [])) j s.separator) {x = before n + 1}
        {y = suc (before n)} (omega arith)
        ∙ insert_next ls (drop (suc (before n)) ls) (before n) low s.separator child.in_range

    pub children_are : insert (set ks (before n) k') (before n + 1) s.right ≡ in_place ks (before n) (k' ∷ s.right ∷ [])
    children_are =
        ap (λ ms. insert ms (before n + 1) s.right) (set_is k') ∙
        ap (λ (j : ℕ). insert (in_place ks (before n) (k' ∷ [])) j s.right) {x = before n + 1} {y = suc (before n)}
        (omega arith)
        ∙ insert_next ks (drop (suc (before n)) ks) (before n) k' s.right within

    pub two_children : IsRoomed k' → IsRoomed s.right → (L : List Separator) → L ≡ lowered ls n x →
        AreFilledChildren (depth_of (set ks (before n) k'))
        (insert L (before n + 1) s.separator) (insert (set ks (before n) k') (before n + 1) s.right)
    two_children roomed right_roomed L e =
        subst (λ (j : ℕ). AreFilledChildren j (insert L (before n + 1) s.separator)
        (insert (set ks (before n) k') (before n + 1) s.right)) (sym (set_deep k' h.depth))
        (subst (λ ms. AreFilledChildren d ms (insert (set ks (before n) k') (before n + 1) s.right))
        (sym (separators_are L e))
        (subst (AreFilledChildren d (in_place ls (before n) (low ∷ s.separator ∷ []))) (sym children_are)
        (regrown (s.separator ∷ []) (k' ∷ s.right ∷ []) own_two (apart_two, tt) all_two level_two
        (h.left_some, (h.right_some, tt)) (roomed, (right_roomed, tt)))))

    pub two_entries : all_entries (insert (set ks (before n) k') (before n + 1) s.right) ≡ insert_entry (all_entries ks)
        x
    two_entries = ap all_entries children_are ∙ regrown_entries (s.separator ∷ []) (k' ∷ s.right ∷ []) own_two
        (apart_two, tt) all_two level_two (h.left_some, (h.right_some, tt))

pub length_lowered : (ls : List Separator) (n : ℕ) (x : Entry) → length (lowered ls n x) ≡ length ls
length_lowered ls zero x = length-set ls 0 (separator_for x)
length_lowered ls (suc n) x = refl
