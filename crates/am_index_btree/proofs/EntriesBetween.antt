-- Entries put among others of a child.
use Rattle.std.proofs.Common.{◌≡◌, ◌≢◌, ℕ, suc, ◌+◌, ◌<◌, List, [], ◌∷◌, ◌++◌, length, get_or, set, take, drop}
use Rattle.std.proofs.Common.{true, Option, None, Some, refl, sym, ap, ◌∙◌, subst, length-drop, arith}
use Rattle.std.proofs.Common.{⊎_elim}
use Rattle.std.proofs.Common.{inl, inr}
use Rattle.std.specs.Borrow.{Bor}
use Rattle.std.specs.Prelude.{◌⊎◌, ◌≤◌, slice_get, option_copied, IsSome}
use Rattle.std.proofs.lemmas.Bool.{not-true}
use Rattle.std.proofs.lemmas.Option.{slice_get_cases}
use Rattle.am_record.specs.OrderedKey.{OrderedKey}
use Rattle.std.proofs.lemmas.List.{length-take-le, drop_all}
use Rattle.std.specs.declared.cmp.Ordering.{Ordering}
use Rattle.std.specs.declared.cmp.Ordering.TheVariants.{Less, Equal, Greater}
use Rattle.std.specs.Ordering.{ordering_reverse}
use Rattle.std.specs.Option.{option_map, option_or}
use Rattle.std.specs.List.{AllByRecursion}
use Rattle.am_record.specs.declared.entry.Entry.{Entry}
use Rattle.am_record.specs.EntryOrder.{Place, place_of, place_cmp, place_cmp-total}
use Rattle.am_record.proofs.Lists.{AllByRecursion-map, AllByRecursion-back, AllByRecursion-take, AllByRecursion-drop}
use Rattle.am_record.proofs.Lists.{AllByRecursion-at, AllByRecursion-front}
use Rattle.am_record.proofs.PlaceOrder.{turned_less, turned_greater, below_same}
use Rattle.am_index.specs.Entries.{Slot, slot_of, entry_at, find, insert_entry, all_inserted, IsRising}
use Rattle.am_index.specs.Places.{AllBelow, NoneBelow, AllAbove, IsGapFor}
use Rattle.am_index.proofs.Insertions.{AllFree, free_before, all_of_both, rising_all_inserted}
use Rattle.am_index.proofs.Lists.{entry_at-append, below_itself, rising_back, rising_remove}
use Rattle.am_index_btree.specs.declared.separator.Separator.{Separator}
use Rattle.am_index_btree.specs.EntriesBetween.{is_below, IsAtOrAbove, GoesAmong}
use Rattle.am_index_btree.specs.Shape.{Shape}
use Rattle.am_index_btree.specs.Rooms.{KeepsRoom}
use Rattle.am_index_btree.specs.Separators.{separator_place, SeparatorsRise}
use Rattle.am_index_btree.specs.Nodes.{all_entries, inner_shape, IsInner}
use Rattle.am_index_btree.proofs.Children.{entry_at-front}
use Rattle.am_index_btree.proofs.OneChild.{IsEdited, parted_set, some_there, with_child}
use Rattle.am_index_btree.proofs.ChildWalks.{children_cut, children_set}
use Rattle.am_index_btree.proofs.ChildInserts.{own_separator, later_separators}
use Rattle.am_index_btree.proofs.ChildInserts.{none_below_above, insert_entry-front, insert_entry-back, insert_some}
use Rattle.am_index_btree.proofs.Inner.{as_many, over_children}
use Rattle.am_index_btree.proofs.SeparatorReach.{le_false}
use Rattle.am_index_btree.proofs.ChildHalves.{all_both, all_in_each, all_entries_cut}
use Rattle.am_index_btree.proofs.ChildHalves.{separators_apart}
use Rattle.am_index_btree.proofs.ChildHalves.{separators_rise, some_entries, parted_cut, get_dropped, AreParted-drop}

-- each goes among the entries, below the bound
abbrev pub AreAmong : List Entry → Option Separator → List Entry → Type 0
AreAmong es bound xs = AllByRecursion (GoesAmong es bound) xs

-- what is below a place is below each that isn't below that one
below_from : (x b m : Place) → place_cmp x b ≡ Less → place_cmp m b ≢ Less → place_cmp x m ≡ Less
below_from x b m h n = by (place_cmp m b) refl
  where
    turned : place_cmp b m ≡ ordering_reverse (place_cmp m b)
    turned = place_cmp-total.antisymm b m

    by : (o : Ordering) → place_cmp m b ≡ o → place_cmp x m ≡ Less
    by Less e = absurd (n e)
    by Equal e = below_same x b m h (turned ∙ ap ordering_reverse e)
    by Greater e = place_cmp-total.trans x b m h (turned ∙ ap ordering_reverse e)

below_bound : (bound : Option Separator) (x : Entry) (m : Place) → is_below bound x ≡ true → IsAtOrAbove bound m →
    place_cmp (place_of x) m ≡ Less
below_bound None x m low from = absurd from
below_bound (Some b) x m low from = below_from (place_of x) (separator_place b) m
    (turned_greater (separator_place b) (place_of x) (le_false _ (not-true _ low))) from

-- what goes after some entries of a list, and before others or below the bound, goes among them
pub among_gap : (es : List Entry) (bound : Option Separator) (x : Entry) (i : ℕ) → IsGapFor es x.part x.key i → 0 < i →
    (i < length es) ⊎ (is_below bound x ≡ true) → GoesAmong es bound x
among_gap es bound x i gap some end = record {
  above = λ l none. separators_apart l (place_of x) (take i es)
      (omega (arith, some, length-take-le i es gap.in_range))
      (AllByRecursion-take (λ e. place_cmp (place_of e) l ≢ Less) i es none) gap.below;
  below = λ m all from. ⊎_elim
      (λ (lt : i < length es). separators_apart (place_of x) m (drop i es) (omega (arith, lt, length-drop i es))
      (none_below_above (place_of x) (drop i es) gap.above)
      (AllByRecursion-drop (λ e. place_cmp (place_of e) m ≡ Less) i es all))
      (λ low. below_bound bound x m low from) end;
}

-- ---- what such entries keep

module _ (es : List Entry) (bound : Option Separator) (xs : List Entry) (among : AreAmong es bound xs) where
  pub none_below_among : (l : Place) → NoneBelow l es → NoneBelow l (all_inserted xs es)
  none_below_among l none = all_of_both (λ e. place_cmp (place_of e) l ≢ Less) xs es
      (AllByRecursion-map (GoesAmong es bound) (λ e. place_cmp (place_of e) l ≢ Less)
      (λ x b less. absurd (cc (turned_less l (place_of x) (b.above l none)))) xs among) none

  pub all_below_among : (m : Place) → AllBelow m es → IsAtOrAbove bound m → AllBelow m (all_inserted xs es)
  all_below_among m all from = all_of_both (λ e. place_cmp (place_of e) m ≡ Less) xs es
      (AllByRecursion-map (GoesAmong es bound) (λ e. place_cmp (place_of e) m ≡ Less) (λ x b. b.below m all from) xs
      among) all

  -- what goes among them goes among those that were there
  pub among_further : (x : Entry) → GoesAmong (all_inserted xs es) bound x → GoesAmong es bound x
  among_further x b = record {
    above = λ l none. b.above l (none_below_among l none);
    below = λ m all from. b.below m (all_below_among m all from) from;
  }

pub some_inserted : (xs es : List Entry) → 0 < length es → 0 < length (all_inserted xs es)
some_inserted [] es some = some
some_inserted (x ∷ xs) es some = some_inserted xs (insert_entry es x) (insert_some es x)

-- ---- a list that goes on before and after

inserted_front : (xs es ys : List Entry) → AllByRecursion (λ x. AllAbove (place_of x) ys) xs →
    all_inserted xs (es ++ ys) ≡ all_inserted xs es ++ ys
inserted_front [] es ys above = refl
inserted_front (x ∷ xs) es ys above = ap (all_inserted xs) (insert_entry-front x es ys above.0) ∙
    inserted_front xs (insert_entry es x) ys above.1

inserted_back : (xs ws es : List Entry) → AllByRecursion (λ x. AllBelow (place_of x) ws) xs →
    all_inserted xs (ws ++ es) ≡ ws ++ all_inserted xs es
inserted_back [] ws es below = refl
inserted_back (x ∷ xs) ws es below = ap (all_inserted xs) (insert_entry-back x ws es below.0) ∙
    inserted_back xs ws (insert_entry es x) below.1

each_above : (es ys : List Entry) → IsRising (es ++ ys) → AllByRecursion (λ y. AllBelow (place_of y) es) ys
each_above es [] rising = tt
each_above es (y ∷ ys) rising = (below_itself es y ys rising, each_above es ys (rising_remove es y ys rising))

-- entries from the bound on
abbrev AreFrom : Option Separator → List Entry → Type 0
AreFrom bound ys = AllByRecursion (λ y. IsAtOrAbove bound (place_of y)) ys

-- those after, from the bound on, are above what goes among the others
above_among : (es ys : List Entry) (bound : Option Separator) (x : Entry) → IsRising (es ++ ys) → AreFrom bound ys →
    GoesAmong es bound x → AllAbove (place_of x) ys
above_among es ys bound x rising from b =
    all_both (λ y. AllBelow (place_of y) es) (λ y. IsAtOrAbove bound (place_of y))
    (λ y. place_cmp (place_of y) (place_of x) ≡ Greater)
    (λ y below out. turned_less (place_of x) (place_of y) (b.below (place_of y) below out)) ys
    (each_above es ys rising) from

-- and those before are below it
below_among : (ws es : List Entry) (x : Entry) → IsRising (ws ++ es) →
    ((l : Place) → NoneBelow l es → place_cmp l (place_of x) ≡ Less) → AllBelow (place_of x) ws
below_among [] es x rising above = tt
below_among (w ∷ ws) es x rising above = (
  above (place_of w)
      (AllByRecursion-map (λ e. place_cmp (place_of w) (place_of e) ≡ Less)
      (λ e. place_cmp (place_of e) (place_of w) ≢ Less)
      (λ e lt less. absurd (cc (turned_less (place_of w) (place_of e) lt))) es
      (AllByRecursion-back (λ e. place_cmp (place_of w) (place_of e) ≡ Less) ws es rising.0)),
  below_among ws es x rising.1 above,
)

-- ---- one of a node's children

-- what holds of all entries holds of the child's
of_child : (P : Entry → Type 0) (ks : List Shape) (i : ℕ) (k : Shape) → i < length ks → k ≡ get_or ks i k →
    AllByRecursion P (all_entries ks) → AllByRecursion P k.entries
of_child P ks i k lt here all = subst (λ (s : Shape). AllByRecursion P s.entries) (sym here)
    (AllByRecursion-at (λ (s : Shape). AllByRecursion P s.entries) ks i k (all_in_each P ks all) lt)

above_up : (ks : List Shape) (i : ℕ) (k : Shape) → i < length ks → k ≡ get_or ks i k → (end : Option Separator)
    (x : Entry) → GoesAmong k.entries end x → (l : Place) → NoneBelow l (all_entries ks) →
    place_cmp l (place_of x) ≡ Less
above_up ks i k lt here end x b l none = b.above l (of_child (λ e. place_cmp (place_of e) l ≢ Less) ks i k lt here none)

module _ (ks : List Shape) (i : ℕ) (k : Shape) (lt : i < length ks) (here : k ≡ get_or ks i k)
    (rising : IsRising (all_entries ks)) (end : Option Separator) (from : AreFrom end (all_entries (drop (suc i) ks)))
  where
    abbrev before : List Entry
    before = all_entries (take i ks)

    abbrev behind : List Entry
    behind = all_entries (drop (suc i) ks)

    whole : all_entries ks ≡ before ++ (k.entries ++ behind)
    whole = children_cut ks i k lt here

    cut_rise : IsRising (before ++ (k.entries ++ behind))
    cut_rise = subst IsRising whole rising

    before_below : (x : Entry) → GoesAmong k.entries end x → AllBelow (place_of x) before
    before_below x b = below_among before (k.entries ++ behind) x cut_rise
        (λ l none. b.above l (AllByRecursion-front (λ e. place_cmp (place_of e) l ≢ Less) k.entries behind none))

    behind_above : (x : Entry) → GoesAmong k.entries end x → AllAbove (place_of x) behind
    behind_above x = above_among k.entries behind end x (rising_back before (k.entries ++ behind) cut_rise) from

    found_among : (x : Entry) → GoesAmong k.entries end x →
        entry_at (all_entries ks) x.part x.key ≡ entry_at k.entries x.part x.key
    found_among x b =
        ap (λ es. entry_at es x.part x.key) whole ∙
        entry_at-append x.part x.key before (k.entries ++ behind) (before_below x b) ∙
        entry_at-front x.part x.key k.entries behind (behind_above x b)

    entries_among : (k' : Shape) (xs : List Entry) → AreAmong k.entries end xs →
        k'.entries ≡ all_inserted xs k.entries → all_entries (set ks i k') ≡ all_inserted xs (all_entries ks)
    entries_among k' xs among h =
        children_set ks i k' lt ∙ ap (λ es. before ++ (es ++ behind)) h
        ∙ ap (λ es. before ++ es) (sym (inserted_front xs k.entries behind (AllByRecursion-map (GoesAmong k.entries end)
        (λ x. AllAbove (place_of x) behind) behind_above xs among)))
        ∙ sym (ap (all_inserted xs) whole ∙ inserted_back xs before (k.entries ++ behind) (AllByRecursion-map
        (GoesAmong k.entries end) (λ x. AllBelow (place_of x) before) before_below xs among))

-- ---- where a child ends

-- what follows the child lies from its bound on, and so does what lies after all of the node and from its bound on
pub record IsEnd (ls : List Separator) (ks : List Shape) (i : ℕ) (bound end : Option Separator) : Type 0 where
  entries : AreFrom end (all_entries (drop (suc i) ks))
  separators : AllByRecursion (λ m. IsAtOrAbove end (separator_place m)) (drop (suc i) ls)
  outer : (m : Place) → AllBelow m (all_entries ks) → IsAtOrAbove bound m → IsAtOrAbove end m

from_first : (ls : List Separator) (s : Separator) → s ≡ get_or ls 0 s → SeparatorsRise ls →
    AllByRecursion (λ m. IsAtOrAbove (Some s) (separator_place m)) ls
from_first [] s here rise = tt
from_first (l ∷ ls) s here rise = subst (λ (x : Separator). AllByRecursion
    (λ m. IsAtOrAbove (Some x) (separator_place m))
    (l ∷ ls)) (sym here) (
      (λ less. absurd (cc (turned_less (separator_place l) (separator_place l) less, less))),
      AllByRecursion-map (λ m. place_cmp (separator_place l) (separator_place m) ≡ Less)
          (λ m. place_cmp (separator_place m) (separator_place l) ≢ Less)
          (λ m up less. absurd (cc (turned_less (separator_place l) (separator_place m) up, less))) ls rise.0,
    )

module _ (ls : List Separator) (ks : List Shape) (rk : ℕ) (inner : IsInner ls ks rk) (i : ℕ)
    (bound : Option Separator) where
  pub end_of_last : suc i ≡ length ks → IsEnd ls ks i bound bound
  end_of_last last = record {
    entries = subst (λ (l : List Shape). AreFrom bound (all_entries l))
        (sym (drop_all (suc i) ks (omega (arith, last))))
        tt;
    separators = subst (AllByRecursion (λ m. IsAtOrAbove bound (separator_place m)))
        (sym (drop_all (suc i) ls (omega (arith, last, as_many ls ks rk inner)))) tt;
    outer = λ m all from. from;
  }

  pub end_of_other : (s : Separator) → suc i < length ks → s ≡ get_or ls (suc i) s → IsEnd ls ks i bound (Some s)
  end_of_other s more here =
      let filled = inner.children.filled (omega (arith, more)) in
      let some = AllByRecursion-drop (λ (k : Shape). 0 < length k.entries) (suc i) ks filled in
      let within : suc i < length ls = omega (arith, more, as_many ls ks rk inner) in
      let cut = parted_cut (suc i) ls ks s inner.children.parted filled within in
      let rest : NoneBelow (separator_place s) (all_entries (drop (suc i) ks)) =
      subst (λ (m : Separator). NoneBelow (separator_place m) (all_entries (drop (suc i) ks))) (sym here) cut.1 in
      record {
        entries = rest;
        separators = from_first (drop (suc i) ls) s (here ∙ sym (get_dropped (suc i) ls s))
            (separators_rise (drop (suc i) ls) (drop (suc i) ks)
            (AreParted-drop (suc i) ls ks inner.children.parted) some);
        outer = λ m all from less.
            let apart = separators_apart (separator_place s) m (all_entries (drop (suc i) ks))
            (some_entries (drop (suc i) ks) (omega (arith, more, length-drop (suc i) ks)) some) rest
            (dropped_below m all) in
            absurd (cc (turned_less (separator_place s) m apart, less));
      }
    where
      dropped_below : (m : Place) → AllBelow m (all_entries ks) → AllBelow m (all_entries (drop (suc i) ks))
      dropped_below m all = AllByRecursion-back (λ e. place_cmp (place_of e) m ≡ Less) (all_entries (take (suc i) ks))
          (all_entries (drop (suc i) ks))
          (subst (AllBelow m) (sym (all_entries_cut (suc i) ks)) all)

-- the bound of a child: the separator of the next one, and that of its node where there is none
pub end_of : (ls : List Separator) (ks : List Shape) (rk : ℕ) → IsInner ls ks rk → (i : ℕ) → i < length ks →
    (bound next : Option Separator) → next ≡ slice_get ls (i + 1) → IsEnd ls ks i bound (option_or next bound)
end_of ls ks rk inner i lt bound next is = by_place (slice_get_cases ls (suc i)).1
  where
    here : next ≡ slice_get ls (suc i)
    here = is ∙ ap (slice_get ls) (omega arith)

    by_place : ((s : Separator) × (suc i < length ls) × (slice_get ls (suc i) ≡ Some s) × (get_or ls (suc i) s ≡ s)) ⊎
        ((length ls ≤ suc i) × (slice_get ls (suc i) ≡ None)) → IsEnd ls ks i bound (option_or next bound)
    by_place (inl s) = subst (λ o. IsEnd ls ks i bound (option_or o bound)) (sym (here ∙ s.2))
        (end_of_other ls ks rk inner i bound s.0 (omega (arith, s.1, as_many ls ks rk inner)) (sym s.3))
    by_place (inr none) = subst (λ o. IsEnd ls ks i bound (option_or o bound)) (sym (here ∙ none.1))
        (end_of_last ls ks rk inner i bound (omega (arith, lt, none.0, as_many ls ks rk inner)))

pub copied_or : {X : Type 0} (a b : Option (Bor X)) → option_copied (option_or a b) ≡
    option_or (option_copied a) (option_copied b)
copied_or None b = refl
copied_or (Some x) b = refl

pub inserted_both : (xs ys es : List Entry) → all_inserted (xs ++ ys) es ≡ all_inserted ys (all_inserted xs es)
inserted_both [] ys es = refl
inserted_both (x ∷ xs) ys es = inserted_both xs ys (insert_entry es x)

-- what stood before stands after an insertion
pub still_stands : (xs es : List Entry) (part : ℕ) (key : OrderedKey) → IsSome (find es part key) →
    IsSome (find (all_inserted xs es) part key)
still_stands xs es part key stands = by_found (find (all_inserted xs es) part key) refl
  where
    by_found : (o : Option Slot) → find (all_inserted xs es) part key ≡ o → IsSome o
    by_found (Some slot) e = refl
    by_found None e = absurd (cc (free_before xs es part key e, stands))

-- ---- an inner node, among the entries of one of whose children others were put

module _ (ls : List Separator) (ks : List Shape) (rk : ℕ) (inner : IsInner ls ks rk) (i : ℕ) (k : Shape)
    (lt : i < length ks) (here : k ≡ get_or ks i k) (bound end : Option Separator) (is_end : IsEnd ls ks i bound end)
    (xs : List Entry) (among : AreAmong k.entries end xs) where
  pub all_among : AreAmong (all_entries ks) bound xs
  all_among = AllByRecursion-map (GoesAmong k.entries end) (GoesAmong (all_entries ks) bound)
      (λ x b. record {
        above = above_up ks i k lt here end x b;
        below = λ m all from. b.below m (of_child (λ e. place_cmp (place_of e) m ≡ Less) ks i k lt here all)
            (is_end.outer m all from);
      }) xs among

  pub all_free : AllFree k.entries xs → AllFree (all_entries ks) xs
  all_free free = all_both (GoesAmong k.entries end) (λ x. find k.entries x.part x.key ≡ None)
      (λ x. find (all_entries ks) x.part x.key ≡ None)
      (λ x b f. ap (option_map slot_of) (found_among ks i k lt here inner.children.rising end is_end.entries x b) ∙ f)
      xs among free

  pub put : (k' : Shape) → k'.depth ≡ k.depth → k'.entries ≡ all_inserted xs k.entries → IsRising xs →
      AllFree k.entries xs → KeepsRoom k k' → IsEdited (inner_shape ks) ls (set ks i k') rk (all_inserted xs)
  put k' deep h rise free keeps =
      let c = inner.children in let node = over_children inner in
      let within : i < length ls = omega (arith, lt, as_many ls ks rk inner) in
      with_child node i k lt here (all_inserted xs) k' deep
      (parted_set i ls ks k' c.parted within
      (λ d. subst (NoneBelow (separator_place (get_or ls i d))) (sym h) (none_below_among k.entries end xs among
      (separator_place (get_or ls i d)) (own_separator i ls ks k d c.parted within here)))
      (all_both (λ m. AllBelow (separator_place m) k.entries) (λ m. IsAtOrAbove end (separator_place m))
      (λ m. AllBelow (separator_place m) k'.entries)
      (λ m b out. subst (AllBelow (separator_place m)) (sym h) (all_below_among k.entries end xs among
      (separator_place m) b out)) (drop (suc i) ls) (later_separators i ls ks k c.parted within here)
      is_end.separators))
      (entries_among ks i k lt here c.rising end is_end.entries k' xs among h)
      (rising_all_inserted xs (all_entries ks) rise (all_free free) c.rising) keeps
      (λ more. subst (λ es. 0 < length es) (sym h) (some_inserted xs k.entries (some_there node i k lt here more)))
