-- An edit at a place below one of a node's children.
use Rattle.std.proofs.Common.{◌≡◌, ◌≢◌, ℕ, zero, suc, ◌+◌, ◌<◌, Bool, true, false, List, [], ◌∷◌, ◌++◌, length}
use Rattle.std.proofs.Common.{get_or, set, take, drop, if◌then◌else◌, refl, sym, ap, ◌∙◌, subst}
use Rattle.std.proofs.Common.{length-append, length-set, arith}
use Rattle.std.specs.declared.cmp.Ordering.TheVariants.{Less}
use Rattle.std.specs.Ordering.{is_eq}
use Rattle.std.specs.List.{remove, AllByRecursion}
use Rattle.std.proofs.lemmas.List.Edits.{length-remove}
use Rattle.am_record.specs.OrderedKey.{OrderedKey}
use Rattle.am_record.specs.declared.entry.Entry.{Entry}
use Rattle.am_record.specs.EntryOrder.{Place, place_of, place_cmp}
use Rattle.am_record.proofs.Lists.{AllByRecursion-map, AllByRecursion-append, AllByRecursion-take, AllByRecursion-drop}
use Rattle.std.specs.Prelude.{IsSome}
use Rattle.am_index.specs.Entries.{entry_at, find, set_entry, remove_from, IsRising}
use Rattle.am_index.specs.Rooms.{HasRoom}
use Rattle.am_index.specs.Places.{AllBelow, NoneBelow, AllAbove}
use Rattle.am_index.proofs.Removals.{remove_from-back, remove_from-front, all_remove_from, rising_remove_from}
use Rattle.am_index_btree.specs.declared.separator.Separator.{Separator}
use Rattle.am_index_btree.specs.Shape.{Shape}
use Rattle.am_index_btree.specs.Rooms.{IsRoomed, KeepsRoom, IsWidened}
use Rattle.am_index_btree.specs.Separators.{separator_place, IsChildFor}
use Rattle.am_index_btree.specs.Nodes.{all_entries, all_roomy, depth_of, inner_shape, AreParted, AreChildren, IsInner}
use Rattle.am_index_btree.proofs.Inner.{IsOver}
use Rattle.am_index_btree.proofs.ChildHalves.{all_entries-append, depth_level, inner_from, some_entries}
use Rattle.am_index_btree.proofs.ChildInserts.{own_separator, later_separators}
use Rattle.am_index_btree.proofs.ChildWalks.{below, above, children_cut, children_set, entry_in_child, find_in_child}
use Rattle.am_index_btree.proofs.OneChild.{IsEdited, parted_set, some_there, with_child}
use Rattle.am_index_btree.proofs.ValueRooms.{remove_set, room_child, room_up, keeps_removed}

pub all_removed : {X : Type 0} (P : X → Type 0) (xs : List X) (i : ℕ) → AllByRecursion P xs →
    AllByRecursion P (remove xs i)
all_removed P xs i a = AllByRecursion-append P (take i xs) (drop (suc i) xs) (AllByRecursion-take P i xs a)
    (AllByRecursion-drop P (suc i) xs a)

parted_removed : (i : ℕ) (ls : List Separator) (ks : List Shape) → AreParted ls ks →
    AreParted (remove ls i) (remove ks i)
parted_removed zero [] [] a = tt
parted_removed (suc i) [] [] a = tt
parted_removed i [] (k ∷ ks) a = absurd (omega (arith, a))
parted_removed i (l ∷ ls) [] a = absurd (omega (arith, a))
parted_removed zero (l ∷ ls) (k ∷ ks) a = a.2
parted_removed (suc i) (l ∷ ls) (k ∷ ks) a = (
  a.0,
  all_removed (λ n. AllBelow (separator_place n) k.entries) ls i a.1,
  parted_removed i ls ks a.2,
)

none_set : (ks : List Shape) (i : ℕ) (k : Shape) → length ks ≡ 1 → i < length ks → k.entries ≡ [] →
    all_entries (set ks i k) ≡ []
none_set [] i k one lt h = refl
none_set (c ∷ []) zero k one lt h = ap (λ es. es ++ []) h
none_set (c ∷ []) (suc i) k one lt h = absurd (omega arith)
none_set (c ∷ j ∷ ks) i k one lt h = absurd (omega (arith, one))

-- an edit of lists that changes entries from one place on, all of them in the list xs, and brings none of another place
pub record IsEditAt (part : ℕ) (key : OrderedKey) (edit : List Entry → List Entry) (xs : List Entry) : Type 1 where
  pub back : (xs ys : List Entry) → AllBelow (part, key) xs → edit (xs ++ ys) ≡ xs ++ edit ys
  pub front : (ys : List Entry) → AllAbove (part, key) ys → edit (xs ++ ys) ≡ edit xs ++ ys
  pub places : (P : Place → Type 0) (es : List Entry) → AllByRecursion (λ e. P (place_of e)) es →
      AllByRecursion (λ e. P (place_of e)) (edit es)
  pub rising : (es : List Entry) → IsRising es → IsRising (edit es)

module _ (part : ℕ) (key : OrderedKey) where
  abbrev p : Place
  p = (part, key)

  -- ---- taking out

  -- of a list in which so many were there to be taken out
  pub removing : (n : ℕ) (xs xs' : List Entry) → IsSome (find xs part key) → xs' ≡ remove_from xs part key n →
      length xs' + n ≡ length xs → IsEditAt part key (λ es. remove_from es part key n) xs
  removing n xs xs' there gone all = record {
    back = (λ xs ys below. remove_from-back part key xs ys n below);
    front = (λ ys above. remove_from-front part key xs ys n there (ap (λ l. length l + n) (sym gone) ∙ all));
    places = (λ P es a. all_remove_from part key (λ e. P (place_of e)) es n a);
    rising = (λ es rise. rising_remove_from part key es n rise);
  }

  -- ---- nothing

  pub staying : (xs : List Entry) → IsEditAt part key (λ es. es) xs
  staying xs = record {
    back = (λ xs ys below. refl);
    front = (λ ys above. refl);
    places = (λ P es a. a);
    rising = (λ es rise. rise);
  }

  -- ---- writing over

  module _ (value : List ℕ) (is_ghost : Bool) where
    abbrev written : List Entry → List Entry
    written es = set_entry es part key value is_ghost

    set_entry-back : (xs ys : List Entry) → AllBelow p xs → written (xs ++ ys) ≡ xs ++ written ys
    set_entry-back [] ys b = refl
    set_entry-back (e ∷ xs) ys b = rw b.0 (ap (λ l. e ∷ l) (set_entry-back xs ys b.1))

    set_none : (ys : List Entry) → AllAbove p ys → written ys ≡ ys
    set_none [] a = refl
    set_none (y ∷ ys) a = rw a.0 (ap (λ l. y ∷ l) (set_none ys a.1))

    set_entry-front : (xs ys : List Entry) → AllAbove p ys → written (xs ++ ys) ≡ written xs ++ ys
    set_entry-front [] ys a = set_none ys a
    set_entry-front (e ∷ xs) ys a =
        elim (is_eq (place_cmp (place_of e) p)) as (λ b.
        (if b then record e { value = value; is_ghost = is_ghost } ∷ (xs ++ ys) else e ∷ written (xs ++ ys)) ≡
        ((if b then record e { value = value; is_ghost = is_ghost } ∷ xs else e ∷ written xs) ++ ys))
        [ true ↦ refl | false ↦ ap (λ l. e ∷ l) (set_entry-front xs ys a) ]

    places_written : (P : Place → Type 0) (es : List Entry) → AllByRecursion (λ e. P (place_of e)) es →
        AllByRecursion (λ e. P (place_of e)) (written es)
    places_written P [] a = tt
    places_written P (e ∷ es) a =
        elim (is_eq (place_cmp (place_of e) p)) as (λ b. AllByRecursion (λ e. P (place_of e))
        (if b then record e { value = value; is_ghost = is_ghost } ∷ es else e ∷ written es))
        [ true ↦ a | false ↦ (a.0, places_written P es a.1) ]

    rising_written : (es : List Entry) → IsRising es → IsRising (written es)
    rising_written [] r = tt
    rising_written (e ∷ es) r =
        elim (is_eq (place_cmp (place_of e) p)) as (λ b. IsRising
        (if b then record e { value = value; is_ghost = is_ghost } ∷ es else e ∷ written es))
        [ true ↦ r | false ↦ (places_written (λ q. place_cmp (place_of e) q ≡ Less) es r.0, rising_written es r.1) ]

    pub writing : (xs : List Entry) → IsEditAt part key written xs
    writing xs = record {
      back = set_entry-back;
      front = set_entry-front xs;
      places = places_written;
      rising = rising_written;
    }

    pub written_long : (es : List Entry) → length (written es) ≡ length es
    written_long [] = refl
    written_long (e ∷ es) =
        elim (is_eq (place_cmp (place_of e) p)) as (λ b. length
        (if b then record e { value = value; is_ghost = is_ghost } ∷ es else e ∷ written es) ≡ suc (length es))
        [ true ↦ refl | false ↦ ap (λ (n : ℕ). suc n) (written_long es) ]

-- ---- the child for a place

-- what is known of the place from the child
pub record IsWayDown (s k : Shape) (part : ℕ) (key : OrderedKey) : Type 0 where
  pub falls : k.depth < s.depth
  pub entry : entry_at s.entries part key ≡ entry_at k.entries part key
  pub found : find s.entries part key ≡ find k.entries part key
  pub present : IsSome (find s.entries part key) → IsSome (find k.entries part key)
  pub room : (bytes : ℕ) → IsSome (find s.entries part key) → HasRoom s.roomy part key bytes →
      HasRoom k.roomy part key bytes

module _ {s : Shape} {ls : List Separator} {ks : List Shape} {rk : ℕ} (node : IsOver s ls ks rk) {part : ℕ}
    {key : OrderedKey} {i : ℕ} (child : IsChildFor ls part key i) {k : Shape} (here : k ≡ get_or ks i k) where
  within : i < length ks
  within = omega (arith, child.in_range, node.as_many)

  abbrev d : ℕ
  d = depth_of ks

  abbrev c : AreChildren d ls ks
  c = node.inner.children

  found : find s.entries part key ≡ find k.entries part key
  found = ap (λ (t : Shape). find t.entries part key) node.seen ∙ find_in_child part key d ls ks c i child k here

  pub way_down : IsWayDown s k part key
  way_down = record {
    falls = node.falls i k within here;
    entry = ap (λ (t : Shape). entry_at t.entries part key) node.seen ∙
        entry_in_child part key d ls ks c i child k here;
    found = found;
    present = subst IsSome found;
    room = λ bytes stands has. room_child part key ks i k bytes c.rising c.roomed within here
        (subst IsSome found stands) (subst (λ (t : Shape). HasRoom t.roomy part key bytes) node.seen has);
  }

  -- ---- any edit below it

  module _ {edit : List Entry → List Entry} (is : IsEditAt part key edit k.entries) (k' : Shape)
      (deep : k'.depth ≡ k.depth) (h : k'.entries ≡ edit k.entries) where
    parted : AreParted ls (set ks i k')
    parted = parted_set i ls ks k' c.parted child.in_range
        (λ e. subst (NoneBelow (separator_place (get_or ls i e))) (sym h)
        (is.places (λ q. place_cmp q (separator_place (get_or ls i e)) ≢ Less) k.entries
        (own_separator i ls ks k e c.parted child.in_range here)))
        (AllByRecursion-map (λ m. AllBelow (separator_place m) k.entries) (λ m. AllBelow (separator_place m) k'.entries)
        (λ m b. subst (AllBelow (separator_place m)) (sym h)
        (is.places (λ q. place_cmp q (separator_place m) ≡ Less) k.entries b)) (drop (suc i) ls)
        (later_separators i ls ks k c.parted child.in_range here))

    abbrev before : List Entry
    before = all_entries (take i ks)

    abbrev behind : List Entry
    behind = all_entries (drop (suc i) ks)

    children_before : all_entries ks ≡ before ++ (k.entries ++ behind)
    children_before = children_cut ks i k within here

    children_now : all_entries (set ks i k') ≡ before ++ (k'.entries ++ behind)
    children_now = children_set ks i k' within

    entries_kept : all_entries (set ks i k') ≡ edit (all_entries ks)
    entries_kept =
        children_now ∙ ap (λ es. before ++ (es ++ behind)) h
        ∙ ap (λ es. before ++ es) (sym (is.front behind (above part key d ls ks c i child)))
        ∙ sym (ap edit children_before ∙ is.back before (k.entries ++ behind) (below part key d ls ks c i child))

    rising_kept : IsRising (edit (all_entries ks))
    rising_kept = is.rising (all_entries ks) c.rising

    pub kept : KeepsRoom k k' → (1 < length ks → 0 < length k'.entries) → IsEdited s ls (set ks i k') rk edit
    kept = with_child node i k within here edit k' deep parted entries_kept rising_kept

    -- where the child has as many entries as before
    pub kept_all : KeepsRoom k k' → length k'.entries ≡ length k.entries → IsEdited s ls (set ks i k') rk edit
    kept_all keeps long = kept keeps (λ more. omega (arith, some_there node i k within here more, long))

    -- as many entries fewer as the child has
    pub kept_fewer : (n : ℕ) → length k'.entries + n ≡ length k.entries →
        length (all_entries (set ks i k')) + n ≡ length s.entries
    kept_fewer n fewer = omega (
      arith,
      fewer,
      ap length children_now,
      ap length children_before,
      length-append before (k'.entries ++ behind),
      length-append k'.entries behind,
      length-append before (k.entries ++ behind),
      length-append k.entries behind,
      ap (λ (t : Shape). length t.entries) node.seen,
    )

    pub kept_some : 0 < length k'.entries → 0 < length (all_entries (set ks i k'))
    kept_some some = omega (
      arith,
      some,
      ap length children_now,
      length-append before (k'.entries ++ behind),
      length-append k'.entries behind,
    )

    pub kept_none : length ks ≡ 1 → k'.entries ≡ [] → all_entries (set ks i k') ≡ []
    kept_none one empty = none_set ks i k' one within empty

    -- where the child is freed
    module _ (more : 1 < length ks) (empty : k'.entries ≡ []) (L : List Separator) (K : List Shape) (out : L ≡
        remove ls i) (gone : K ≡ remove (set ks i k') i) where
      left_is : K ≡ remove ks i
      left_is = gone ∙ remove_set ks i k'

      left_entries : all_entries K ≡ all_entries (set ks i k')
      left_entries = ap all_entries left_is ∙ all_entries-append (take i ks) (drop (suc i) ks) ∙
          sym (children_now ∙ ap (λ es. before ++ (es ++ behind)) empty)

      left_long : length K + 1 ≡ length ks
      left_long = ap (λ (js : List Shape). length js + 1) left_is ∙ length-remove ks i within

      left_level : AllByRecursion (λ (j : Shape). j.depth + 1 ≡ d) K
      left_level = subst (AllByRecursion (λ (j : Shape). j.depth + 1 ≡ d)) (sym left_is)
          (all_removed (λ (j : Shape). j.depth + 1 ≡ d) ks i c.level)

      left_filled : AllByRecursion (λ (j : Shape). 0 < length j.entries) K
      left_filled = subst (AllByRecursion (λ (j : Shape). 0 < length j.entries)) (sym left_is)
          (all_removed (λ (j : Shape). 0 < length j.entries) ks i (c.filled more))

      pub left : (rk' : ℕ) → rk' ≡ rk → IsEdited s L K rk' edit
      left rk' room = record {
        inner = inner_from d L K L K rk' refl refl (record {
          level = left_level;
          filled = left_filled;
          parted = subst (λ ms. AreParted ms K) (sym out) (subst (AreParted (remove ls i)) (sym left_is)
              (parted_removed i ls ks c.parted));
          roomed = subst (AllByRecursion (λ (j : Shape). IsRoomed j)) (sym left_is)
              (all_removed (λ (j : Shape). IsRoomed j) ks i c.roomed);
          rising = subst IsRising (sym (left_entries ∙ entries_kept)) rising_kept;
        }) (omega (arith, left_long, more)) (omega (arith, left_long, node.inner.most))
            (omega (arith, room, node.inner.room));
        entries = left_entries ∙ entries_kept ∙ sym (ap (λ (t : Shape). edit t.entries) node.seen);
        depth = depth_level d K (omega (arith, left_long, more)) left_level ∙
            sym (ap (λ (t : Shape). t.depth) node.seen);
        rooms = subst (λ (t : Shape). KeepsRoom t (inner_shape K)) (sym node.seen)
            (subst (λ js. KeepsRoom (inner_shape ks) (inner_shape js)) (sym gone)
            (keeps_removed ks i k c.rising c.roomed within here k'));
      }

      pub left_fewer : (n : ℕ) → length k'.entries + n ≡ length k.entries → length (all_entries K) + n ≡ length
          s.entries
      left_fewer n fewer = ap (λ es. length es + n) left_entries ∙ kept_fewer n fewer

      pub left_some : 0 < length (all_entries K)
      left_some = some_entries K (omega (arith, left_long, more)) left_filled

  -- ---- room that was got below it

  pub widened : {k' : Shape} → IsWidened k k' →
      IsInner ls (set ks i k') rk × IsWidened s (inner_shape (set ks i k'))
  widened {k'} w =
      let e = kept_all (staying part key k.entries) k' w.depth w.entries w.room (ap length w.entries) in
      (e.inner, record { depth = e.depth; entries = e.entries; room = e.rooms })

  pub room_got : {k' : Shape} → IsWidened k k' → (bytes : ℕ) → HasRoom k'.roomy part key bytes →
      HasRoom (all_roomy (set ks i k')) part key bytes
  room_got {k'} w bytes has = room_up part key (set ks i k') i k' bytes (omega (arith, within, length-set ks i k'))
      (get_set ks i k' within) has
    where
      get_set : (ks : List Shape) (i : ℕ) (k : Shape) → i < length ks → k ≡ get_or (set ks i k) i k
      get_set [] i k lt = absurd (omega arith)
      get_set (c ∷ ks) zero k lt = refl
      get_set (c ∷ ks) (suc i) k lt = get_set ks i k (omega arith)
