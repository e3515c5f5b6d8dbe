-- Heads gathered from partition to partition.
use Rattle.std.proofs.Common.{◌≡◌, ℕ, ◌+◌, ◌<◌, ◌≤◌, List, [], ◌∷◌, Bool, true, false, ◌&&◌, ◌==◌, Some, None, ◌⊎◌}
use Rattle.std.proofs.Common.{inl, inr, max, refl, sym, ap, ◌∙◌, subst, arith, ⊎_elim, zero, suc, ◌++◌, length, get_or}
use Rattle.std.proofs.Common.{take}
use Rattle.std.proofs.Math.Nat.{max-le, max-eq_left}
use Rattle.std.proofs.lemmas.Bool.{true≢false, both_ways, false_from_ne_true, cases_lt, cases_Bool}
use Rattle.std.proofs.lemmas.Bool.{cond-false, eqb-true, or_right, or_left, or_from, or_cases, and_from}
use Rattle.std.proofs.lemmas.Bool.Decides.{nat_tests}
use Rattle.std.proofs.lemmas.Option.{none-some}
use Rattle.std.proofs.lemmas.List.Elements.{All-cons, All-nil, All-from_recursion, recursion_from_All}
use Rattle.std.proofs.Math.Seq.{take-suc}
use Rattle.std.proofs.lemmas.List.Folds.{list_any-append}
use Rattle.std.proofs.lemmas.List.Sorted.{All-permutation, list_any-IsPermutation}
use Rattle.std.proofs.lemmas.Map.Keys.{IsDistinct-cons, IsDistinct-IsPermutation}
use Rattle.std.specs.declared.cmp.Ordering.{Ordering}
use Rattle.std.specs.declared.cmp.Ordering.TheVariants.{Less, Equal, Greater}
use Rattle.std.specs.Ordering.{is_eq, is_le}
use Rattle.std.specs.Option.{option_map}
use Rattle.std.specs.List.{All, AllByRecursion, IsDistinct}
use Rattle.std.specs.List.Sorted.{IsPermutation}
use Rattle.std.specs.BinaryHeap.{IsHeap, KeepsHeap}
use Rattle.am_record.specs.OrderedKey.{OrderedKey}
use Rattle.am_record.specs.Interval.{Interval, within}
use Rattle.am_record.specs.EntryOrder.{Place, place_of, place_cmp}
use Rattle.am_record.specs.declared.entry.Entry.{Entry}
use Rattle.am_record.proofs.Lists.{AllByRecursion-map, AllByRecursion-at}
use Rattle.am_index.specs.Entries.{Slot, slot_of, first_such, find}
use Rattle.am_index.specs.Content.{IsLiveAt, LivesInOne}
use Rattle.am_index.proofs.Lists.{first_such_none}
use Rattle.am_index.proofs.Edits.{one_place}
use Rattle.am_index.proofs.Content.{none_live}
use Rattle.am_index_parts.specs.Catalogs.{PartsRise, is_one_of, AllStandIn}
use Rattle.am_index_parts.specs.MergedRanges.{HasNoneBefore}
use Rattle.am_index_parts.specs.Partitions.{AreEmpty, AreEmptyFrom}
use Rattle.am_store_scan.specs.Directions.{cmp_in, le_in}
use Rattle.am_store_scan.specs.Heads.{Stand, head_cmp, IsHead, IsFirstHead, HasNoneLive}
use Rattle.am_store_scan.specs.Cursors.{is_ahead_in, of_one_part, AreHeads, AreAllHeads}
use Rattle.am_store_scan.proofs.HeadMoves.{turned}

-- ---- numbers of partitions

pub same_number : (x y : ℕ) → x ≡ y → (x == y) ≡ true
same_number x y h = grind (arith, nat_tests)

pub other_number : (x y : ℕ) → (x ≡ y → ⊥) → (x == y) ≡ false
other_number x y h = ⊎_elim (λ yes. absurd (h (eqb-true x y yes))) (λ no. no) (cases_Bool (x == y))

pub same_either_way : (g h : Stand) → of_one_part g h ≡ of_one_part h g
same_either_way g h =
    ⊎_elim
    (λ yes. yes ∙ sym (same_number h.part g.part (sym (eqb-true g.part h.part yes))))
    (λ no. no ∙ sym (other_number h.part g.part
    (λ same. true≢false (sym (same_number g.part h.part (sym same)) ∙ no))))
    (cases_Bool (g.part == h.part))

-- what is live in the range stands in one of these partitions
live_stands : (es : List Entry) (range : Interval) (parts : List ℕ) (part : ℕ) (key : OrderedKey) (s : Slot) →
    AllStandIn es range parts → find es part key ≡ Some s → within range key ≡ true → is_one_of parts part ≡ true
live_stands [] range parts part key s all there inside = absurd (none-some s there)
live_stands (e ∷ es) range parts part key s all there inside =
    ⊎_elim
    (λ hit. let same = one_place (place_of e) (part, key) hit in
    let in_part : e.part ≡ part = ap (λ (q : Place). q.0) same in
    subst (λ (p : ℕ). is_one_of parts p ≡ true) in_part
    (all.0 (ap (λ (q : Place). within range q.1) same ∙ inside)))
    (λ miss. live_stands es range parts part key s all.1 (sym (ap (option_map slot_of)
    (cond-false (is_eq (place_cmp (place_of e) (part, key))) (Some e)
    (first_such (λ f. is_eq (place_cmp (place_of f) (part, key))) es) miss)) ∙ there) inside)
    (cases_Bool (is_eq (place_cmp (place_of e) (part, key))))

-- ---- lists of partitions

-- a number above all of the first ones
no_lower : (parts : List ℕ) (p : ℕ) → AllByRecursion (λ q. q < p) parts → is_one_of parts p ≡ false
no_lower [] p low = refl
no_lower (q ∷ parts) p low = let less : q < p = low.0 in
    or_from (q == p) (is_one_of parts p) (other_number q p (λ same. omega (arith, less, same))) (no_lower parts p low.1)

-- where they rise, none of the first ones is the next
pub not_yet : (parts : List ℕ) (i : ℕ) (d : ℕ) → PartsRise parts → i < length parts →
    is_one_of (take i parts) (get_or parts i d) ≡ false
not_yet [] i d rising lt = absurd (omega (arith, lt))
not_yet (p ∷ parts) zero d rising lt = refl
not_yet (p ∷ parts) (suc i) d rising lt =
    let next = AllByRecursion-at (λ q. p < q) parts i d rising.0 (omega (arith, lt)) in
    or_from (p == get_or parts i d) (is_one_of (take i parts) (get_or parts i d))
    (other_number p (get_or parts i d) (λ same. omega (arith, next, same)))
    (not_yet parts i d rising.1 (omega (arith, lt)))

pub one_more_part : (parts : List ℕ) (i : ℕ) (p : ℕ) → i < length parts → p ≡ get_or parts i p →
    take (i + 1) parts ≡ take i parts ++ p ∷ []
one_more_part parts i p lt is = let next : i + 1 ≡ suc i = omega arith in
    ap (λ n. take n parts) next ∙ take-suc parts i p lt ∙ ap (λ (q : ℕ). take i parts ++ q ∷ []) (sym is)

pub all_taken : (parts : List ℕ) (i : ℕ) → length parts ≤ i → take i parts ≡ parts
all_taken [] zero h = refl
all_taken [] (suc i) h = refl
all_taken (p ∷ parts) zero h = absurd (omega (arith, h))
all_taken (p ∷ parts) (suc i) h = ap (λ (l : List ℕ). p ∷ l) (all_taken parts i (omega (arith, h)))

-- one of these and one more
of_more : (parts : List ℕ) (p part : ℕ) → is_one_of (parts ++ p ∷ []) part ≡ true →
    (is_one_of parts part ≡ true) ⊎ (part ≡ p)
of_more parts p part it =
    ⊎_elim (λ old. inl old)
    (λ new. inr (⊎_elim (λ same. sym (eqb-true p part same)) (λ none. absurd (true≢false (sym none)))
    (or_cases (p == part) false new)))
    (or_cases (is_one_of parts part) (is_one_of (p ∷ []) part)
    (sym (list_any-append (λ q. q == part) parts (p ∷ [])) ∙ it))

stays_one : (parts : List ℕ) (p part : ℕ) → is_one_of parts part ≡ true → is_one_of (parts ++ p ∷ []) part ≡ true
stays_one parts p part it = list_any-append (λ q. q == part) parts (p ∷ []) ∙
    or_left (is_one_of parts part) (is_one_of (p ∷ []) part) it

new_one : (parts : List ℕ) (p : ℕ) → is_one_of (parts ++ p ∷ []) p ≡ true
new_one parts p = list_any-append (λ q. q == p) parts (p ∷ []) ∙
    or_right (is_one_of parts p) (is_one_of (p ∷ []) p) (or_left (p == p) false (same_number p p refl))

-- no key of the range stands in a run before that one
none_found : (es : List Entry) (range : Interval) (run part : ℕ) (key : OrderedKey) → HasNoneBefore es range run →
    0 < part → part < run → within range key ≡ true → find es part key ≡ None
none_found es range run part key none some less inside =
    ap (option_map slot_of)
    (first_such_none (λ e. is_eq (place_cmp (place_of e) (part, key))) es
    (AllByRecursion-map (λ e. 0 < e.part → e.part < run → within range e.key ≡ false)
    (λ e. is_eq (place_cmp (place_of e) (part, key)) ≡ false)
    (λ e h. false_from_ne_true (is_eq (place_cmp (place_of e) (part, key))) (λ tied.
    let there = one_place (place_of e) (part, key) tied in
    let in_part : e.part ≡ part = ap (λ (q : Place). q.0) there in
    both_ways (within range e.key) (h (omega (arith, in_part, some)) (omega (arith, in_part, less)))
    (ap (λ (q : Place). within range q.1) there ∙ inside)))
    es none))

-- the greater of two numbers is the first, or the second is at or above it
pub max_one : (a b : ℕ) → (max a b ≡ a) ⊎ (max a b ≤ b)
max_one a b = ⊎_elim (λ (less : a < b). inr (max-le (omega arith) (omega arith))) (λ (le : b ≤ a). inl (max-eq_left le))
    (cases_lt a b)

module _ (back : Bool) where
  -- ---- gathering

  -- of these partitions the heads have all that is live in the range before them
  pub record AreHeadsOf (es : List Entry) (range : Interval) (parts : List ℕ) (heads : List Stand) : Type 0 where
    pub are_heads : AreHeads back es range heads
    pub heap : IsHeap (head_cmp back) heads
    pub of_these : All (λ (h : Stand). is_one_of parts h.part ≡ true) heads
    pub before : (part : ℕ) (key : OrderedKey) (value : List ℕ) → is_one_of parts part ≡ true →
        IsLiveAt es part key value → within range key ≡ true → is_ahead_in back heads part key ≡ true

  pub none_yet : (es : List Entry) (range : Interval) (heads : List Stand) → heads ≡ [] → IsHeap (head_cmp back) heads →
      AreHeadsOf es range [] heads
  unfolding IsDistinct
  none_yet es range heads none heap = record {
    are_heads = record {
      each = subst (All (IsHead back es range)) (sym none) (All-nil (IsHead back es range));
      apart = subst (IsDistinct of_one_part) (sym none) tt;
    };
    heap = heap;
    of_these = subst (All (λ (h : Stand). is_one_of [] h.part ≡ true)) (sym none)
        (All-nil (λ (h : Stand). is_one_of [] h.part ≡ true));
    before = λ part key value one live inside. absurd (true≢false (sym one));
  }

  more_parts : (parts : List ℕ) (p : ℕ) (heads : List Stand) →
      AllByRecursion (λ (h : Stand). is_one_of parts h.part ≡ true) heads →
      AllByRecursion (λ (h : Stand). is_one_of (parts ++ p ∷ []) h.part ≡ true) heads
  more_parts parts p = AllByRecursion-map (λ (h : Stand). is_one_of parts h.part ≡ true)
      (λ (h : Stand). is_one_of (parts ++ p ∷ []) h.part ≡ true) (λ h one. stays_one parts p h.part one)

  apart_from : (parts : List ℕ) (h : Stand) (heads : List Stand) → is_one_of parts h.part ≡ false →
      AllByRecursion (λ (g : Stand). is_one_of parts g.part ≡ true) heads →
      AllByRecursion (λ (g : Stand). of_one_part h g ≡ false) heads
  apart_from parts h heads new = AllByRecursion-map (λ (g : Stand). is_one_of parts g.part ≡ true)
      (λ (g : Stand). of_one_part h g ≡ false)
      (λ g one. other_number h.part g.part (λ same. both_ways (is_one_of parts h.part) new
      (ap (is_one_of parts) same ∙ one))) heads

  module _ {es : List Entry} {range : Interval} {parts : List ℕ} {heads : List Stand}
      (gathered : AreHeadsOf es range parts heads)
    where
      -- all heads stand in one of the partitions so far
      stand_so_far : AllByRecursion (λ (h : Stand). is_one_of parts h.part ≡ true) heads
      stand_so_far = recursion_from_All (λ (h : Stand). is_one_of parts h.part ≡ true) heads gathered.of_these

      pub passes_part : (at : ℕ) → HasNoneLive es range at → AreHeadsOf es range (parts ++ at ∷ []) heads
      passes_part at none = record {
        are_heads = gathered.are_heads;
        heap = gathered.heap;
        of_these = All-from_recursion (λ (h : Stand). is_one_of (parts ++ at ∷ []) h.part ≡ true) heads
            (more_parts parts at heads stand_so_far);
        before = λ part key value one live inside.
            ⊎_elim (λ old. gathered.before part key value old live inside)
            (λ same. absurd (none.none key value inside (subst (λ p. IsLiveAt es p key value) same live)))
            (of_more parts at part one);
      }

      module _ (at : ℕ) (new : is_one_of parts at ≡ false) (h : Stand) (begins : IsFirstHead back es range at h)
          {heads' : List Stand} (moved : IsPermutation (h ∷ heads) heads')
          (keeps : KeepsHeap (head_cmp back) heads heads') where
        reached : (key : OrderedKey) (value : List ℕ) → within range key ≡ true → IsLiveAt es at key value →
            le_in back h.key key ≡ true
        reached key value inside live = by_order (cmp_in back h.key key) refl
          where
            by_order : (o : Ordering) → cmp_in back h.key key ≡ o → le_in back h.key key ≡ true
            by_order Less e = ap is_le e
            by_order Equal e = ap is_le e
            by_order Greater e = absurd (begins.none_before key value inside (turned back h.key key e) live)

        -- of the new list before it was put in order
        ahead : (part : ℕ) (key : OrderedKey) (value : List ℕ) → is_one_of (parts ++ at ∷ []) part ≡ true →
            IsLiveAt es part key value → within range key ≡ true → is_ahead_in back (h ∷ heads) part key ≡ true
        ahead part key value one live inside =
            ⊎_elim (λ old. or_right (h.part == part && le_in back h.key key) (is_ahead_in back heads part key)
            (gathered.before part key value old live inside))
            (λ same.
            or_left (h.part == part && le_in back h.key key) (is_ahead_in back heads part key)
            (and_from (h.part == part) (le_in back h.key key)
            (same_number h.part part (begins.in_part ∙ sym same))
            (reached key value inside (subst (λ p. IsLiveAt es p key value) same live))))
            (of_more parts at part one)

        pub takes_head : AreHeadsOf es range (parts ++ at ∷ []) heads'
        takes_head = record {
          are_heads = record {
            each = All-permutation (IsHead back es range) (h ∷ heads) heads' moved
                (All-cons (IsHead back es range) h heads begins.head gathered.are_heads.each);
            apart = IsDistinct-IsPermutation of_one_part same_either_way (h ∷ heads) heads' moved
                (IsDistinct-cons of_one_part h heads
                (apart_from parts h heads (ap (is_one_of parts) begins.in_part ∙ new) stand_so_far)
                gathered.are_heads.apart);
          };
          heap = keeps gathered.heap;
          of_these = All-permutation (λ (g : Stand). is_one_of (parts ++ at ∷ []) g.part ≡ true) (h ∷ heads) heads'
              moved (All-from_recursion (λ (g : Stand). is_one_of (parts ++ at ∷ []) g.part ≡ true) (h ∷ heads) (
                ap (is_one_of (parts ++ at ∷ [])) begins.in_part ∙ new_one parts at,
                more_parts parts at heads stand_so_far,
              ));
          before = λ part key value one live inside.
              sym (list_any-IsPermutation (λ (g : Stand). g.part == part && le_in back g.key key) (h ∷ heads)
              heads' moved) ∙ ahead part key value one live inside;
        }

      -- nothing of the range stands elsewhere
      pub has_all : AllStandIn es range parts → AreAllHeads back es range heads
      has_all all = record {
        are_heads = gathered.are_heads;
        heap = gathered.heap;
        before = λ part key value live inside.
            gathered.before part key value
            (live_stands es range parts part key (value, false) all live.there inside) live inside;
      }

-- ---- one partition alone

pub only_lives : {es : List Entry} {range : Interval} (part run to : ℕ) → AreEmpty es 0 part →
    HasNoneBefore es range run → (to ≡ part + 1) ⊎ (to ≤ run) → AreEmptyFrom es to → LivesInOne es part range
only_lives {es} {range} part run to before none which behind = record {
  one = λ p key value live inside.
      ⊎_elim (λ (low : p < part). absurd (none_live es p key (before.none p key (omega arith) low) value live))
      (λ (high : part ≤ p).
      ⊎_elim (λ (same : p < part + 1). omega (arith, high, same))
      (λ (above : part + 1 ≤ p).
      ⊎_elim (λ (between : p < to).
      ⊎_elim (λ (next : to ≡ part + 1). absurd (omega (arith, next, between, above)))
      (λ (low : to ≤ run). absurd (none_live es p key
      (none_found es range run p key none (omega (arith, above)) (omega (arith, low, between)) inside) value
      live)) which)
      (λ (past : to ≤ p). absurd (none_live es p key (behind.none p key past) value live))
      (cases_lt p to))
      (cases_lt p (part + 1)))
      (cases_lt p part);
}

-- where the list has one partition, all of the range stands in it
pub one_source : {es : List Entry} {range : Interval} (parts : List ℕ) (part : ℕ) → length parts ≡ 1 →
    part ≡ get_or parts 0 part → AllStandIn es range parts → LivesInOne es part range
one_source [] part one is all = absurd (omega (arith, one))
one_source {es} {range} (q ∷ []) part one is all = record {
  one = λ p key value live inside.
      ⊎_elim (λ same. sym (eqb-true q p same) ∙ sym is) (λ none. absurd (true≢false (sym none)))
      (or_cases (q == p) false (live_stands es range (q ∷ []) p key (value, false) all live.there inside));
}
one_source (q ∷ r ∷ parts) part one is all = absurd (omega (arith, one))
