-- The head that is read first has the first of the records still to come.
use Rattle.std.proofs.Common.{◌≡◌, ℕ, List, [], ◌∷◌, Bool, true, false, ◌&&◌, ◌||◌, ◌==◌, cond, T, filter, drop, Option}
use Rattle.std.proofs.Common.{Some, None, refl, sym, ap, ◌∙◌, subst, ⊎_elim}
use Rattle.std.proofs.lemmas.Bool.{and_parts, true≢false, cases_Bool, cond-true, cond-false, eqb-true, or_right}
use Rattle.std.proofs.lemmas.Bool.{or_left, and_from}
use Rattle.std.proofs.lemmas.List.Elements.{All-cons, All-head, All-tail, All-from_recursion, recursion_from_All}
use Rattle.std.proofs.lemmas.List.Sorted.{All-permutation, list_any-IsPermutation}
use Rattle.std.proofs.lemmas.Map.Keys.{IsDistinct-cons, IsDistinct-head, IsDistinct-tail, IsDistinct-IsPermutation}
use Rattle.std.specs.declared.cmp.Ordering.{Ordering}
use Rattle.std.specs.declared.cmp.Ordering.TheVariants.{Less, Equal, Greater}
use Rattle.std.specs.Ordering.{is_eq, is_le, is_lt, eq_by_cmp, ordering_reverse}
use Rattle.std.specs.Option.{MatchOption}
use Rattle.std.specs.List.{All, AllByRecursion, list_any, slice_get, cons_option}
use Rattle.std.specs.List.Sorted.{IsPermutation}
use Rattle.std.specs.BinaryHeap.{IsUpperBound}
use Rattle.std.specs.FinMap.{get, entries, entries_sorted, get-entries, is_sorted, find}
use Rattle.std.specs.FinMap.Entries.{is_sorted-where_key, find-where_key, same_entries, below_all}
use Rattle.am_record.specs.OrderedKey.{OrderedKey, key_cmp, key_cmp-total, key_cmp-exact}
use Rattle.am_record.specs.Interval.{Interval, within}
use Rattle.am_record.specs.Plain.{PlainMap, Records, rows_where}
use Rattle.am_record.proofs.KeyOrder.{ties_alike}
use Rattle.am_record.specs.declared.entry.Entry.{Entry}
use Rattle.am_record.proofs.Outcomes.{is_true}
use Rattle.am_index.specs.Content.{content, rows_in, IsLiveAt, LivesInOne, ContentLaws}
use Rattle.am_index_parts.specs.Partitions.{AreWellFormed}
use Rattle.am_store_scan.specs.Directions.{cmp_in, cmp_in-total, le_in, as_read, rest_of}
use Rattle.am_store_scan.specs.Heads.{Stand, head_cmp, IsHead, IsNextHead, HasNoNext}
use Rattle.am_store_scan.specs.Cursors.{is_ahead, rows_ahead, is_ahead_in, of_one_part, AreHeads, AreAhead, AreAllHeads}
use Rattle.am_store_scan.specs.Cursors.{IsFirstBeside}
use Rattle.am_store_scan.proofs.Directions.{exact, itself, le_in_trans, first_key, last_key, in_range, in_rest}
use Rattle.am_store_scan.proofs.Directions.{from_ends}
use Rattle.am_store_scan.proofs.Directions.{to_ends, to_rest, none_read, below_read, rise_read, found_read}
use Rattle.am_store_scan.proofs.HeadMoves.{turned, less_le, not_below_itself}
use Rattle.am_store_scan.proofs.GatheredHeads.{same_number, same_either_way}

abbrev Row : Type 0
Row = OrderedKey × List ℕ

-- ---- records of a map by a test of their keys

value_where : (test : OrderedKey → Bool) (m : PlainMap) (q : OrderedKey) → find key_cmp q (rows_where test m) ≡ cond
    (test q) (get m q) None
value_where test m q = find-where_key key_cmp test q (ties_alike test q) (entries m) ∙
    ap (λ o. cond (test q) o None) (sym (get-entries m q))

rise_where : (test : OrderedKey → Bool) (m : PlainMap) → T (is_sorted key_cmp (rows_where test m))
rise_where test m = is_sorted-where_key key_cmp test (entries m) (entries_sorted m)

-- two tests that answer alike at the map's keys
pub same_rows : (t u : OrderedKey → Bool) (m : PlainMap) →
    ((q : OrderedKey) (v : List ℕ) → get m q ≡ Some v → t q ≡ u q) → rows_where t m ≡ rows_where u m
same_rows t u m h =
    same_entries key_cmp key_cmp-total key_cmp-exact (rows_where t m) (rows_where u m) (rise_where t m) (rise_where u m)
    (λ q. value_where t m q ∙ by_value q (get m q) refl ∙ sym (value_where u m q))
  where
    nothing : (b : Bool) → cond {A = Option (List ℕ)} b None None ≡ None
    nothing true = refl
    nothing false = refl

    by_value : (q : OrderedKey) (o : Option (List ℕ)) → get m q ≡ o → cond (t q) (get m q) None ≡ cond (u q) (get m q)
        None
    by_value q None e = ap (λ o. cond (t q) o None) e ∙ nothing (t q) ∙ sym (nothing (u q)) ∙
        ap (λ o. cond (u q) o None) (sym e)
    by_value q (Some v) e = ap (λ b. cond b (get m q) None) (h q v e)

pub no_rows : (t : OrderedKey → Bool) → ((q : OrderedKey) → t q ≡ false) → (rows : Records) →
    filter (λ (row : Row). t row.0) rows ≡ []
no_rows t none [] = refl
no_rows t none (row ∷ rows) = cond-false (t row.0) (row ∷ filter (λ (r : Row). t r.0) rows)
    (filter (λ (r : Row). t r.0) rows) (none row.0) ∙ no_rows t none rows

pub is_first : {A : Type 0} {rows rest : List A} {row : A} → rows ≡ row ∷ rest → Some row ≡ slice_get rows 0
is_first is = sym (ap (λ l. slice_get l 0) is)

pub is_rest : {A : Type 0} {rows rest : List A} {row : A} → rows ≡ row ∷ rest → rest ≡ drop 1 rows
is_rest is = sym (ap (drop 1) is)

module _ (back : Bool) where
  -- ---- the same as they are read

  abbrev read : (OrderedKey → Bool) → PlainMap → Records
  read test m = as_read back (rows_where test m)

  value_read : (test : OrderedKey → Bool) (m : PlainMap) (q : OrderedKey) → find (cmp_in back) q (read test m) ≡ cond
      (test q) (get m q) None
  value_read test m q = found_read back q (rows_where test m) (is_true (is_sorted key_cmp (rows_where test m))
      (rise_where test m)) ∙ value_where test m q

  rise_read_where : (test : OrderedKey → Bool) (m : PlainMap) → T (is_sorted (cmp_in back) (read test m))
  rise_read_where test m = subst T (sym (rise_read back (rows_where test m)
      (is_true (is_sorted key_cmp (rows_where test m)) (rise_where test m)))) tt

  below_passed : (key : OrderedKey) (test : OrderedKey → Bool) →
      ((q : OrderedKey) → test q ≡ true → cmp_in back key q ≡ Less) → (rows : Records) →
      below_all (cmp_in back) key (filter (λ (row : Row). test row.0) rows) ≡ true
  below_passed key test h [] = refl
  below_passed key test h (row ∷ rows) =
      let rest = filter (λ (r : Row). test r.0) rows in
      ⊎_elim
      (λ yes.
      ap (below_all (cmp_in back) key) (cond-true (test row.0) (row ∷ rest) rest yes)
      ∙ and_from (is_lt (cmp_in back key row.0)) (below_all (cmp_in back) key rest) (ap is_lt (h row.0 yes))
      (below_passed key test h rows))
      (λ no. ap (below_all (cmp_in back) key) (cond-false (test row.0) (row ∷ rest) rest no) ∙
      below_passed key test h rows)
      (cases_Bool (test row.0))

  -- one record, and after it those that pass a narrower test
  pub first_row : (t u : OrderedKey → Bool) (m : PlainMap) (key : OrderedKey) (value : List ℕ) →
      get m key ≡ Some value →
      t key ≡ true
      → ((q : OrderedKey) → u q ≡ true → cmp_in back key q ≡ Less)
      → ((q : OrderedKey) → cmp_in back q key ≡ Less → t q ≡ false)
      → ((q : OrderedKey) (v : List ℕ) → get m q ≡ Some v → cmp_in back key q ≡ Less → t q ≡ u q)
      → read t m ≡ (key, value) ∷ read u m
  first_row t u m key value there passes above below same =
      same_entries (cmp_in back) (cmp_in-total back) (exact back) (read t m) ((key, value) ∷ read u m)
      (rise_read_where t m)
      (subst T (sym (and_from (below_all (cmp_in back) key (read u m)) (is_sorted (cmp_in back) (read u m))
      (below_read back key (rows_where u m) (below_passed key u above (entries m)))
      (is_true (is_sorted (cmp_in back) (read u m)) (rise_read_where u m)))) tt)
      (λ q. value_read t m q ∙ by_order q (cmp_in back q key) refl ∙
      ap (λ o. cond (eq_by_cmp (cmp_in back) q key) (Some value) o) (sym (value_read u m q)))
    where
      no_test : (q : OrderedKey) → cmp_in back q key ≡ Less → (b : Bool) → u q ≡ b → cond (u q) (get m q) None ≡ None
      no_test q h true e = absurd (not_below_itself back q ((cmp_in-total back).trans q key q h (above q e)))
      no_test q h false e = ap (λ b. cond b (get m q) None) e

      nothing : (b : Bool) → cond {A = Option (List ℕ)} b None None ≡ None
      nothing true = refl
      nothing false = refl

      by_value : (q : OrderedKey) → cmp_in back key q ≡ Less → (o : Option (List ℕ)) → get m q ≡ o →
          cond (t q) (get m q) None ≡ cond (u q) (get m q) None
      by_value q h None e = ap (λ o. cond (t q) o None) e ∙ nothing (t q) ∙ sym (nothing (u q)) ∙
          ap (λ o. cond (u q) o None) (sym e)
      by_value q h (Some v) e = ap (λ b. cond b (get m q) None) (same q v e h)

      by_order : (q : OrderedKey) (o : Ordering) → cmp_in back q key ≡ o →
          cond (t q) (get m q) None ≡ cond (eq_by_cmp (cmp_in back) q key) (Some value) (cond (u q) (get m q) None)
      by_order q Less h =
          ap (λ b. cond b (get m q) None) (below q h) ∙ sym (no_test q h (u q) refl) ∙
          ap (λ o. cond (is_eq o) (Some value) (cond (u q) (get m q) None)) (sym h)
      by_order q Equal h =
          let one : q ≡ key = exact back q key h in
          ap (λ b. cond b (get m q) None) (ap t one ∙ passes) ∙ ap (get m) one ∙ there ∙
          ap (λ o. cond (is_eq o) (Some value) (cond (u q) (get m q) None)) (sym h)
      by_order q Greater h = by_value q (turned back q key h) (get m q) refl ∙
          ap (λ o. cond (is_eq o) (Some value) (cond (u q) (get m q) None)) (sym h)

  -- ---- heads at or below a key

  -- one of the heads is
  pub some_head : (P : Stand → Type 0) (test : Stand → Bool) (heads : List Stand) → AllByRecursion P heads →
      list_any test heads ≡ true → (h : Stand) × P h × (test h ≡ true)
  some_head P test [] all any = absurd (true≢false (sym any))
  some_head P test (h ∷ heads) all any =
      ⊎_elim (λ yes. (h, all.0, yes)) (λ no. some_head P test heads all.1 (ap (λ b. b || list_any test heads) (sym no) ∙
      any)) (cases_Bool (test h))

  pub no_head : (test : Stand → Bool) (heads : List Stand) → AllByRecursion (λ (h : Stand). test h ≡ false) heads →
      list_any test heads ≡ false
  no_head test [] all = refl
  no_head test (h ∷ heads) all = ap (λ b. b || list_any test heads) all.0 ∙ no_head test heads all.1

  -- a head of the partition is one of the heads
  pub ahead_somewhere : (heads : List Stand) (part : ℕ) (key : OrderedKey) → is_ahead_in back heads part key ≡ true →
      is_ahead back heads key ≡ true
  ahead_somewhere [] part key h = h
  ahead_somewhere (g ∷ heads) part key h =
      ⊎_elim
      (λ here. or_left (le_in back g.key key) (is_ahead back heads key)
      (and_parts (g.part == part) (le_in back g.key key) here).1)
      (λ no. or_right (le_in back g.key key) (is_ahead back heads key)
      (ahead_somewhere heads part key (ap (λ b. b || is_ahead_in back heads part key) (sym no) ∙ h)))
      (cases_Bool (g.part == part && le_in back g.key key))

  -- ---- a cursor begins

  module _ {es : List Entry} (range : Interval) (sound : AreWellFormed es) (laws : ContentLaws es) {heads : List Stand}
      (all : AreAllHeads back es range heads) {heads' : List Stand} (popped : IsPermutation heads heads') where
    all_before : (part : ℕ) (key : OrderedKey) (value : List ℕ) → IsLiveAt es part key value → within range key ≡ true →
        is_ahead_in back heads' part key ≡ true
    all_before part key value live inside = sym (list_any-IsPermutation (λ (g : Stand). g.part == part && le_in back
        g.key key) heads heads' popped) ∙ all.before part key value live inside

    pub begins : AreAhead back es range heads'
    begins = record {
      sound = sound;
      are_heads = record {
        each = All-permutation (IsHead back es range) heads heads' popped all.are_heads.each;
        apart = IsDistinct-IsPermutation of_one_part same_either_way heads heads' popped all.are_heads.apart;
      };
      before = λ part key value live inside ahead. all_before part key value live inside;
    }

    pub has_all_rows : rows_ahead back heads' range (content es) ≡ as_read back (rows_where (within range) (content es))
    has_all_rows = ap (as_read back) (same_rows (λ key. is_ahead back heads' key && within range key) (within range)
        (content es) (λ q v there. by_test q v there (within range q) refl))
      where
        by_test : (q : OrderedKey) (v : List ℕ) → get (content es) q ≡ Some v → (b : Bool) → within range q ≡ b →
            (is_ahead back heads' q && within range q) ≡ within range q
        by_test q v there true e =
            let home = laws.reads.found q v there in
            and_from (is_ahead back heads' q) (within range q)
            (ahead_somewhere heads' home.0 q (all_before home.0 q v home.1 e)) e ∙ sym e
        by_test q v there false e = ap (λ b. is_ahead back heads' q && b) e ∙ never (is_ahead back heads' q) ∙ sym e
          where
            never : (b : Bool) → (b && false) ≡ false
            never true = refl
            never false = refl

  -- ---- a cursor that has come to its end

  pub at_end : (heads : List Stand) (range : Interval) (m : PlainMap) → heads ≡ [] → rows_ahead back heads range m ≡ []
  at_end heads range m none = ap (λ l. rows_ahead back l range m) none ∙
      ap (as_read back) (no_rows (λ q. false) (λ q. refl) (entries m)) ∙ none_read back

  pub none_left : (first : Option Stand) (others : List Stand) → IsFirstBeside back first others → first ≡ None →
      cons_option first others ≡ []
  none_left first others beside none =
      ap (λ o. cons_option o others) none ∙ subst (λ o. MatchOption o (others ≡ [])
      (λ h. IsUpperBound (head_cmp back) h others)) none beside.greatest

  -- ---- a cursor goes on

  module _ {es : List Entry} {range : Interval} (h : Stand) (rest : List Stand)
      (cursor : AreAhead back es range (h ∷ rest))
      (least : IsUpperBound (head_cmp back) h rest) where
    pub standing : IsHead back es range h
    standing = All-head (IsHead back es range) h rest cursor.are_heads.each

    rest_heads : All (IsHead back es range) rest
    rest_heads = All-tail (IsHead back es range) h rest cursor.are_heads.each

    -- every other head is above it
    rest_above : (gs : List Stand) → AllByRecursion (IsHead back es range) gs →
        AllByRecursion (λ (g : Stand). of_one_part h g ≡ false) gs →
        AllByRecursion (λ (g : Stand). is_lt (head_cmp back h g) ≡ false) gs
        → AllByRecursion (λ (g : Stand). cmp_in back h.key g.key ≡ Less) gs
    rest_above [] each apart bound = tt
    rest_above (g ∷ gs) each apart bound = (
      by_order (cmp_in back h.key g.key) refl,
      rest_above gs each.1 apart.1 bound.1,
    )
      where
        by_order : (o : Ordering) → cmp_in back h.key g.key ≡ o → cmp_in back h.key g.key ≡ Less
        by_order Less e = e
        by_order Equal e =
            let one : h.key ≡ g.key = exact back h.key g.key e in
            let live : IsLiveAt es h.part g.key h.value =
            subst (λ k. IsLiveAt es h.part k h.value) one standing.live in
            let same : h.part ≡ g.part = cursor.sound.one_place.one g.key h.part g.part
            h.value g.value live each.0.live in
            absurd (true≢false (sym (same_number h.part g.part same) ∙ apart.0))
        by_order Greater e = absurd (true≢false (sym (ap is_lt (turned back h.key g.key e)) ∙ bound.0))

    others_above : AllByRecursion (λ (g : Stand). cmp_in back h.key g.key ≡ Less) rest
    others_above = rest_above rest (recursion_from_All (IsHead back es range) rest rest_heads)
        (IsDistinct-head of_one_part h rest cursor.are_heads.apart) least

    -- what is left: heads above it, which have all that is live above it before them
    module _ (heads' : List Stand) (are : AreHeads back es range heads')
        (above : All (λ (g : Stand). cmp_in back h.key g.key ≡ Less) heads')
        (ahead : (part : ℕ) (key : OrderedKey) (value : List ℕ) → IsLiveAt es part key value → within range key ≡ true →
        cmp_in back h.key key ≡ Less → is_ahead_in back heads' part key ≡ true) where
      above_head : (key : OrderedKey) → is_ahead back heads' key ≡ true → cmp_in back h.key key ≡ Less
      above_head key any =
          let g = some_head (λ (g : Stand). cmp_in back h.key g.key ≡ Less)
          (λ (g : Stand). le_in back g.key key) heads'
          (recursion_from_All (λ (g : Stand). cmp_in back h.key g.key ≡ Less) heads' above) any in
          less_le back h.key g.0.key key (cmp_in back g.0.key key) g.1 refl g.2

      goes_on : AreAhead back es range heads'
      goes_on = record {
        sound = cursor.sound;
        are_heads = are;
        before = λ part key value live inside any. ahead part key value live inside (above_head key any);
      }

      from_head : (key : OrderedKey) → le_in back h.key key ≡ true → is_ahead back (h ∷ rest) key ≡ true
      from_head key le = or_left (le_in back h.key key) (is_ahead back rest key) le

      none_below : (key : OrderedKey) → cmp_in back key h.key ≡ Less → is_ahead back (h ∷ rest) key ≡ false
      none_below key below = no_head (λ (g : Stand). le_in back g.key key) (h ∷ rest)
          (not_le h.key below, not_rest rest others_above)
        where
          not_le : (k : OrderedKey) → cmp_in back key k ≡ Less → le_in back k key ≡ false
          not_le k less = ap is_le ((cmp_in-total back).antisymm k key ∙ ap ordering_reverse less)

          not_rest : (gs : List Stand) → AllByRecursion (λ (g : Stand). cmp_in back h.key g.key ≡ Less) gs →
              AllByRecursion (λ (g : Stand). le_in back g.key key ≡ false) gs
          not_rest [] all = tt
          not_rest (g ∷ gs) all = (
            not_le g.key ((cmp_in-total back).trans key h.key g.key below all.0),
            not_rest gs all.1,
          )

      gives_first : ContentLaws es → rows_ahead back (h ∷ rest) range (content es) ≡ (h.key, h.value) ∷ rows_ahead
          back heads' range (content es)
      gives_first laws =
          first_row (λ key. is_ahead back (h ∷ rest) key && within range key)
          (λ key. is_ahead back heads' key && within range key)
          (content es) h.key h.value
          (laws.reads.live h.part h.key h.value standing.live)
          (and_from (is_ahead back (h ∷ rest) h.key) (within range h.key)
          (from_head h.key (ap is_le (itself back h.key))) standing.inside)
          (λ q passed. above_head q (and_parts (is_ahead back heads' q) (within range q) passed).0)
          (λ q below. ap (λ b. b && within range q) (none_below q below))
          (λ q v there over. by_test q v there over (within range q) refl)
        where
          never : (a b : Bool) → (a && false) ≡ (b && false)
          never true true = refl
          never true false = refl
          never false true = refl
          never false false = refl

          by_test : (q : OrderedKey) (v : List ℕ) → get (content es) q ≡ Some v → cmp_in back h.key q ≡ Less →
              (b : Bool) → within range q ≡ b
              → (is_ahead back (h ∷ rest) q && within range q) ≡ (is_ahead back heads' q && within range q)
          by_test q v there over true e =
              let home = laws.reads.found q v there in
              ap (λ b. b && within range q) (from_head q (ap is_le over) ∙
              sym (ahead_somewhere heads' home.0 q (ahead home.0 q v home.1 e over)))
          by_test q v there over false e = ap (λ b. is_ahead back (h ∷ rest) q && b) e ∙
              never (is_ahead back (h ∷ rest) q) (is_ahead back heads' q) ∙ ap (λ b. is_ahead back heads' q && b)
              (sym e)

    -- the heads that it was one of have what is live above it before them
    among : (part : ℕ) (key : OrderedKey) (value : List ℕ) → IsLiveAt es part key value → within range key ≡ true →
        cmp_in back h.key key ≡ Less → is_ahead_in back (h ∷ rest) part key ≡ true
    among part key value live inside over = cursor.before part key value live inside
        (or_left (le_in back h.key key) (is_ahead back rest key) (ap is_le over))

    -- it was the last of its partition
    module _ (ended : HasNoNext back es range h) (heads' : List Stand) (popped : IsPermutation rest heads') where
      without_are : AreHeads back es range heads'
      without_are = record {
        each = All-permutation (IsHead back es range) rest heads' popped rest_heads;
        apart = IsDistinct-IsPermutation of_one_part same_either_way rest heads' popped
            (IsDistinct-tail of_one_part h rest cursor.are_heads.apart);
      }

      without_above : All (λ (g : Stand). cmp_in back h.key g.key ≡ Less) heads'
      without_above = All-permutation (λ (g : Stand). cmp_in back h.key g.key ≡ Less) rest heads' popped
          (All-from_recursion (λ (g : Stand). cmp_in back h.key g.key ≡ Less) rest others_above)

      without_ahead : (part : ℕ) (key : OrderedKey) (value : List ℕ) → IsLiveAt es part key value →
          within range key ≡ true → cmp_in back h.key key ≡ Less → is_ahead_in back heads' part key ≡ true
      without_ahead part key value live inside over =
          sym (list_any-IsPermutation (λ (g : Stand). g.part == part && le_in back g.key key) rest heads' popped)
          ∙ ⊎_elim
          (λ here.
          let same : h.part ≡ part = eqb-true h.part part
          (and_parts (h.part == part) (le_in back h.key key) here).0 in
          absurd (ended.none key value over inside (subst (λ p. IsLiveAt es p key value) (sym same) live)))
          (λ no. ap (λ b. b || is_ahead_in back rest part key) (sym no) ∙ among part key value live inside over)
          (cases_Bool (h.part == part && le_in back h.key key))

      pub ends_on : AreAhead back es range heads'
      ends_on = goes_on heads' without_are without_above without_ahead

      pub ends_first : ContentLaws es → rows_ahead back (h ∷ rest) range (content es) ≡ (h.key, h.value) ∷
          rows_ahead back heads' range (content es)
      ends_first = gives_first heads' without_are without_above without_ahead

    -- it moved on
    module _ (new : Stand) (moved : IsNextHead back es range h new) (heads' : List Stand)
        (kept : IsPermutation (new ∷ rest) heads') where
      new_apart : (gs : List Stand) → AllByRecursion (λ (g : Stand). of_one_part h g ≡ false) gs →
          AllByRecursion (λ (g : Stand). of_one_part new g ≡ false) gs
      new_apart [] all = tt
      new_apart (g ∷ gs) all = (ap (λ p. p == g.part) moved.in_part ∙ all.0, new_apart gs all.1)

      with_are : AreHeads back es range heads'
      with_are = record {
        each = All-permutation (IsHead back es range) (new ∷ rest) heads' kept
            (All-cons (IsHead back es range) new rest moved.head rest_heads);
        apart = IsDistinct-IsPermutation of_one_part same_either_way (new ∷ rest) heads' kept
            (IsDistinct-cons of_one_part new rest (new_apart rest
            (IsDistinct-head of_one_part h rest cursor.are_heads.apart))
            (IsDistinct-tail of_one_part h rest cursor.are_heads.apart));
      }

      with_above : All (λ (g : Stand). cmp_in back h.key g.key ≡ Less) heads'
      with_above = All-permutation (λ (g : Stand). cmp_in back h.key g.key ≡ Less) (new ∷ rest) heads' kept
          (All-from_recursion (λ (g : Stand). cmp_in back h.key g.key ≡ Less) (new ∷ rest)
          (moved.behind, others_above))

      reached : (part : ℕ) (key : OrderedKey) (value : List ℕ) → h.part ≡ part → IsLiveAt es part key value →
          cmp_in back h.key key ≡ Less → le_in back new.key key ≡ true
      reached part key value same live over = by_order (cmp_in back new.key key) refl
        where
          by_order : (o : Ordering) → cmp_in back new.key key ≡ o → le_in back new.key key ≡ true
          by_order Less e = ap is_le e
          by_order Equal e = ap is_le e
          by_order Greater e = absurd (moved.none_between key value over (turned back new.key key e)
              (subst (λ p. IsLiveAt es p key value) (sym same) live))

      with_ahead : (part : ℕ) (key : OrderedKey) (value : List ℕ) → IsLiveAt es part key value →
          within range key ≡ true →
          cmp_in back h.key key ≡ Less → is_ahead_in back heads' part key ≡ true
      with_ahead part key value live inside over =
          sym (list_any-IsPermutation (λ (g : Stand). g.part == part && le_in back g.key key) (new ∷ rest) heads'
          kept)
          ∙ ⊎_elim
          (λ here.
          let same : h.part ≡ part = eqb-true h.part part
          (and_parts (h.part == part) (le_in back h.key key) here).0 in
          or_left (new.part == part && le_in back new.key key) (is_ahead_in back rest part key)
          (and_from (new.part == part) (le_in back new.key key)
          (same_number new.part part (moved.in_part ∙ same)) (reached part key value same live over)))
          (λ no.
          or_right (new.part == part && le_in back new.key key) (is_ahead_in back rest part key)
          (ap (λ b. b || is_ahead_in back rest part key) (sym no) ∙ among part key value live inside over))
          (cases_Bool (h.part == part && le_in back h.key key))

      pub moves_on : AreAhead back es range heads'
      moves_on = goes_on heads' with_are with_above with_ahead

      pub moves_first : ContentLaws es → rows_ahead back (h ∷ rest) range (content es) ≡ (h.key, h.value) ∷
          rows_ahead back heads' range (content es)
      moves_first = gives_first heads' with_are with_above with_ahead

  -- ---- all that is still to come stands in one partition

  module _ {es : List Entry} {range : Interval} (h : Stand) (cursor : AreAhead back es range (h ∷ [])) where
    abbrev behind_it : Interval
    behind_it = rest_of back range h.key

    pub only : IsHead back es range h
    only = All-head (IsHead back es range) h [] cursor.are_heads.each

    ends : (le_in back (first_key back range) h.key ≡ true) × (le_in back h.key (last_key back range) ≡ true)
    ends = to_ends back range h.key only.inside

    widened : (q : OrderedKey) → le_in back h.key q ≡ true → le_in back (first_key back range) q ≡ true
    widened q le = le_in_trans back (first_key back range) h.key q ends.0 le

    lives_in_one : LivesInOne es h.part behind_it
    lives_in_one = record {
      one = λ p key value live inside.
          let parts = to_rest back range h.key key inside in
          let ahead = cursor.before p key value live (from_ends back range key (widened key parts.0) parts.1)
          (or_left (le_in back h.key key) false parts.0) in
          sym (eqb-true h.part p (and_parts (h.part == p) (le_in back h.key key)
          (or_alone (h.part == p && le_in back h.key key) ahead)).0);
    }
      where
        or_alone : (b : Bool) → (b || false) ≡ true → b ≡ true
        or_alone true e = refl
        or_alone false e = absurd (true≢false (sym e))

    pub alone_rows : ((part : ℕ) (range : Interval) → LivesInOne es part range →
        rows_in es part range ≡ rows_where (within range) (content es)) →
        rows_ahead back (h ∷ []) range (content es) ≡ as_read back (rows_in es h.part (rest_of back range h.key))
    alone_rows law =
        ap (as_read back) (same_rows (λ key. is_ahead back (h ∷ []) key && within range key) (within behind_it)
        (content es)
        (λ q v there. same_test (le_in back h.key q) q refl)
        ∙ sym (law h.part behind_it lives_in_one))
      where
        same_test : (b : Bool) (q : OrderedKey) → le_in back h.key q ≡ b →
            (is_ahead back (h ∷ []) q && within range q) ≡ within behind_it q
        same_test true q e =
            ap (λ b. (b || false) && within range q) e ∙ in_range back range q
            ∙ ap (λ b. b && le_in back q (last_key back range)) (widened q e ∙ sym e)
            ∙ sym (in_rest back range h.key q)
        same_test false q e = ap (λ b. (b || false) && within range q) e
            ∙ sym (in_rest back range h.key q ∙ ap (λ b. b && le_in back q (last_key back range)) e)
