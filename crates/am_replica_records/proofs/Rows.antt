-- The records of a map, from a key on.
use Rattle.std.proofs.Common.{◌≡◌, ◌≤◌, ◌<◌, ◌+◌, ℕ, zero, suc, List, [], ◌∷◌, ◌++◌, Bool, true, false, cond, not}
use Rattle.std.proofs.Common.{◌&&◌, ◌||◌, refl, sym, ap, ◌∙◌, subst, append_assoc, append-nil, length, take, drop}
use Rattle.std.proofs.Common.{arith, length-append, Option, Some, None}
use Rattle.std.specs.Prelude.{filter, T}
use Rattle.std.proofs.lemmas.Bool.{true≢false, false_from_ne_true}
use Rattle.std.specs.List.{AllByRecursion}
use Rattle.std.specs.declared.cmp.Ordering.{Ordering}
use Rattle.std.specs.declared.cmp.Ordering.TheVariants.{Less, Equal, Greater}
use Rattle.std.specs.Ordering.{is_le, is_eq, ordering_reverse, eq_by_cmp}
use Rattle.std.specs.FinMap.{entries, empty, get, insert, find, is_sorted, entries_sorted, get-insert, get-empty}
use Rattle.std.specs.FinMap.{get-entries, same_map, from_sorted, entries-from_sorted}
use Rattle.std.specs.FinMap.Entries.{is_sorted-where_key}
use Rattle.std.proofs.lemmas.List.{take-append-drop}
use Rattle.am_record.specs.OrderedKey.{OrderedKey, key_cmp, key_cmp-total, key_cmp-exact, key_least, key_least-least}
use Rattle.am_record.specs.OrderedKey.{key_eq-exact}
use Rattle.am_record.specs.Interval.{Interval, key_le, key_le-itself, key_greatest}
use Rattle.am_record.specs.Plain.{PlainMap, Records, scan_rows, insert_all, is_key_of, first_key, least_taken}
use Rattle.am_record.specs.Plain.{load_where}
use Rattle.am_record.specs.declared.step.Op.TheVariants.{Scan}
use Rattle.am_record.specs.declared.step.Reply.{Reply}
use Rattle.am_record.specs.declared.step.Reply.TheVariants.{Rows}
use Rattle.am_record.proofs.FirstRows.{Record}
use Rattle.am_record.proofs.KeyOrder.{key_le_trans}
use Rattle.am_record.proofs.Lists.{AllByRecursion-map, AllByRecursion-always, AllByRecursion-front}
use Rattle.am_record.proofs.Lists.{AllByRecursion-back, tails}
use Rattle.am_record.proofs.Orderings.{not_lt_le_back}
use Rattle.am_record.proofs.Outcomes.{is_true}
use Rattle.am_record.proofs.RisingRecords.{Below, sorted_parts, sorted_from}
use Rattle.am_replica.specs.Bodies.{replies}
use Rattle.am_replica_records.specs.Records.{all_rows, rows_from, page_len, HasKeys}

-- ---- filters

abbrev passing : (OrderedKey → Bool) → Records → Records
passing test rows = filter (λ (e : Record). test e.0) rows

keeps : (test : OrderedKey → Bool) (rows : Records) → AllByRecursion (λ (e : Record). test e.0 ≡ true) rows →
    passing test rows ≡ rows
keeps test [] all = refl
keeps test (e ∷ rows) all = ap (λ b. cond b (e ∷ passing test rows) (passing test rows)) all.0 ∙
    ap (λ es. e ∷ es) (keeps test rows all.1)

one_of_both : (a b : Bool) (test : OrderedKey → Bool) (e : Record) (rows : Records) → test e.0 ≡ a →
    cond (a && b) (e ∷ passing test rows) (passing test rows) ≡ passing test (cond b (e ∷ rows) rows)
one_of_both a true test e rows h = by_test a h
  where
    by_test : (a : Bool) → test e.0 ≡ a → cond (a && true) (e ∷ passing test rows) (passing test rows) ≡
        cond (test e.0) (e ∷ passing test rows) (passing test rows)
    by_test true h = ap (λ b. cond b (e ∷ passing test rows) (passing test rows)) (sym h)
    by_test false h = ap (λ b. cond b (e ∷ passing test rows) (passing test rows)) (sym h)
one_of_both true false test e rows h = refl
one_of_both false false test e rows h = refl

both : (a b : OrderedKey → Bool) (rows : Records) → passing (λ k. a k && b k) rows ≡ passing a (passing b rows)
both a b [] = refl
both a b (e ∷ rows) =
    ap (λ es. cond (a e.0 && b e.0) (e ∷ es) es) (both a b rows)
    ∙ one_of_both (a e.0) (b e.0) a e (passing b rows) refl

-- ---- pages

-- what a scan from a key on tells
pub scanned : (key : OrderedKey) (m : PlainMap) → scan_rows (record { lo = key; hi = key_greatest }) page_len m ≡
    take page_len (rows_from key m)
scanned key m = ap (take page_len) (both (λ k. key_le key k) (λ k. key_le k key_greatest) (entries m))

above_least : (k : OrderedKey) → key_le key_least k ≡ true
above_least k = ap is_le (key_cmp-total.antisymm key_least k) ∙
    not_lt_le_back (key_cmp k key_least) (key_least-least k)

-- no key is below the least
pub from_least : (m : PlainMap) → rows_from key_least m ≡ all_rows m
from_least m = keeps (λ k. key_le key_least k) (all_rows m)
    (AllByRecursion-always (λ (e : Record). key_le key_least e.0 ≡ true) (λ e. above_least e.0) (all_rows m))

-- no record is at a key above the greatest
one_more : (key : OrderedKey) (e : Record) (rest : Records) (b : Bool) → key_le key key_greatest ≡ false →
    key_le e.0 key_greatest ≡ b → passing (λ k. key_le key k) rest ≡ [] →
    passing (λ k. key_le key k) (cond b (e ∷ rest) rest) ≡ []
one_more key e rest false over h none = none
one_more key e rest true over h none =
    let apart : key_le key e.0 ≡ false = false_from_ne_true (key_le key e.0) (λ below. true≢false
    (sym (key_le_trans key e.0 key_greatest below h) ∙ over)) in
    let kept = passing (λ k. key_le key k) rest in
    ap (λ b. cond b (e ∷ kept) kept) apart ∙ none

none_among : (key : OrderedKey) (rows : Records) → key_le key key_greatest ≡ false →
    passing (λ k. key_le key k) (passing (λ k. key_le k key_greatest) rows) ≡ []
none_among key [] over = refl
none_among key (e ∷ rows) over = one_more key e (passing (λ k. key_le k key_greatest) rows) (key_le e.0 key_greatest)
    over refl (none_among key rows over)

pub none_above : (key : OrderedKey) (m : PlainMap) → key_le key key_greatest ≡ false → rows_from key m ≡ []
none_above key m over = none_among key (entries m) over

-- ---- records in order

pub rows_sorted : (m : PlainMap) → is_sorted key_cmp (all_rows m) ≡ true
rows_sorted m = is_true (is_sorted key_cmp (all_rows m))
    (is_sorted-where_key key_cmp (λ k. key_le k key_greatest) (entries m) (entries_sorted m))

not_le : (o : Ordering) → o ≡ Less → is_le (ordering_reverse o) ≡ false
not_le o h = ap (λ r. is_le (ordering_reverse r)) h

dropped : (front : Records) (r : Record) (rest : Records) → is_sorted key_cmp (front ++ r ∷ rest) ≡ true →
    passing (λ k. key_le r.0 k) (front ++ r ∷ rest) ≡ r ∷ rest
dropped [] r rest sorted =
    keeps (λ k. key_le r.0 k) (r ∷ rest) (
      key_le-itself r.0,
      AllByRecursion-map (λ (e : Record). key_cmp r.0 e.0 ≡ Less)
          (λ (e : Record). key_le r.0 e.0 ≡ true) (λ e less. ap is_le less) rest (sorted_parts r rest sorted).0,
    )
dropped (f ∷ front) r rest sorted =
    let parts = sorted_parts f (front ++ r ∷ rest) sorted in
    let below : key_cmp f.0 r.0 ≡ Less =
    (AllByRecursion-back (λ (e : Record). key_cmp f.0 e.0 ≡ Less) front (r ∷ rest) parts.0).0 in
    let apart : key_le r.0 f.0 ≡ false =
    ap is_le (key_cmp-total.antisymm r.0 f.0) ∙ not_le (key_cmp f.0 r.0) below in
    let kept = passing (λ k. key_le r.0 k) (front ++ r ∷ rest) in
    ap (λ b. cond b (f ∷ kept) kept) apart ∙ dropped front r rest parts.1

pub from_there : (m : PlainMap) (front : Records) (r : Record) (rest : Records) → all_rows m ≡ front ++ r ∷ rest →
    rows_from r.0 m ≡ r ∷ rest
from_there m front r rest is =
    ap (passing (λ k. key_le r.0 k)) is
    ∙ dropped front r rest (subst (λ rows. is_sorted key_cmp rows ≡ true) is (rows_sorted m))

-- ---- a page after others

short_whole : (n : ℕ) (rows : Records) → length (take n rows) < n → take n rows ≡ rows
short_whole zero rows few = absurd (omega arith)
short_whole (suc n) [] few = refl
short_whole (suc n) (r ∷ rows) few = ap (λ rs. r ∷ rs) (short_whole n rows (omega arith))

pub last_page : (m : PlainMap) (key : OrderedKey) (all page : Records) → all ++ rows_from key m ≡ all_rows m →
    page ≡ take page_len (rows_from key m) → length page < page_len → (all ++ page) ++ [] ≡ all_rows m
last_page m key all page so_far is few =
    append-nil (all ++ page)
    ∙ ap (λ rows. all ++ rows)
    (is ∙ short_whole page_len (rows_from key m) (subst (λ rows. length rows < page_len) is few))
    ∙ so_far

pub record GoesOn (m : PlainMap) (key next : OrderedKey) (all : Records) : Type 0 where
  pub so_far : all ++ rows_from next m ≡ all_rows m
  pub fewer : length (rows_from next m) < length (rows_from key m)

pub page_goes_on : (m : PlainMap) (key : OrderedKey) (all page front : Records) (last : Record) →
    all ++ rows_from key m ≡ all_rows m → page ≡ take page_len (rows_from key m) → page ≡ front ++ last ∷ [] →
    page_len ≤ length page → GoesOn m key last.0 (all ++ front)
page_goes_on m key all page front last so_far is ends full =
    let later = drop page_len (rows_from key m) in
    let from_key : rows_from key m ≡ front ++ last ∷ later =
    sym (take-append-drop page_len (rows_from key m))
    ∙ ap (λ rows. rows ++ later) (sym is ∙ ends)
    ∙ append_assoc front (last ∷ []) later in
    let whole : all_rows m ≡ (all ++ front) ++ last ∷ later =
    sym so_far ∙ ap (λ rows. all ++ rows) from_key ∙ sym (append_assoc all front (last ∷ later)) in
    let from_last : rows_from last.0 m ≡ last ∷ later = from_there m (all ++ front) last later whole in
    let long : length (rows_from key m) ≡ length front + length (last ∷ later) =
    ap length from_key ∙ length-append front (last ∷ later) in
    let many : length page ≡ length front + 1 = ap length ends ∙ length-append front (last ∷ []) in
    let short : length (rows_from last.0 m) ≡ length (last ∷ later) = ap length from_last in
    record {
      so_far = ap (λ rows. (all ++ front) ++ rows) from_last ∙ sym whole;
      fewer = omega arith;
    }

-- ---- records that are put in

abbrev found_or : Option (List ℕ) → Option (List ℕ) → Option (List ℕ)
found_or None other = other
found_or (Some v) other = Some v

none_below : (k : OrderedKey) (rows : Records) → Below k rows → find key_cmp k rows ≡ None
none_below k [] below = refl
none_below k (e ∷ rows) below = ap (λ o. cond (is_eq o) (Some e.1) (find key_cmp k rows)) below.0 ∙
    none_below k rows below.1

get_put : (rows : Records) (m : PlainMap) (q : OrderedKey) → is_sorted key_cmp rows ≡ true →
    get (insert_all rows m) q ≡ found_or (find key_cmp q rows) (get m q)
get_put [] m q sorted = refl
get_put (e ∷ rows) m q sorted =
    let parts = sorted_parts e rows sorted in
    get_put rows (insert m e.0 e.1) q parts.1
    ∙ ap (found_or (find key_cmp q rows)) (get-insert key_cmp-total m e.0 e.1 q)
    ∙ by_test (eq_by_cmp key_cmp q e.0) refl
  where
    by_test : (b : Bool) → eq_by_cmp key_cmp q e.0 ≡ b →
        found_or (find key_cmp q rows) (cond b (Some e.1) (get m q)) ≡
        found_or (cond b (Some e.1) (find key_cmp q rows)) (get m q)
    by_test true h = ap (λ found. found_or found (Some e.1))
        (ap (λ k. find key_cmp k rows) (key_eq-exact q e.0 h) ∙ none_below e.0 rows (sorted_parts e rows sorted).0)
    by_test false h = refl

none_else : (found : Option (List ℕ)) → found_or found None ≡ found
none_else None = refl
none_else (Some v) = refl

whole_map : (m : PlainMap) → insert_all (entries m) empty ≡ m
whole_map m =
    let sorted : is_sorted key_cmp (entries m) ≡ true =
    is_true (is_sorted key_cmp (entries m)) (entries_sorted m) in
    same_map key_cmp-total key_cmp-exact (insert_all (entries m) empty) m (λ q.
    get_put (entries m) empty q sorted
    ∙ ap (found_or (find key_cmp q (entries m))) (get-empty key_cmp q)
    ∙ none_else (find key_cmp q (entries m))
    ∙ sym (get-entries m q))

pub whole_again : (m : PlainMap) → HasKeys m → insert_all (all_rows m) empty ≡ m
whole_again m keys = ap (λ rows. insert_all rows empty) (keeps (λ k. key_le k key_greatest) (entries m) keys)
    ∙ whole_map m

entries_loaded : (rows : Records) → is_sorted key_cmp rows ≡ true → entries (insert_all rows empty) ≡ rows
entries_loaded rows sorted =
    let m : PlainMap = from_sorted rows in
    let same : entries m ≡ rows = entries-from_sorted key_cmp rows (subst T (sym sorted) tt) in
    ap entries (ap (λ es. insert_all es empty) (sym same) ∙ whole_map m) ∙ same

pub put_both : (front rest : Records) (m : PlainMap) → insert_all (front ++ rest) m ≡
    insert_all rest (insert_all front m)
put_both [] rest m = refl
put_both (r ∷ front) rest m = put_both front rest (insert m r.0 r.1)

-- ---- parts of records in order

pub sorted_front : (front rest : Records) → is_sorted key_cmp (front ++ rest) ≡ true → is_sorted key_cmp front ≡ true
sorted_front [] rest sorted = refl
sorted_front (r ∷ front) rest sorted =
    let parts = sorted_parts r (front ++ rest) sorted in
    sorted_from r front (AllByRecursion-front (λ (e : Record). key_cmp r.0 e.0 ≡ Less) front rest parts.0)
    (sorted_front front rest parts.1)

pub sorted_back : (front rest : Records) → is_sorted key_cmp (front ++ rest) ≡ true → is_sorted key_cmp rest ≡ true
sorted_back [] rest sorted = sorted
sorted_back (r ∷ front) rest sorted = sorted_back front rest (sorted_parts r (front ++ rest) sorted).1

-- ---- transactions of one operation

-- a scan alone is answered its rows
none_ends : (xs : List Reply) (x : Reply) → [] ≡ xs ++ x ∷ [] → ⊥
none_ends [] x e = cc
none_ends (y ∷ xs) x e = cc

pub rows_told : (xs : List Reply) (rows told : Records) → Rows rows ∷ [] ≡ xs ++ Rows told ∷ [] → told ≡ rows
rows_told [] rows told e = cc
rows_told (x ∷ xs) rows told e = absurd (none_ends xs (Rows told) (tails e))

pub scan_told : (range : Interval) (m : PlainMap) → replies (Scan range page_len ∷ []) m ≡
    Rows (scan_rows range page_len m) ∷ []
scan_told range m = refl

-- ---- a run above the records before it

none_tied : (k : OrderedKey) (rows : Records) → Below k rows → is_key_of rows k ≡ false
none_tied k [] below = refl
none_tied k (e ∷ rows) below = ap (λ o. is_eq o || is_key_of rows k) below.0 ∙ none_tied k rows below.1

apart : (front run : Records) → is_sorted key_cmp (front ++ run) ≡ true → passing (λ k. is_key_of run k) front ≡ []
apart [] run sorted = refl
apart (e ∷ front) run sorted =
    let parts = sorted_parts e (front ++ run) sorted in
    let kept = passing (λ k. is_key_of run k) front in
    ap (λ b. cond b (e ∷ kept) kept) (none_tied e.0 run
    (AllByRecursion-back (λ (r : Record). key_cmp e.0 r.0 ≡ Less) front run parts.0))
    ∙ apart front run parts.1

-- the records so far are in the store, and these are left
pub record AreLoaded (records rest : Records) (m : PlainMap) : Type 0 where
  pub front : Records
  pub is : records ≡ front ++ rest
  pub map : m ≡ insert_all front empty

pub loads_run : (records run after : Records) (m m' : PlainMap) → is_sorted key_cmp records ≡ true →
    AreLoaded records (run ++ after) m → m' ≡ load_where (least_taken run m) run m → AreLoaded records after m'
loads_run records run after m m' sorted loaded is =
    let front = loaded.front in
    let whole : records ≡ (front ++ run) ++ after = loaded.is ∙ sym (append_assoc front run after) in
    let both : is_sorted key_cmp (front ++ run) ≡ true =
    sorted_front (front ++ run) after (subst (λ rows. is_sorted key_cmp rows ≡ true) whole sorted) in
    let none : least_taken run m ≡ None =
    ap (least_taken run) loaded.map
    ∙ ap (λ rows. first_key (passing (λ k. is_key_of run k) rows))
    (entries_loaded front (sorted_front front run both))
    ∙ ap first_key (apart front run both) in
    record {
      front = front ++ run;
      is = whole;
      map =
          is
          ∙ ap (λ taken. load_where taken run m) none
          ∙ ap (insert_all run) loaded.map
          ∙ sym (put_both front run empty);
    }

pub all_loaded : (records rest : Records) (m : PlainMap) → AreLoaded records rest m → rest ≡ [] →
    m ≡ insert_all records empty
all_loaded records rest m loaded none =
    loaded.map
    ∙ ap (λ rows. insert_all rows empty)
    (sym (append-nil loaded.front) ∙ ap (λ rows. loaded.front ++ rows) (sym none) ∙ sym loaded.is)
