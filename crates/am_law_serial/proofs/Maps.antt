-- Maps that agree on some keys, and what operations do with them.
use Rattle.std.proofs.Common.{◌≡◌, ℕ, List, [], ◌∷◌, Bool, true, false, cond, refl, sym, ap, ◌∙◌, subst, ⊎_elim}
use Rattle.std.proofs.Common.{Option, Some, None}
use Rattle.std.specs.Prelude.{◌||◌, not, take, reverse, length, filter, is_some}
use Rattle.std.specs.List.{AllByRecursion}
use Rattle.std.specs.Ordering.{eq_by_cmp}
use Rattle.std.specs.FinMap.{get, empty, len-empty, len-entries, contains_key, insert, remove, entries, retain_keys}
use Rattle.std.specs.FinMap.{from_sorted, entries_sorted, same_map, get-entries, get-insert, get-remove}
use Rattle.std.specs.FinMap.{get-retain_keys, get-from_sorted, entries-from_sorted}
use Rattle.std.specs.FinMap.Entries.{is_sorted-where_key, find-where_key}
use Rattle.std.proofs.lemmas.Bool.{both_ways, or_parts, or_cases, or_left, or_right, false≢true, cond-false, cond_both}
use Rattle.std.proofs.lemmas.Bool.{false_from_ne_true, cases_Bool}
use Rattle.std.proofs.lemmas.List.{nil_from_length}
use Rattle.am_record.specs.OrderedKey.{OrderedKey, key_cmp, key_cmp-total, key_cmp-exact, key_eq-exact}
use Rattle.am_record.specs.Interval.{Interval, within, point}
use Rattle.am_record.specs.declared.lock.Lock.{Lock}
use Rattle.am_record.specs.declared.step.Op.{Op}
use Rattle.am_record.specs.declared.step.Op.TheVariants.{Get, Scan, ScanBack, Insert, Replace, Set, Delete}
use Rattle.am_record.specs.declared.step.Op.TheVariants.{DeleteRange, Load, Put, Lock as TakeLock, Mark, Back}
use Rattle.am_record.specs.declared.step.Reply.{Reply}
use Rattle.am_record.specs.declared.step.Reply.TheVariants.{Rows, Exists, Missing, Done, Deleted}
use Rattle.am_record.specs.Plain.{Records, PlainMap, is_key_of, rows_where, scan_rows, first_key, least_taken, found}
use Rattle.am_record.specs.Plain.{exists_or_done, map_answer, insert_all, remove_all, load_where, map_after, is_rising}
use Rattle.am_record.specs.Plain.{has_new, is_orderly}
use Rattle.am_record.specs.Asks.{lock_of, span, has_key, owns_key}
use Rattle.am_record.proofs.FirstRows.{key_eq-itself}
use Rattle.am_record.proofs.KeyOrder.{ties_alike}
use Rattle.am_record.proofs.Lists.{AllByRecursion-take}
use Rattle.am_record.proofs.Maps.{get_beside_inserted, get_beside_removed}
use Rattle.am_law_serial.specs.Agreement.{Agree}
use Rattle.am_law_serial.specs.Trace.{runs_made}
use Rattle.am_law_serial.proofs.Keys.{in_span, not_in_point, in_point}

-- ---- what an operation asks for

-- a test of the lock that is asked for; false where none is
abbrev pub of_asked : (Lock → Bool) → Option Lock → Bool
of_asked test None = false
of_asked test (Some asked) = test asked

-- the keys that the operation may read; those that it may write
abbrev pub reads : Op → OrderedKey → Bool
reads op q = of_asked (has_key q) (lock_of op)

abbrev pub writes : Op → OrderedKey → Bool
writes op q = of_asked (owns_key q) (lock_of op)

-- ---- maps that agree

pub record Within (A S : OrderedKey → Bool) : Type 0 where
  pub at : (q : OrderedKey) → A q ≡ true → S q ≡ true

pub agree_within : {A S : OrderedKey → Bool} {m n : PlainMap} → Within A S → Agree S m n → Agree A m n
agree_within w a = record { at = λ q h. a.at q (w.at q h) }

pub agree_refl : {S : OrderedKey → Bool} (m : PlainMap) → Agree S m m
agree_refl m = record { at = λ q h. refl }

cond_alike : {A : Type 0} (b : Bool) (x y z : A) → (b ≡ true → x ≡ y) → cond b x z ≡ cond b y z
cond_alike true x y z h = h refl
cond_alike false x y z h = refl

pub entries-empty : entries (empty {X = List ℕ} {R = key_cmp}) ≡ []
entries-empty = nil_from_length _ (sym (len-entries (empty {X = List ℕ} {R = key_cmp})) ∙ len-empty key_cmp (List ℕ))

-- what the map keeps of the keys that pass
pub entries-retain_keys : (test : OrderedKey → Bool) (m : PlainMap) → entries (retain_keys m test) ≡ rows_where test m
entries-retain_keys test m =
    let es = rows_where test m in
    let sorted = is_sorted-where_key key_cmp test (entries m) (entries_sorted m) in
    let same : retain_keys m test ≡ from_sorted es = same_map key_cmp-total key_cmp-exact (retain_keys m test)
    (from_sorted es) (λ q.
    get-retain_keys m test q (ties_alike test q)
    ∙ ap (λ o. cond (test q) o None) (get-entries m q)
    ∙ sym (get-from_sorted key_cmp es q sorted ∙ find-where_key key_cmp test q (ties_alike test q) (entries m))) in
    ap entries same ∙ entries-from_sorted key_cmp es sorted

pub rows_alike : (test : OrderedKey → Bool) (m n : PlainMap) → Agree test m n → rows_where test m ≡ rows_where test n
rows_alike test m n a = sym (entries-retain_keys test m) ∙
    ap entries (same_map key_cmp-total key_cmp-exact (retain_keys m test) (retain_keys n test) (λ q.
    get-retain_keys m test q (ties_alike test q)
    ∙ cond_alike (test q) (get m q) (get n q) None (a.at q)
    ∙ sym (get-retain_keys n test q (ties_alike test q)))) ∙ entries-retain_keys test n

module _ {S : OrderedKey → Bool} where
  agree_insert : (m n : PlainMap) (k : OrderedKey) (v : List ℕ) → Agree S m n → Agree S (insert m k v) (insert n k v)
  agree_insert m n k v a = record {
    at = λ q h. get-insert key_cmp-total m k v q ∙
        ap (cond (eq_by_cmp key_cmp q k) (Some v)) (a.at q h) ∙ sym (get-insert key_cmp-total n k v q);
  }

  agree_remove : (m n : PlainMap) (k : OrderedKey) → Agree S m n → Agree S (remove m k) (remove n k)
  agree_remove m n k a = record {
    at = λ q h. get-remove key_cmp-total m k q ∙ ap (cond (eq_by_cmp key_cmp q k) None)
        (a.at q h) ∙ sym (get-remove key_cmp-total n k q);
  }

  agree_insert_all : (ps : Records) (m n : PlainMap) → Agree S m n → Agree S (insert_all ps m) (insert_all ps n)
  agree_insert_all [] m n a = a
  agree_insert_all (p ∷ ps) m n a = agree_insert_all ps (insert m p.0 p.1) (insert n p.0 p.1)
      (agree_insert m n p.0 p.1 a)

  agree_remove_all : (rs : Records) (m n : PlainMap) → Agree S m n → Agree S (remove_all rs m) (remove_all rs n)
  agree_remove_all [] m n a = a
  agree_remove_all (r ∷ rs) m n a = agree_remove_all rs (remove m r.0) (remove n r.0) (agree_remove m n r.0 a)

  agree_load : (taken : Option OrderedKey) (ps : Records) (m n : PlainMap) → Agree S m n →
      Agree S (load_where taken ps m) (load_where taken ps n)
  agree_load None ps m n a = agree_insert_all ps m n a
  agree_load (Some k) ps m n a = a

  agree_cond : (b : Bool) (m n m' n' : PlainMap) → Agree S m n → Agree S m' n' → Agree S (cond b m m') (cond b n n')
  agree_cond true m n m' n' a a' = a
  agree_cond false m n m' n' a a' = a'

contains_alike : {m n : PlainMap} (k : OrderedKey) → Agree (within (point k)) m n → contains_key m k ≡ contains_key n k
contains_alike k a = ap is_some (a.at k (in_point k))

-- what is asked of a load's lock: each key that it asks about
load_within : (records : Records) → is_rising records ≡ true → Within (is_key_of records) (within (span records))
load_within records r = record { at = λ q h. in_span records q r h }

taken_alike : (records : Records) (m n : PlainMap) → is_rising records ≡ true → Agree (within (span records)) m n →
    least_taken records m ≡ least_taken records n
taken_alike records m n r a = ap first_key (rows_alike (is_key_of records) m n (agree_within (load_within records r) a))

-- an answer depends on the keys that the operation may read
pub answer_local : (op : Op) (m n : PlainMap) → is_orderly op ≡ true → Agree (reads op) m n →
    map_answer op m ≡ map_answer op n
answer_local (Get k) m n o a = ap found (a.at k (in_point k))
answer_local (Scan range max) m n o a = ap (λ rows. Rows (take max rows)) (rows_alike (within range) m n a)
answer_local (ScanBack range max) m n o a =
    ap (λ rows. Rows (take max (reverse rows))) (rows_alike (within range) m n a)
answer_local (Insert k v) m n o a = ap (λ b. cond b (Exists k) Done) (contains_alike k a)
answer_local (Replace k v) m n o a = ap (λ b. cond b Done Missing) (contains_alike k a)
answer_local (Delete k) m n o a = ap (λ b. cond b Done Missing) (contains_alike k a)
answer_local (DeleteRange range max) m n o a =
    ap (λ rows. Deleted (length (take max rows))) (rows_alike (within range) m n a)
answer_local (Load records) m n o a = ap exists_or_done (taken_alike records m n o a)
answer_local op m n o a = refl

-- what agreed on a set that has those keys still does
pub after_local : {S : OrderedKey → Bool} (op : Op) (m n : PlainMap) → is_orderly op ≡ true → Within (reads op) S →
    Agree S m n → Agree S (map_after op m) (map_after op n)
after_local (Get k) m n o w a = a
after_local (Scan range max) m n o w a = a
after_local (ScanBack range max) m n o w a = a
after_local {S} (Insert k v) m n o w a = subst (λ b. Agree S (map_after (Insert k v) m) (cond b n (insert n k v)))
    (contains_alike k (agree_within w a)) (agree_cond (contains_key m k) m n (insert m k v) (insert n k v) a
    (agree_insert m n k v a))
after_local {S} (Replace k v) m n o w a = subst (λ b. Agree S (map_after (Replace k v) m) (cond b (insert n k v) n))
    (contains_alike k (agree_within w a)) (agree_cond (contains_key m k) (insert m k v) (insert n k v) m n
    (agree_insert m n k v a) a)
after_local (Set k v) m n o w a = agree_insert m n k v a
after_local (Delete k) m n o w a = agree_remove m n k a
after_local {S} (DeleteRange range max) m n o w a =
    subst (λ rows. Agree S (map_after (DeleteRange range max) m) (remove_all rows n))
    (ap (take max) (rows_alike (within range) m n (agree_within w a)))
    (agree_remove_all (scan_rows range max m) m n a)
after_local {S} (Load records) m n o w a =
    subst (λ taken. Agree S (map_after (Load records) m) (load_where taken records n))
    (taken_alike records m n o (agree_within w a))
    (agree_load (least_taken records m) records m n a)
after_local (Put records) m n o w a = agree_insert_all records m n a
after_local (TakeLock lock) m n o w a = a
after_local Mark m n o w a = a
after_local Back m n o w a = a

get-insert_all_other : (ps : Records) (m : PlainMap) (q : OrderedKey) → is_key_of ps q ≡ false →
    get (insert_all ps m) q ≡ get m q
get-insert_all_other [] m q h = refl
get-insert_all_other (p ∷ ps) m q h =
    let parts = or_parts (eq_by_cmp key_cmp q p.0) (is_key_of ps q) h in
    get-insert_all_other ps (insert m p.0 p.1) q parts.1 ∙ get_beside_inserted m p.0 p.1 q parts.0

get-load_other : (taken : Option OrderedKey) (ps : Records) (m : PlainMap) (q : OrderedKey) → is_key_of ps q ≡ false →
    get (load_where taken ps m) q ≡ get m q
get-load_other None ps m q h = get-insert_all_other ps m q h
get-load_other (Some k) ps m q h = refl

-- ---- records that are put in, in two parts

-- the value of the last record of the key, or else the one that was there
abbrev last_value : Records → OrderedKey → Option (List ℕ) → Option (List ℕ)
last_value [] q o = o
last_value (p ∷ ps) q o = last_value ps q (cond (eq_by_cmp key_cmp q p.0) (Some p.1) o)

get-insert_all : (ps : Records) (m : PlainMap) (q : OrderedKey) → get (insert_all ps m) q ≡ last_value ps q (get m q)
get-insert_all [] m q = refl
get-insert_all (p ∷ ps) m q = get-insert_all ps (insert m p.0 p.1) q ∙
    ap (last_value ps q) (get-insert key_cmp-total m p.0 p.1 q)

module _ (test : OrderedKey → Bool) (q : OrderedKey) where
  abbrev passing : Records → Records
  passing ps = filter (λ (r : OrderedKey × List ℕ). test r.0) ps

  -- a key that differs in the test
  beside : (p : OrderedKey × List ℕ) (o : Option (List ℕ)) (b : Bool) → test q ≡ b → test p.0 ≡ not b →
      cond (eq_by_cmp key_cmp q p.0) (Some p.1) o ≡ o
  beside p o b here there = cond-false (eq_by_cmp key_cmp q p.0) (Some p.1) o (false_from_ne_true _
      (λ e. both_sides b (sym here ∙ ap test (key_eq-exact q p.0 e) ∙ there)))
    where
      both_sides : (b : Bool) → b ≡ not b → ⊥
      both_sides true e = false≢true (sym e)
      both_sides false e = false≢true e

  last_kept : (ps : Records) (o : Option (List ℕ)) → test q ≡ true → last_value (passing ps) q o ≡ last_value ps q o
  last_kept [] o h = refl
  last_kept (p ∷ ps) o h = by_test (test p.0) refl (λ x. last_kept ps x h)
    where
      by_test : (b : Bool) → test p.0 ≡ b →
          ((x : Option (List ℕ)) → last_value (passing ps) q x ≡ last_value ps q x) →
          last_value (cond b (p ∷ passing ps) (passing ps)) q o ≡ last_value ps q
          (cond (eq_by_cmp key_cmp q p.0) (Some p.1) o)
      by_test true e rest = rest (cond (eq_by_cmp key_cmp q p.0) (Some p.1) o)
      by_test false e rest = rest o ∙ ap (last_value ps q) (sym (beside p o true h e))

  last_none : (ps : Records) (o : Option (List ℕ)) → test q ≡ false → last_value (passing ps) q o ≡ o
  last_none [] o h = refl
  last_none (p ∷ ps) o h = by_test (test p.0) refl (last_none ps o h)
    where
      by_test : (b : Bool) → test p.0 ≡ b → last_value (passing ps) q o ≡ o →
          last_value (cond b (p ∷ passing ps) (passing ps)) q o ≡ o
      by_test true e rest = ap (last_value (passing ps) q) (beside p o false h e) ∙ rest
      by_test false e rest = rest

-- those that fail a test of their keys first, and then the others
pub insert_all-parted : (test : OrderedKey → Bool) (ps : Records) (m : PlainMap) →
    insert_all (filter (λ (r : OrderedKey × List ℕ). test r.0) ps)
    (insert_all (filter (λ (r : OrderedKey × List ℕ). not (test r.0)) ps) m) ≡ insert_all ps m
insert_all-parted test ps m = same_map key_cmp-total key_cmp-exact _ _ (λ q.
    let fails : OrderedKey → Bool = λ k. not (test k) in
    let o = get m q in
    get-insert_all (passing test q ps) (insert_all (passing fails q ps) m) q
    ∙ ap (last_value (passing test q ps) q) (get-insert_all (passing fails q ps) m q)
    ∙ ⊎_elim
    (λ yes. ap (last_value (passing test q ps) q) (last_none fails q ps o (ap not yes)) ∙ last_kept test q ps o yes)
    (λ no. last_none test q ps (last_value (passing fails q ps) q o) no ∙ last_kept fails q ps o (ap not no))
    (cases_Bool (test q))
    ∙ sym (get-insert_all ps m q))

-- ---- records that are removed

pub get-remove_all : (rs : Records) (m : PlainMap) (q : OrderedKey) →
    get (remove_all rs m) q ≡ cond (is_key_of rs q) None (get m q)
get-remove_all [] m q = refl
get-remove_all (r ∷ rs) m q =
    get-remove_all rs (remove m r.0) q
    ∙ ap (cond (is_key_of rs q) None) (get-remove key_cmp-total m r.0 q)
    ∙ either (eq_by_cmp key_cmp q r.0) (is_key_of rs q)
  where
    either : (here later : Bool) → cond later None (cond here None (get m q)) ≡ cond (here || later) None (get m q)
    either true true = refl
    either true false = refl
    either false true = refl
    either false false = refl

-- the records that pass a test pass it
rows_pass : (test : OrderedKey → Bool) (es : Records) →
    AllByRecursion (λ (r : OrderedKey × List ℕ). test r.0 ≡ true) (filter (λ (e : OrderedKey × List ℕ). test e.0) es)
rows_pass test [] = tt
rows_pass test (e ∷ es) =
    let rest = filter (λ (r : OrderedKey × List ℕ). test r.0) es in
    cond_both (test e.0) (e ∷ rest) rest (AllByRecursion (λ (r : OrderedKey × List ℕ). test r.0 ≡ true))
    (λ yes. (yes, rows_pass test es)) (λ no. rows_pass test es)

-- what a scan answers lies in its range
pub scan_rows_within : (range : Interval) (max : ℕ) (m : PlainMap) →
    AllByRecursion (λ (r : OrderedKey × List ℕ). within range r.0 ≡ true) (scan_rows range max m)
scan_rows_within range max m = AllByRecursion-take (λ (r : OrderedKey × List ℕ). within range r.0 ≡ true) max
    (rows_where (within range) m) (rows_pass (within range) (entries m))

key_within : (range : Interval) (rs : Records) (q : OrderedKey) →
    AllByRecursion (λ (r : OrderedKey × List ℕ). within range r.0 ≡ true) rs → is_key_of rs q ≡ true →
    within range q ≡ true
key_within range [] q all h = absurd (false≢true h)
key_within range (r ∷ rs) q all h =
    ⊎_elim
    (λ here. subst (λ k. within range k ≡ true) (sym (key_eq-exact q r.0 here)) all.0)
    (λ later. key_within range rs q all.1 later)
    (or_cases (eq_by_cmp key_cmp q r.0) (is_key_of rs q) h)

-- no key outside the range is that of a record that a scan answers
pub scan_rows_beside : (range : Interval) (max : ℕ) (m : PlainMap) (q : OrderedKey) → within range q ≡ false →
    is_key_of (scan_rows range max m) q ≡ false
scan_rows_beside range max m q h = false_from_ne_true (is_key_of (scan_rows range max m) q)
    (λ e. both_ways (within range q) h (key_within range (scan_rows range max m) q (scan_rows_within range max m) e))

get-cond : (b : Bool) (m n : PlainMap) (q : OrderedKey) (x : Option (List ℕ)) → get m q ≡ x → get n q ≡ x →
    get (cond b m n) q ≡ x
get-cond true m n q x h k = h
get-cond false m n q x h k = k

-- an operation leaves each key as it is that it hasn't exclusively locked
pub after_frame : (op : Op) (m : PlainMap) (q : OrderedKey) → is_orderly op ≡ true → writes op q ≡ false →
    get (map_after op m) q ≡ get m q
after_frame (Insert k v) m q o h = get-cond (contains_key m k) m (insert m k v) q (get m q) refl
    (get_beside_inserted m k v q (not_in_point q k h))
after_frame (Replace k v) m q o h = get-cond (contains_key m k) (insert m k v) m q (get m q)
    (get_beside_inserted m k v q (not_in_point q k h)) refl
after_frame (Set k v) m q o h = get_beside_inserted m k v q (not_in_point q k h)
after_frame (Delete k) m q o h = get_beside_removed m k q (not_in_point q k h)
after_frame (DeleteRange range max) m q o h =
    let rows = scan_rows range max m in
    get-remove_all rows m q ∙ cond-false (is_key_of rows q) None (get m q) (scan_rows_beside range max m q h)
after_frame (Load records) m q o h =
    get-load_other (least_taken records m) records m q
    (false_from_ne_true (is_key_of records q) (λ e. both_ways (within (span records) q) h
    ((load_within records o).at q e)))
after_frame (Put records) m q o h = get-insert_all_other records m q
    (false_from_ne_true (is_key_of records q) (λ e. both_ways (within (span records) q) h
    ((load_within records o).at q e)))
after_frame op m q o h = refl

-- ---- how many runs an operation makes

has_new_alike : (records : Records) (m n : PlainMap) → Agree (is_key_of records) m n →
    has_new records m ≡ has_new records n
has_new_alike [] m n a = refl
has_new_alike (p ∷ ps) m n a =
    ap (λ o. not (is_some o) || has_new ps m) (a.at p.0 (or_left (eq_by_cmp key_cmp p.0 p.0) (is_key_of ps p.0)
    (key_eq-itself p.0)))
    ∙ ap (λ b. not (contains_key n p.0) || b) (has_new_alike ps m n (record {
      at = λ q h. a.at q (or_right (eq_by_cmp key_cmp q p.0) (is_key_of ps q) h);
    }))

-- it depends on the keys that the operation may read
pub runs_made_local : (op : Op) (reply : Reply) (m n : PlainMap) → is_orderly op ≡ true → Agree (reads op) m n →
    runs_made m op reply ≡ runs_made n op reply
runs_made_local (Put records) Done m n o a =
    ap (λ b. cond b 1 0) (has_new_alike records m n (agree_within (load_within records o) a))
runs_made_local op reply m n o a = refl
