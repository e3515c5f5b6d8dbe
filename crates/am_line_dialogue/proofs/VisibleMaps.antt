-- Maps that have visible keys and values alone: what operations answer on them, and what they leave.
use Rattle.std.proofs.Common.{◌≡◌, ℕ, zero, suc, List, [], ◌∷◌, ◌++◌, Bool, true, false, cond, not, take, filter}
use Rattle.std.proofs.Common.{reverse}
use Rattle.std.proofs.Common.{Option, Some, None, refl, sym, ap, ◌∙◌, subst}
use Rattle.std.specs.List.{AllByRecursion}
use Rattle.std.proofs.lemmas.List.{reverse-append}
use Rattle.std.specs.Ordering.{eq_by_cmp}
use Rattle.std.specs.declared.cmp.Ordering.{Ordering}
use Rattle.std.specs.declared.cmp.Ordering.TheVariants.{Less, Equal, Greater}
use Rattle.std.specs.FinMap.{get, empty, contains_key, insert, remove, entries, retain_keys, same_map, get-entries}
use Rattle.std.specs.FinMap.{get-remove, get-retain_keys, entries-insert}
use Rattle.std.specs.FinMap.Entries.{find, put, by_order}
use Rattle.am_record.specs.OrderedKey.{OrderedKey, key_cmp, key_cmp-total, key_cmp-exact}
use Rattle.am_record.specs.Records.{Records}
use Rattle.am_record.specs.Plain.{PlainMap, Draft, rows_where, is_key_of, first_key, least_taken, found, exists_or_done}
use Rattle.am_record.specs.Plain.{insert_all, remove_all, scan_rows, load_where, answer, draft_after, went_back}
use Rattle.am_record.specs.Plain.{draft_back, left_on}
use Rattle.am_record.specs.Interval.{within}
use Rattle.am_record.specs.declared.step.Op.{Op}
use Rattle.am_record.specs.declared.step.Op.TheVariants as op
use Rattle.am_record.specs.declared.step.Reply.{Reply}
use Rattle.am_record.specs.declared.step.Reply.TheVariants as reply
use Rattle.am_law_serial.proofs.Maps.{entries-empty, entries-retain_keys}
use Rattle.am_line_wire.specs.Replies.{IsVisibleRow, TellsVisible}
use Rattle.am_line_wire.specs.Visible.{WritesVisible}

-- ---- lists

module _ {X : Type 0} (P : X → Type 0) where
  either_all : (b : Bool) (xs ys : List X) → AllByRecursion P xs → AllByRecursion P ys → AllByRecursion P (cond b xs ys)
  either_all true xs ys h k = h
  either_all false xs ys h k = k

  pub all_filter : (test : X → Bool) (xs : List X) → AllByRecursion P xs → AllByRecursion P (filter test xs)
  all_filter test [] h = tt
  all_filter test (x ∷ xs) h = either_all (test x) (x ∷ filter test xs) (filter test xs) (h.0, all_filter test xs h.1)
      (all_filter test xs h.1)

  all_take : (n : ℕ) (xs : List X) → AllByRecursion P xs → AllByRecursion P (take n xs)
  all_take zero xs h = tt
  all_take (suc n) [] h = tt
  all_take (suc n) (x ∷ xs) h = (h.0, all_take n xs h.1)

  pub all_append : (xs ys : List X) → AllByRecursion P xs → AllByRecursion P ys → AllByRecursion P (xs ++ ys)
  all_append [] ys h k = k
  all_append (x ∷ xs) ys h k = (h.0, all_append xs ys h.1 k)

module _ {X : Type 0} (P : X → Type 0) where
  all_reverse : (xs : List X) → AllByRecursion P xs → AllByRecursion P (reverse xs)
  all_reverse [] h = h
  all_reverse (x ∷ xs) h = subst (AllByRecursion P) (sym (reverse-append (x ∷ []) xs))
      (all_append P (reverse xs) (x ∷ []) (all_reverse xs h.1) (h.0, tt))

-- ---- maps

abbrev pub IsVisibleMap : PlainMap → Type 0
IsVisibleMap m = AllByRecursion IsVisibleRow (entries m)

pub empty_visible : IsVisibleMap empty
empty_visible = subst (AllByRecursion IsVisibleRow) (sym entries-empty) tt

put_in : (r : Ordering) (k : OrderedKey) (v : List ℕ) (e : OrderedKey × List ℕ) (es more : Records) →
    IsVisibleRow (k, v) → IsVisibleRow e → AllByRecursion IsVisibleRow es → AllByRecursion IsVisibleRow more →
    AllByRecursion IsVisibleRow (by_order r ((k, v) ∷ e ∷ es) ((e.0, v) ∷ es) (e ∷ more))
put_in Less k v e es more row first rest later = (row, (first, rest))
put_in Equal k v e es more row first rest later = ((first.0, row.1), rest)
put_in Greater k v e es more row first rest later = (first, later)

put_visible : (k : OrderedKey) (v : List ℕ) (es : Records) → IsVisibleRow (k, v) → AllByRecursion IsVisibleRow es →
    AllByRecursion IsVisibleRow (put key_cmp k v es)
put_visible k v [] row h = (row, tt)
put_visible k v (e ∷ es) row h = put_in (key_cmp k e.0) k v e es (put key_cmp k v es) row h.0 h.1
    (put_visible k v es row h.1)

insert_visible : (m : PlainMap) (k : OrderedKey) (v : List ℕ) → IsVisibleRow (k, v) → IsVisibleMap m →
    IsVisibleMap (insert m k v)
insert_visible m k v row h = subst (AllByRecursion IsVisibleRow) (sym (entries-insert key_cmp-total m k v))
    (put_visible k v (entries m) row h)

turned : (b : Bool) (x y : Option (List ℕ)) → cond b x y ≡ cond (not b) y x
turned true x y = refl
turned false x y = refl

abbrev others : OrderedKey → OrderedKey → Bool
others k q = not (eq_by_cmp key_cmp q k)

removed : (m : PlainMap) (k : OrderedKey) → remove m k ≡ retain_keys m (others k)
removed m k = same_map key_cmp-total key_cmp-exact (remove m k) (retain_keys m (others k)) (λ q.
    get-remove key_cmp-total m k q
    ∙ turned (eq_by_cmp key_cmp q k) None (get m q)
    ∙ sym (get-retain_keys m (others k) q (λ x e. ap (others k) (sym (key_cmp-exact q x e)))))

rows_visible : (test : OrderedKey → Bool) (m : PlainMap) → IsVisibleMap m →
    AllByRecursion IsVisibleRow (rows_where test m)
rows_visible test m h = all_filter IsVisibleRow (λ (e : OrderedKey × List ℕ). test e.0) (entries m) h

remove_visible : (m : PlainMap) (k : OrderedKey) → IsVisibleMap m → IsVisibleMap (remove m k)
remove_visible m k h = subst (AllByRecursion IsVisibleRow)
    (sym (ap entries (removed m k) ∙ entries-retain_keys (others k) m)) (rows_visible (others k) m h)

all_inserted : (rows : Records) (m : PlainMap) → AllByRecursion IsVisibleRow rows → IsVisibleMap m →
    IsVisibleMap (insert_all rows m)
all_inserted [] m w h = h
all_inserted (row ∷ rows) m w h = all_inserted rows (insert m row.0 row.1) w.1 (insert_visible m row.0 row.1 w.0 h)

all_removed : (rows : Records) (m : PlainMap) → IsVisibleMap m → IsVisibleMap (remove_all rows m)
all_removed [] m h = h
all_removed (row ∷ rows) m h = all_removed rows (remove m row.0) (remove_visible m row.0 h)

-- ---- answers

found_here : (b : Bool) (v : List ℕ) (o : Option (List ℕ)) → TellsVisible (reply.Found v) → TellsVisible (found o) →
    TellsVisible (found (cond b (Some v) o))
found_here true v o h k = h
found_here false v o h k = k

found_in : (q : OrderedKey) (es : Records) → AllByRecursion IsVisibleRow es → TellsVisible (found (find key_cmp q es))
found_in q [] h = tt
found_in q (e ∷ es) h = found_here (eq_by_cmp key_cmp q e.0) e.1 (find key_cmp q es) h.0.1 (found_in q es h.1)

found_visible : (m : PlainMap) (q : OrderedKey) → IsVisibleMap m → TellsVisible (found (get m q))
found_visible m q h = subst (λ (o : Option (List ℕ)). TellsVisible (found o)) (sym (get-entries m q))
    (found_in q (entries m) h)

either_tells : (b : Bool) (r s : Reply) → TellsVisible r → TellsVisible s → TellsVisible (cond b r s)
either_tells true r s h k = h
either_tells false r s h k = k

first_tells : (rows : Records) → AllByRecursion IsVisibleRow rows → TellsVisible (exists_or_done (first_key rows))
first_tells [] h = tt
first_tells (row ∷ rows) h = h.0.0

back_tells : (saved : List PlainMap) → TellsVisible (went_back saved)
back_tells [] = tt
back_tells (m ∷ ms) = tt

-- the map, and all that it saved
abbrev pub IsVisibleDraft : Draft → Type 0
IsVisibleDraft d = IsVisibleMap d.map × AllByRecursion IsVisibleMap d.saved

pub answer_visible : (o : Op) (d : Draft) → WritesVisible o → IsVisibleDraft d → TellsVisible (answer o d)
answer_visible (op.Get k) d w h = found_visible d.map k h.0
answer_visible (op.Scan range max) d w h = all_take IsVisibleRow max (rows_where (within range) d.map)
    (rows_visible (within range) d.map h.0)
answer_visible (op.ScanBack range max) d w h =
    let rows = rows_where (within range) d.map in
    all_take IsVisibleRow max (reverse rows) (all_reverse IsVisibleRow rows (rows_visible (within range) d.map h.0))
answer_visible (op.Insert k v) d w h = either_tells (contains_key d.map k) (reply.Exists k) reply.Done w.0 tt
answer_visible (op.Replace k v) d w h = either_tells (contains_key d.map k) reply.Done reply.Missing tt tt
answer_visible (op.Set k v) d w h = tt
answer_visible (op.DeleteRange range max) d w h = tt
answer_visible (op.Delete k) d w h = either_tells (contains_key d.map k) reply.Done reply.Missing tt tt
answer_visible (op.Load rows) d w h = first_tells (rows_where (is_key_of rows) d.map)
    (rows_visible (is_key_of rows) d.map h.0)
answer_visible (op.Put rows) d w h = tt
answer_visible (op.Lock lock) d w h = tt
answer_visible op.Mark d w h = tt
answer_visible op.Back d w h = back_tells d.saved

-- ---- what is left

either_map : (b : Bool) (m n : PlainMap) → IsVisibleMap m → IsVisibleMap n → IsVisibleMap (cond b m n)
either_map true m n h k = h
either_map false m n h k = k

loaded : (o : Option OrderedKey) (rows : Records) (m : PlainMap) → AllByRecursion IsVisibleRow rows → IsVisibleMap m →
    IsVisibleMap (load_where o rows m)
loaded None rows m w h = all_inserted rows m w h
loaded (Some k) rows m w h = h

gone_back : (saved : List PlainMap) (d : Draft) → AllByRecursion IsVisibleMap saved → IsVisibleDraft d →
    IsVisibleDraft (draft_back saved d)
gone_back [] d s h = h
gone_back (m ∷ ms) d s h = (s.0, s.1)

after_visible : (o : Op) (d : Draft) → WritesVisible o → IsVisibleDraft d → IsVisibleDraft (draft_after o d)
after_visible (op.Get k) d w h = h
after_visible (op.Scan range max) d w h = h
after_visible (op.ScanBack range max) d w h = h
after_visible (op.Insert k v) d w h = (
  either_map (contains_key d.map k) d.map (insert d.map k v) h.0
      (insert_visible d.map k v w h.0),
  h.1,
)
after_visible (op.Replace k v) d w h = (
  either_map (contains_key d.map k) (insert d.map k v) d.map
      (insert_visible d.map k v w h.0) h.0,
  h.1,
)
after_visible (op.Set k v) d w h = (insert_visible d.map k v w h.0, h.1)
after_visible (op.DeleteRange range max) d w h = (all_removed (scan_rows range max d.map) d.map h.0, h.1)
after_visible (op.Delete k) d w h = (remove_visible d.map k h.0, h.1)
after_visible (op.Load rows) d w h = (loaded (least_taken rows d.map) rows d.map w h.0, h.1)
after_visible (op.Put rows) d w h = (all_inserted rows d.map w h.0, h.1)
after_visible (op.Lock lock) d w h = h
after_visible op.Mark d w h = (h.0, (h.0, h.1))
after_visible op.Back d w h = gone_back d.saved d h.1 h

pub left_visible : (ops : List Op) (d : Draft) → AllByRecursion WritesVisible ops → IsVisibleDraft d →
    IsVisibleDraft (left_on ops d)
left_visible [] d w h = h
left_visible (o ∷ ops) d w h = left_visible ops (draft_after o d) w.1 (after_visible o d w.0 h)
