-- What is known of merged ranges, after each change.
use Rattle.std.proofs.Common.{◌≡◌, ◌⊎◌, inl, inr, ℕ, zero, suc, ◌+◌, ◌<◌, ◌≤◌, Bool, true, false, cond, ◌||◌, List, []}
use Rattle.std.proofs.Common.{◌∷◌, ◌++◌, get_or, length, Option, Some, None, Result, Ok, Err, refl, sym, ap, ◌∙◌, subst}
use Rattle.std.proofs.Common.{⊎_elim, arith}
use Rattle.std.specs.Prelude.{is_some, IfSome, OnOk, OnErr}
use Rattle.std.proofs.lemmas.Bool.{and_parts, both_ways, cases_lt, false_from_ne_true, or_cases, or_left, or_right}
use Rattle.std.proofs.lemmas.Bool.{and_from}
use Rattle.std.specs.List.{AllByRecursion, remove}
use Rattle.std.specs.Ordering.{ord_max, ord_min, is_lt}
use Rattle.am_record.specs.OrderedKey.{OrderedKey, key_cmp}
use Rattle.am_record.specs.Interval.{Interval, key_le, within, encloses, meets}
use Rattle.am_record.specs.Plain.{Records}
use Rattle.am_record.specs.declared.entry.Entry.{Entry}
use Rattle.am_record.proofs.KeyOrder.{key_le_trans, key_le_total, encloses_key}
use Rattle.am_record.proofs.Lists.{AllByRecursion-map, AllByRecursion-append}
use Rattle.am_index.specs.Entries.{find, insert_entry, set_entry, remove_entry}
use Rattle.am_index.specs.Runs.{run_entries}
use Rattle.am_index_parts.specs.declared.merged_ranges.MergedRange.{MergedRange}
use Rattle.am_index_parts.specs.MergedRanges.{HasNoneBefore, IsMerged, AreMerged, SayNoMore}
use Rattle.am_index_parts.specs.Partitions.{settled, brought_home}
use Rattle.am_index_parts.proofs.Counts.{all_inserted, all_removed, all_set}

-- ---- ranges

-- a key from the one range on, and up to one of both ends, lies in one of the two, where the other begins below the end
-- of the first
from_first : (a b : Interval) (key : OrderedKey) → key_le b.lo a.hi ≡ true → key_le a.lo key ≡ true →
    (key_le key a.hi ≡ true) ⊎ (key_le key b.hi ≡ true) → (within a key ≡ true) ⊎ (within b key ≡ true)
from_first a b key meet above (inl below) = inl (and_from (key_le a.lo key) (key_le key a.hi) above below)
from_first a b key meet above (inr below) =
    ⊎_elim
    (λ within_a. inl (and_from (key_le a.lo key) (key_le key a.hi) above within_a))
    (λ behind_a. inr (and_from (key_le b.lo key) (key_le key b.hi) (key_le_trans b.lo a.hi key meet behind_a) below))
    (key_le_total key a.hi)

swapped : (P Q : Type 0) → P ⊎ Q → Q ⊎ P
swapped P Q (inl p) = inr p
swapped P Q (inr q) = inl q

-- a key between the least and the greatest end of ranges that meet lies in one of them
pub in_either : (a b : Interval) (key : OrderedKey) → meets a b ≡ true → key_le (ord_min key_cmp a.lo b.lo) key ≡ true →
    key_le key (ord_max key_cmp a.hi b.hi) ≡ true → (within a key || within b key) ≡ true
in_either a b key meet above below =
    ⊎_elim (or_left (within a key) (within b key)) (or_right (within a key) (within b key))
    (elim (is_lt (key_cmp b.lo a.lo)) as (λ t. key_le (cond t b.lo a.lo) key ≡ true → (within a key ≡ true) ⊎
    (within b key ≡ true)) [
      | true ↦ λ over. swapped (within b key ≡ true) (within a key ≡ true)
          (from_first b a key ends.0 over (swapped (key_le key a.hi ≡ true) (key_le key b.hi ≡ true) under))
      | false ↦ λ over. from_first a b key ends.1 over under
    ] above)
  where
    ends : (key_le a.lo b.hi ≡ true) × (key_le b.lo a.hi ≡ true)
    ends = and_parts (key_le a.lo b.hi) (key_le b.lo a.hi) meet

    under : (key_le key a.hi ≡ true) ⊎ (key_le key b.hi ≡ true)
    under = elim (is_lt (key_cmp b.hi a.hi)) as (λ t. key_le key (cond t a.hi b.hi) ≡ true → (key_le key a.hi ≡ true) ⊎
        (key_le key b.hi ≡ true)) [
          | true ↦ λ le. inl le
          | false ↦ λ le. inr le
        ] below

-- so it is with a range between those ends
pub union_of : (a b : Interval) (lo hi : OrderedKey) (o : Option Interval) → meets a b ≡ true →
    lo ≡ ord_min key_cmp a.lo b.lo → hi ≡ ord_max key_cmp a.hi b.hi → IfSome o (λ r. r ≡ record { lo = lo; hi = hi })
    → IfSome o (λ r. (key : OrderedKey) → within r key ≡ true → (within a key || within b key) ≡ true)
union_of a b lo hi None meet least greatest is = tt
union_of a b lo hi (Some r) meet least greatest is = λ key there.
    let ends = and_parts (key_le lo key) (key_le key hi) (ap (λ (s : Interval). within s key) (sym is) ∙ there) in
    in_either a b key meet (ap (λ l. key_le l key) (sym least) ∙ ends.0) (ap (key_le key) (sym greatest) ∙ ends.1)

-- ---- what is said of one range

pub before_first : (es : List Entry) (range : Interval) → HasNoneBefore es range 1
before_first [] range = tt
before_first (e ∷ es) range = (λ some less. absurd (omega (arith, some, less)), before_first es range)

pub earlier : (es : List Entry) (range : Interval) (run run' : ℕ) → run' ≤ run → HasNoneBefore es range run →
    HasNoneBefore es range run'
earlier es range run run' le = AllByRecursion-map (λ e. 0 < e.part → e.part < run → within range e.key ≡ false)
    (λ e. 0 < e.part → e.part < run' → within range e.key ≡ false)
    (λ e none some less. none some (omega (arith, le, less))) es

pub narrower : (es : List Entry) (outer inner : Interval) (run : ℕ) → encloses outer inner ≡ true →
    HasNoneBefore es outer run → HasNoneBefore es inner run
narrower es outer inner run holds =
    AllByRecursion-map (λ e. 0 < e.part → e.part < run → within outer e.key ≡ false) (λ e. 0 < e.part → e.part < run →
    within inner e.key ≡ false)
    (λ e none some less. false_from_ne_true (within inner e.key)
    (λ yes. both_ways (within outer e.key) (none some less) (encloses_key outer inner e.key holds yes))) es

-- of two that have every key of a third one
pub of_both : (es : List Entry) (a b range : Interval) (run : ℕ) →
    ((key : OrderedKey) → within range key ≡ true → (within a key || within b key) ≡ true) → HasNoneBefore es a run →
    HasNoneBefore es b run → HasNoneBefore es range run
of_both [] a b range run each none_a none_b = tt
of_both (e ∷ es) a b range run each none_a none_b = (
  λ some less. false_from_ne_true (within range e.key) (λ yes.
      ⊎_elim
      (λ in_a. both_ways (within a e.key) (none_a.0 some less) in_a)
      (λ in_b. both_ways (within b e.key) (none_b.0 some less) in_b)
      (or_cases (within a e.key) (within b e.key) (each e.key yes))),
  of_both es a b range run each none_a.1 none_b.1,
)

-- ---- lists of ranges

pub without : (P : MergedRange → Type 0) (ms : List MergedRange) (i : ℕ) → AllByRecursion P ms →
    AllByRecursion P (remove ms i)
without P [] zero all = tt
without P [] (suc i) all = tt
without P (m ∷ ms) zero all = all.1
without P (m ∷ ms) (suc i) all = (all.0, without P ms i all.1)

pub at : (P : MergedRange → Type 0) (ms : List MergedRange) (i : ℕ) (d : MergedRange) → i < length ms →
    AllByRecursion P ms → P (get_or ms i d)
at P [] i d lt all = absurd (omega (arith, lt))
at P (m ∷ ms) zero d lt all = all.0
at P (m ∷ ms) (suc i) d lt all = at P ms i d (omega (arith, lt)) all.1

-- what is said of a range is said of each that lies in it
pub said_within : (ms : List MergedRange) (i : ℕ) (d : MergedRange) (range : Interval) → i < length ms →
    encloses (get_or ms i d).range range ≡ true
    → (es : List Entry) (runs : ℕ) → AreMerged es runs ms → HasNoneBefore es range (get_or ms i d).first_run
said_within ms i d range lt holds es runs are = narrower es (get_or ms i d).range range (get_or ms i d).first_run holds
    (at (IsMerged es runs) ms i d lt are).none_before

-- ---- the changes of the entries

module _ (es : List Entry) (runs : ℕ) where
  -- where each range keeps what is said of it
  kept : (es' : List Entry) (runs' : ℕ) → runs ≤ runs' →
      ((range : Interval) (run : ℕ) → run ≤ runs + 1 → HasNoneBefore es range run → HasNoneBefore es' range run) →
      (ms : List MergedRange) → AreMerged es runs ms → AreMerged es' runs' ms
  kept es' runs' le keeps =
      AllByRecursion-map (IsMerged es runs) (IsMerged es' runs') (λ m is. let made = is.made in
      record { made = omega (arith, made, le); none_before = keeps m.range m.first_run is.made is.none_before })

  pub merged_added : (x : Entry) → x.part ≡ 0 → (ms : List MergedRange) → AreMerged es runs ms →
      AreMerged (insert_entry es x) runs ms
  merged_added x final =
      kept (insert_entry es x) runs (omega arith) (λ range run low. all_inserted (λ e. 0 < e.part → e.part < run →
      within range e.key ≡ false) es x (λ some less. absurd (omega (arith, final, some))))

  pub merged_set : (part : ℕ) (key : OrderedKey) (value : List ℕ) (is_ghost : Bool) (ms : List MergedRange) →
      AreMerged es runs ms → AreMerged (set_entry es part key value is_ghost) runs ms
  merged_set part key value is_ghost =
      kept (set_entry es part key value is_ghost) runs (omega arith)
      (λ range run low. all_set (λ p k. 0 < p → p < run → within range k ≡ false) part key value is_ghost es)

  pub merged_removed : (part : ℕ) (key : OrderedKey) (ms : List MergedRange) → AreMerged es runs ms →
      AreMerged (remove_entry es part key) runs ms
  merged_removed part key = kept (remove_entry es part key) runs (omega arith)
      (λ range run low. all_removed (λ e. 0 < e.part → e.part < run → within range e.key ≡ false) part key es)

  -- the entries of the next run are in none of those runs
  not_yet : (range : Interval) (run : ℕ) → run ≤ runs + 1 → (rs : Records) → HasNoneBefore (run_entries (runs + 1) rs)
      range run
  not_yet range run low [] = tt
  not_yet range run low (r ∷ rs) = (λ some less. absurd (omega (arith, low, less)), not_yet range run low rs)

  pub merged_appended : (rs : Records) (ms : List MergedRange) → AreMerged es runs ms →
      AreMerged (es ++ run_entries (runs + 1) rs) (runs + 1) ms
  merged_appended rs =
      kept (es ++ run_entries (runs + 1) rs) (runs + 1) (omega arith)
      (λ range run low none. AllByRecursion-append (λ e. 0 < e.part → e.part < run → within range e.key ≡ false) es
      (run_entries (runs + 1) rs) none (not_yet range run low rs))

added_to_final : {T E : Type 0} (es es' : List Entry) (runs : ℕ) (x : Entry) (ms : List MergedRange) (r : Result T E) →
    OnOk r (es' ≡ insert_entry es x) → OnErr r (es' ≡ es) → x.part ≡ 0 → AreMerged es runs ms → AreMerged es' runs ms
added_to_final es es' runs x ms (Ok v) ok err final are = subst (λ (l : List Entry). AreMerged l runs ms) (sym ok)
    (merged_added es runs x final ms are)
added_to_final es es' runs x ms (Err v) ok err final are = subst (λ (l : List Entry). AreMerged l runs ms) (sym err) are

-- where an entry is added to a run, all is let go
pub merged_where_added : {T E : Type 0} (es es' : List Entry) (runs : ℕ) (x : Entry) (ms ms' : List MergedRange)
    (r : Result T E) → (x.part ≡ 0 → ms' ≡ ms) → (0 < x.part → ms' ≡ []) → OnOk r (es' ≡ insert_entry es x) →
    OnErr r (es' ≡ es)
    → AreMerged es runs ms → AreMerged es' runs ms'
merged_where_added es es' runs x ms ms' r same none ok err are =
    ⊎_elim
    (λ in_run. subst (AreMerged es' runs) (sym (none in_run)) tt)
    (λ low. let final : x.part ≡ 0 = omega (arith, low) in subst (AreMerged es' runs) (sym (same final))
    (added_to_final es es' runs x ms r ok err final are))
    (cases_lt 0 x.part)

pub merged_home : (es : List Entry) (runs : ℕ) (e : Entry) (ms : List MergedRange) → AreMerged es runs ms →
    AreMerged (brought_home e es) runs ms
merged_home es runs e ms are =
    merged_removed (settled e es) runs e.part e.key ms
    (elim (is_some (find es 0 e.key)) as (λ t. AreMerged
    (cond t (set_entry es 0 e.key e.value false) (insert_entry es (record e { part = 0; is_ghost = false }))) runs
    ms) [
      | true ↦ merged_set es runs 0 e.key e.value false ms are
      | false ↦ merged_added es runs (record e { part = 0; is_ghost = false }) refl ms are
    ])

-- what is said of two ranges from one first run on is said of one that has no other keys
pub as_one : (a b : MergedRange) (range : Interval) → a.first_run ≡ b.first_run →
    ((key : OrderedKey) → within range key ≡ true → (within a.range key || within b.range key) ≡ true)
    → SayNoMore (a ∷ b ∷ []) (record { range = range; first_run = a.first_run } ∷ [])
as_one a b range same each = λ es runs are.
    let is_b : HasNoneBefore es b.range a.first_run = earlier es b.range b.first_run a.first_run (omega (arith, same))
    are.1.0.none_before in (
      record {
        made = are.0.made;
        none_before = of_both es a.range b.range range a.first_run each are.0.none_before is_b;
      },
      tt,
    )

-- a list from which one was taken and put at its beginning as it was
pub joined : (old : List MergedRange) (m m' : MergedRange) (ms : List MergedRange) (i : ℕ) (d : MergedRange) →
    i < length ms → SayNoMore old (m ∷ ms) → SayNoMore (m ∷ get_or ms i d ∷ []) (m' ∷ []) →
    SayNoMore old (m' ∷ remove ms i)
joined old m m' ms i d lt before both = λ es runs are.
    let all = before es runs are in
    ((both es runs (all.0, (at (IsMerged es runs) ms i d lt all.1, tt))).0, without (IsMerged es runs) ms i all.1)
