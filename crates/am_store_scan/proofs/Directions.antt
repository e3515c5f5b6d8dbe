-- Keys and rows in either direction.
use Rattle.std.proofs.Common.{◌≡◌, ℕ, List, [], ◌∷◌, ◌++◌, Bool, true, false, ◌&&◌, reverse, cond, Some, None, refl}
use Rattle.std.proofs.Common.{sym, ap, ◌∙◌, if◌then◌else◌}
use Rattle.std.proofs.Math.Bool.{and_comm}
use Rattle.std.proofs.lemmas.Bool.{and_parts, and_from}
use Rattle.std.proofs.lemmas.List.{reverse-append}
use Rattle.std.specs.declared.cmp.Ordering.{Ordering}
use Rattle.std.specs.declared.cmp.Ordering.TheVariants.{Less, Equal, Greater}
use Rattle.std.specs.Ordering.{is_eq, is_lt, ordering_reverse, eq_by_cmp}
use Rattle.std.specs.FinMap.Entries.{is_sorted, below_all, find as looked_up, find-append}
use Rattle.am_record.specs.OrderedKey.{OrderedKey, key_cmp, key_cmp-total, key_cmp-exact, key_cmp-itself}
use Rattle.am_record.specs.Interval.{Interval, key_le, within}
use Rattle.am_record.specs.Plain.{Records}
use Rattle.am_record.specs.declared.entry.Entry.{Entry}
use Rattle.am_record.proofs.Orderings.{is_less}
use Rattle.am_record.proofs.KeyOrder.{key_le_trans}
use Rattle.am_index.specs.Entries.{find}
use Rattle.am_index.specs.Content.{rows_in, live_value, RowsRead}
use Rattle.am_store_scan.specs.Directions.{cmp_in, cmp_in-total, le_in, as_read, rest_of}

abbrev pub Row : Type 0
Row = OrderedKey × List ℕ

-- ---- keys

pub exact : (back : Bool) (a b : OrderedKey) → cmp_in back a b ≡ Equal → a ≡ b
exact false a b h = key_cmp-exact a b h
exact true a b h = sym (key_cmp-exact b a h)

pub itself : (back : Bool) (k : OrderedKey) → cmp_in back k k ≡ Equal
itself false k = key_cmp-itself k
itself true k = key_cmp-itself k

pub le_in_trans : (back : Bool) (a b c : OrderedKey) → le_in back a b ≡ true → le_in back b c ≡ true →
    le_in back a c ≡ true
le_in_trans false a b c h k = key_le_trans a b c h k
le_in_trans true a b c h k = key_le_trans c b a k h

-- ---- ranges

-- where a range begins and ends as it is read
abbrev pub first_key : Bool → Interval → OrderedKey
first_key false range = range.lo
first_key true range = range.hi

abbrev pub last_key : Bool → Interval → OrderedKey
last_key false range = range.hi
last_key true range = range.lo

pub in_range : (back : Bool) (range : Interval) (k : OrderedKey) →
    within range k ≡ (le_in back (first_key back range) k && le_in back k (last_key back range))
in_range false range k = refl
in_range true range k = and_comm (key_le range.lo k) (key_le k range.hi)

pub in_rest : (back : Bool) (range : Interval) (k q : OrderedKey) →
    within (rest_of back range k) q ≡ (le_in back k q && le_in back q (last_key back range))
in_rest false range k q = refl
in_rest true range k q = and_comm (key_le range.lo q) (key_le q k)

pub rest_twice : (back : Bool) (range : Interval) (k q : OrderedKey) →
    rest_of back (rest_of back range k) q ≡ rest_of back range q
rest_twice false range k q = refl
rest_twice true range k q = refl

pub last_of_rest : (back : Bool) (range : Interval) (k : OrderedKey) →
    last_key back (rest_of back range k) ≡ last_key back range
last_of_rest false range k = refl
last_of_rest true range k = refl

pub from_ends : (back : Bool) (range : Interval) (k : OrderedKey) → le_in back (first_key back range) k ≡ true →
    le_in back k (last_key back range) ≡ true → within range k ≡ true
from_ends back range k from to = in_range back range k ∙
    and_from (le_in back (first_key back range) k) (le_in back k (last_key back range)) from to

pub to_ends : (back : Bool) (range : Interval) (k : OrderedKey) → within range k ≡ true →
    (le_in back (first_key back range) k ≡ true) × (le_in back k (last_key back range) ≡ true)
to_ends back range k inside = and_parts (le_in back (first_key back range) k) (le_in back k (last_key back range))
    (sym (in_range back range k) ∙ inside)

pub from_rest : (back : Bool) (range : Interval) (k q : OrderedKey) → le_in back k q ≡ true →
    le_in back q (last_key back range) ≡ true → within (rest_of back range k) q ≡ true
from_rest back range k q from to = in_rest back range k q ∙
    and_from (le_in back k q) (le_in back q (last_key back range)) from to

pub to_rest : (back : Bool) (range : Interval) (k q : OrderedKey) → within (rest_of back range k) q ≡ true →
    (le_in back k q ≡ true) × (le_in back q (last_key back range) ≡ true)
to_rest back range k q inside = and_parts (le_in back k q) (le_in back q (last_key back range))
    (sym (in_rest back range k q) ∙ inside)

-- ---- rows that are turned round

pub turned_cons : (row : Row) (rows : Records) → reverse (row ∷ rows) ≡ reverse rows ++ row ∷ []
turned_cons row rows = reverse-append (row ∷ []) rows

module _ (R : OrderedKey → OrderedKey → Ordering) where
  below_end : (x : OrderedKey) (rows : Records) (row : Row) → below_all R x rows ≡ true → is_lt (R x row.0) ≡ true →
      below_all R x (rows ++ row ∷ []) ≡ true
  below_end x [] row all less = and_from (is_lt (R x row.0)) true less refl
  below_end x (r ∷ rows) row all less =
      let parts = and_parts (is_lt (R x r.0)) (below_all R x rows) all in
      and_from (is_lt (R x r.0)) (below_all R x (rows ++ row ∷ [])) parts.0 (below_end x rows row parts.1 less)

  below_turned : (x : OrderedKey) (rows : Records) → below_all R x rows ≡ true → below_all R x (reverse rows) ≡ true
  below_turned x [] all = refl
  below_turned x (row ∷ rows) all =
      let parts = and_parts (is_lt (R x row.0)) (below_all R x rows) all in
      ap (below_all R x) (turned_cons row rows) ∙
      below_end x (reverse rows) row (below_turned x rows parts.1) parts.0

rise_to : (rows : Records) (row : Row) → is_sorted (cmp_in true) rows ≡ true → below_all key_cmp row.0 rows ≡ true →
    is_sorted (cmp_in true) (rows ++ row ∷ []) ≡ true
rise_to [] row rise above = refl
rise_to (r ∷ rows) row rise above =
    let parts = and_parts (below_all (cmp_in true) r.0 rows) (is_sorted (cmp_in true) rows) rise in
    let behind = and_parts (is_lt (key_cmp row.0 r.0)) (below_all key_cmp row.0 rows) above in
    and_from (below_all (cmp_in true) r.0 (rows ++ row ∷ [])) (is_sorted (cmp_in true) (rows ++ row ∷ []))
    (below_end (cmp_in true) r.0 rows row parts.0 behind.0) (rise_to rows row parts.1 behind.1)

rise_turned : (rows : Records) → is_sorted key_cmp rows ≡ true → is_sorted (cmp_in true) (reverse rows) ≡ true
rise_turned [] rise = refl
rise_turned (row ∷ rows) rise =
    let parts = and_parts (below_all key_cmp row.0 rows) (is_sorted key_cmp rows) rise in
    ap (is_sorted (cmp_in true)) (turned_cons row rows) ∙
    rise_to (reverse rows) row (rise_turned rows parts.1) (below_turned key_cmp row.0 rows parts.0)

none_above : (k : OrderedKey) (rows : Records) → below_all key_cmp k rows ≡ true → looked_up key_cmp k rows ≡ None
none_above k [] above = refl
none_above k (row ∷ rows) above =
    let parts = and_parts (is_lt (key_cmp k row.0)) (below_all key_cmp k rows) above in
    ap (λ o. cond (is_eq o) (Some row.1) (looked_up key_cmp k rows)) (is_less (key_cmp k row.0) parts.0) ∙
    none_above k rows parts.1

tied_turned : (a b : OrderedKey) → eq_by_cmp (cmp_in true) a b ≡ eq_by_cmp key_cmp a b
tied_turned a b = ap is_eq (key_cmp-total.antisymm b a) ∙ either (key_cmp a b)
  where
    either : (o : Ordering) → is_eq (ordering_reverse o) ≡ is_eq o
    either Less = refl
    either Equal = refl
    either Greater = refl

found_turned : (q : OrderedKey) (rows : Records) → is_sorted key_cmp rows ≡ true →
    looked_up (cmp_in true) q (reverse rows) ≡ looked_up key_cmp q rows
found_turned q [] rise = refl
found_turned q (row ∷ rows) rise =
    let parts = and_parts (below_all key_cmp row.0 rows) (is_sorted key_cmp rows) rise in
    let none = found_turned row.0 rows parts.1 ∙ none_above row.0 rows parts.0 in
    ap (looked_up (cmp_in true) q) (turned_cons row rows)
    ∙ find-append (cmp_in true) (cmp_in-total true) (reverse rows) row.0 row.1 q none
    ∙ ap (λ b. cond b (Some row.1) (looked_up (cmp_in true) q (reverse rows))) (tied_turned q row.0)
    ∙ ap (cond (eq_by_cmp key_cmp q row.0) (Some row.1)) (found_turned q rows parts.1)

-- ---- rows as they are read

pub none_read : (back : Bool) → as_read back [] ≡ []
none_read false = refl
none_read true = refl

pub below_read : (back : Bool) (x : OrderedKey) (rows : Records) → below_all (cmp_in back) x rows ≡ true →
    below_all (cmp_in back) x (as_read back rows) ≡ true
below_read false x rows all = all
below_read true x rows all = below_turned (cmp_in true) x rows all

pub rise_read : (back : Bool) (rows : Records) → is_sorted key_cmp rows ≡ true →
    is_sorted (cmp_in back) (as_read back rows) ≡ true
rise_read false rows rise = rise
rise_read true rows rise = rise_turned rows rise

pub found_read : (back : Bool) (q : OrderedKey) (rows : Records) → is_sorted key_cmp rows ≡ true →
    looked_up (cmp_in back) q (as_read back rows) ≡ looked_up key_cmp q rows
found_read false q rows rise = refl
found_read true q rows rise = found_turned q rows rise

-- the rows of the partition in the range rise as they are read, and are what is live there
pub record RowsReadIn (back : Bool) (es : List Entry) (part : ℕ) (range : Interval) : Type 0 where
  pub rise : is_sorted (cmp_in back) (as_read back (rows_in es part range)) ≡ true
  pub live : (key : OrderedKey) → looked_up (cmp_in back) key (as_read back (rows_in es part range)) ≡
      (if within range key then live_value (find es part key) else None)

pub rows_read_in : (back : Bool) {es : List Entry} {part : ℕ} {range : Interval} → RowsRead es part range →
    RowsReadIn back es part range
rows_read_in back {es} {part} {range} read = record {
  rise = rise_read back (rows_in es part range) read.rise;
  live = λ key. found_read back key (rows_in es part range) read.rise ∙ read.live key;
}
