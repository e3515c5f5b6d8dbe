-- What the head of a partition stands at and what it passes.
use Rattle.std.specs.Prelude.{◌≡◌, ◌+◌, ◌++◌, ℕ, List, [], ◌∷◌, Bool, IsTrue, true, drop, slice_index_or, refl}
use Rattle.std.specs.Coded.{Coded, code_by, coded×, coded_ℕ, coded_bool, coded_list}
use Rattle.std.specs.declared.cmp.Ordering.{Ordering}
use Rattle.std.specs.declared.cmp.Ordering.TheVariants.{Less}
use Rattle.std.specs.Cmp.{IsTotalOrder, on_total, back_total}
use Rattle.am_record.specs.OrderedKey.{OrderedKey, key_code, key_least}
use Rattle.am_record.specs.Interval.{Interval, within}
use Rattle.am_record.specs.Plain.{Records}
use Rattle.am_record.specs.Records.{records_code}
use Rattle.am_record.specs.declared.entry.Entry.{Entry}
use Rattle.am_index.specs.Content.{rows_in, IsLiveAt}
use Rattle.am_store_scan.specs.Directions.{cmp_in, cmp_in-total, as_read, rest_of}

-- where a head stands: in a partition, at the record, with the others read after it, and whether those are all
pub record Stand : Type 0 where
  pub part : ℕ
  pub key : OrderedKey
  pub value : List ℕ
  pub read : Records
  pub is_all : Bool

abbrev pub stand_code : Coded Stand
stand_code = code_by ((ℕ × OrderedKey) × (List ℕ × (Records × Bool))) (coded× (coded× coded_ℕ key_code)
    (coded× (coded_list coded_ℕ) (coded× records_code coded_bool)))
    (λ h. ((h.part, h.key), (h.value, (h.read, h.is_all))))
    (λ p. record { part = p.0.0; key = p.0.1; value = p.1.0; read = p.1.1.0; is_all = p.1.1.1 }) (λ _. refl)

-- the row of that index of what was read, or one that no partition need have
abbrev pub row_of : Records → ℕ → OrderedKey × List ℕ
row_of rows passed = slice_index_or rows passed (key_least, [])

-- it stands at the row of that index
abbrev pub stand_at : ℕ → Records → ℕ → Bool → Stand
stand_at part rows passed is_all = record {
  part = part;
  key = (row_of rows passed).0;
  value = (row_of rows passed).1;
  read = drop (passed + 1) rows;
  is_all = is_all;
}

-- by key, the one that is read first the greatest
abbrev pub head_cmp : Bool → Stand → Stand → Ordering
head_cmp back g h = cmp_in back h.key g.key

pub head_cmp-total : (back : Bool) → IsTotalOrder (head_cmp back)
head_cmp-total back = back_total (on_total (λ (h : Stand). h.key) (cmp_in-total back))

-- the rows of its partition from its key to the range's end begin with it and what was read after it, and are no more
-- where that is all
pub record HasReadOn (back : Bool) (es : List Entry) (range : Interval) (h : Stand) : Type 0 where
  pub further : Records
  pub follows : as_read back (rows_in es h.part (rest_of back range h.key)) ≡ (h.key, h.value) ∷ (h.read ++ further)
  pub ended : IsTrue h.is_all → further ≡ []

-- and something was read after it, unless that is all
pub record HasReadSome (back : Bool) (es : List Entry) (range : Interval) (h : Stand) : Type 0 where
  pub reads : HasReadOn back es range h
  pub at_end : h.read ≡ [] → IsTrue h.is_all

-- the head stands at a live entry in the range
pub record IsHead (back : Bool) (es : List Entry) (range : Interval) (h : Stand) : Type 0 where
  pub live : IsLiveAt es h.part h.key h.value
  pub inside : within range h.key ≡ true
  pub reads : HasReadOn back es range h

-- it stands at the one of the partition that is read first
pub record IsFirstHead (back : Bool) (es : List Entry) (range : Interval) (part : ℕ) (h : Stand) : Type 0 where
  pub head : IsHead back es range h
  pub in_part : h.part ≡ part
  pub none_before : (key : OrderedKey) (value : List ℕ) → within range key ≡ true → cmp_in back key h.key ≡ Less →
      ¬ IsLiveAt es part key value

-- the new head stands at the one that is read next after the old
pub record IsNextHead (back : Bool) (es : List Entry) (range : Interval) (old new : Stand) : Type 0 where
  pub head : IsHead back es range new
  pub in_part : new.part ≡ old.part
  pub behind : cmp_in back old.key new.key ≡ Less
  pub none_between : (key : OrderedKey) (value : List ℕ) → cmp_in back old.key key ≡ Less →
      cmp_in back key new.key ≡ Less → ¬ IsLiveAt es old.part key value

-- there is none after it
pub record HasNoNext (back : Bool) (es : List Entry) (range : Interval) (h : Stand) : Type 0 where
  pub none : (key : OrderedKey) (value : List ℕ) → cmp_in back h.key key ≡ Less → within range key ≡ true →
      ¬ IsLiveAt es h.part key value

-- no key of the range is live in the partition
pub record HasNoneLive (es : List Entry) (range : Interval) (part : ℕ) : Type 0 where
  pub none : (key : OrderedKey) (value : List ℕ) → within range key ≡ true → ¬ IsLiveAt es part key value
