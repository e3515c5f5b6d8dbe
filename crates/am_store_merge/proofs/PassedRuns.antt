-- Partitions without entries, and runs that a look has passed.
use Rattle.std.proofs.Common.{◌≢◌, ◌+◌, ◌^◌, ◌∙◌, sym, subst}
use Rattle.std.proofs.Common.{◌≡◌, ℕ, ◌<◌, ◌≤◌, List, [], ◌∷◌, Bool, true, false, Option, Some, None, refl, ap}
use Rattle.std.proofs.Common.{arith, ⊎_elim}
use Rattle.std.specs.Prelude.{nat_le, ◌==◌, if◌then◌else◌}
use Rattle.std.proofs.lemmas.Bool.{both_ways, and_parts, and_from, false_from_ne_true, leb-true, le-leb, cases_lt}
use Rattle.std.proofs.lemmas.Bool.{cases_Bool, eqb-true, eq-eqb}
use Rattle.std.specs.declared.cmp.Ordering.TheVariants.{Less}
use Rattle.std.specs.Ordering.{is_eq, is_le}
use Rattle.std.specs.Option.{option_map}
use Rattle.std.specs.List.{AllByRecursion}
use Rattle.am_record.specs.OrderedKey.{OrderedKey}
use Rattle.am_record.specs.Interval.{Interval, within}
use Rattle.am_record.specs.EntryOrder.{place_of, place_cmp}
use Rattle.am_record.specs.declared.entry.Entry.{Entry}
use Rattle.am_record.proofs.Lists.{AllByRecursion-map}
use Rattle.am_record.proofs.Outcomes.{same_test}
use Rattle.am_record.proofs.PlaceOrder.{lower_part}
use Rattle.am_index.specs.Entries.{find, slot_of, entry_at, first_such, IsRising}
use Rattle.am_index.proofs.Lists.{first_such_none}
use Rattle.am_index.proofs.Edits.{none_such, same_place-itself, first_such_passes}
use Rattle.am_index.proofs.WalkLaws.{first_stands}
use Rattle.am_index_parts.specs.MergedRanges.{HasNoneBefore}
use Rattle.am_index_parts.specs.Partitions.{AreWellFormed, AreEmpty}
use Rattle.am_store_merge.specs.Walks.{in_part, in_parts_from}
use Rattle.am_store_merge.proofs.Firsts.{comes_to, first_same, first_comes, first_is}
use Rattle.am_store_merge.proofs.Walks.{le_part, none_past}

abbrev from_some : Entry → Option Entry → Entry
from_some d None = d
from_some d (Some x) = x

no_slot : (found : Option Entry) → option_map slot_of found ≡ None → found ≡ None
no_slot None e = refl
no_slot (Some x) e = absurd (cc)

-- what is said of each place is said of each entry
for_each : (es : List Entry) (In : ℕ → Type 0) → ((part : ℕ) (key : OrderedKey) → In part →
    AllByRecursion (λ e. is_eq (place_cmp (place_of e) (part, key)) ≡ false) es) →
    AllByRecursion (λ e. (part : ℕ) (key : OrderedKey) → In part →
    is_eq (place_cmp (place_of e) (part, key)) ≡ false) es
for_each [] In h = tt
for_each (e ∷ es) In h = ((λ part key i. (h part key i).0), for_each es In (λ part key i. (h part key i).1))

-- partitions in which nothing is found have no entry
pub none_in : (es : List Entry) (In : ℕ → Type 0) →
    ((part : ℕ) (key : OrderedKey) → In part → find es part key ≡ None) → AllByRecursion (λ e. In e.part → ⊥) es
none_in es In none =
    AllByRecursion-map (λ e. (part : ℕ) (key : OrderedKey) → In part →
    is_eq (place_cmp (place_of e) (part, key)) ≡ false) (λ e. In e.part → ⊥)
    (λ e h i. both_ways (is_eq (place_cmp (place_of e) (e.part, e.key))) (h e.part e.key i)
    (same_place-itself e.part e.key)) es
    (for_each es In (λ part key i. none_such (λ e. is_eq (place_cmp (place_of e) (part, key))) es
    (no_slot (entry_at es part key) (none part key i))))

-- a look passes partitions without entries
pub passes_empty : (es : List Entry) (range : Interval) (from to : ℕ) → from ≤ to →
    AllByRecursion (λ e. (from ≤ e.part) × (e.part < to) → ⊥) es →
    first_such (in_parts_from to range) es ≡ first_such (in_parts_from from range) es
passes_empty es range from to further none =
    first_same (in_parts_from to range) (in_parts_from from range) es
    (AllByRecursion-map (λ e. (from ≤ e.part) × (e.part < to) → ⊥)
    (λ e. in_parts_from to range e ≡ in_parts_from from range e)
    (λ e h. same_test (in_parts_from to range e) (in_parts_from from range e)
    (λ t. let p = and_parts (nat_le to e.part) (within range e.key) t in
    let le : to ≤ e.part = leb-true to e.part p.0 in
    and_from (nat_le from e.part) (within range e.key) (le-leb from e.part (omega (arith, le, further))) p.1)
    (λ t. let p = and_parts (nat_le from e.part) (within range e.key) t in
    let le : from ≤ e.part = leb-true from e.part p.0 in
    and_from (nat_le to e.part) (within range e.key)
    (⊎_elim (λ (less : e.part < to). absurd (h (le, less))) (λ (on : to ≤ e.part). le-leb to e.part on)
    (cases_lt e.part to)) p.1))
    es none)

-- and finds nothing where none later has any
pub none_left : (es : List Entry) (range : Interval) (from : ℕ) → AllByRecursion (λ e. from ≤ e.part → ⊥) es →
    first_such (in_parts_from from range) es ≡ None
none_left es range from none = first_such_none (in_parts_from from range) es
    (AllByRecursion-map (λ e. from ≤ e.part → ⊥) (λ e. in_parts_from from range e ≡ false)
    (λ e h. false_from_ne_true (in_parts_from from range e)
    (λ t. h (leb-true from e.part (and_parts (nat_le from e.part) (within range e.key) t).0))) es none)

-- a look passes a run that has none of the range
pub passes_run : (es : List Entry) (range : Interval) (run : ℕ) → first_such (in_part run range) es ≡ None →
    first_such (in_parts_from (run + 1) range) es ≡ first_such (in_parts_from run range) es
passes_run es range run none =
    first_same (in_parts_from (run + 1) range) (in_parts_from run range) es
    (AllByRecursion-map (λ e. in_part run range e ≡ false)
    (λ e. in_parts_from (run + 1) range e ≡ in_parts_from run range e)
    (λ e h. same_test (in_parts_from (run + 1) range e) (in_parts_from run range e)
    (λ t. let p = and_parts (nat_le (run + 1) e.part) (within range e.key) t in
    let le : run + 1 ≤ e.part = leb-true (run + 1) e.part p.0 in
    and_from (nat_le run e.part) (within range e.key) (le-leb run e.part (omega (arith, le))) p.1)
    (λ t. let p = and_parts (nat_le run e.part) (within range e.key) t in
    let le : run ≤ e.part = leb-true run e.part p.0 in
    let apart : e.part ≢ run = λ same. both_ways (in_part run range e) h
    (and_from (e.part == run) (within range e.key) (eq-eqb e.part run same) p.1) in
    and_from (nat_le (run + 1) e.part) (within range e.key) (le-leb (run + 1) e.part (omega (arith, le, apart))) p.1))
    es (none_such (in_part run range) es none))

-- and finds what the run has of it
module _ (es : List Entry) (rise : IsRising es) (range : Interval) (run : ℕ) (x : Entry)
    (found : first_such (in_part run range) es ≡ Some x) where
  found_parts : ((x.part == run) ≡ true) × (within range x.key ≡ true)
  found_parts = and_parts (x.part == run) (within range x.key) (first_such_passes (in_part run range) es x found)

  pub stands_in_run : x.part ≡ run
  stands_in_run = eqb-true x.part run found_parts.0

  comes_first : (f : Entry) → (in_part run range f ≡ true → comes_to (Some x) f ≡ true) →
      in_parts_from run range f ≡ true → comes_to (Some x) f ≡ true
  comes_first f here t =
      let p = and_parts (nat_le run f.part) (within range f.key) t in
      let le : run ≤ f.part = leb-true run f.part p.0 in
      ⊎_elim
      (λ same. here (and_from (f.part == run) (within range f.key) same p.1))
      (λ other. let apart : f.part ≢ run = λ same. both_ways (f.part == run) other (eq-eqb f.part run same) in
      let up : x.part < f.part = omega (arith, stands_in_run, le, apart) in
      ap is_le (lower_part (place_of x) (place_of f) up))
      (cases_Bool (f.part == run))

  pub found_in_run : first_such (in_parts_from run range) es ≡ Some x
  found_in_run =
      first_is (in_parts_from run range) es x rise (first_stands (in_part run range) es x rise found)
      (and_from (nat_le run x.part) (within range x.key)
      (le-leb run x.part (omega (arith, stands_in_run))) found_parts.1)
      (AllByRecursion-map (λ f. in_part run range f ≡ true → comes_to (Some x) f ≡ true)
      (λ f. in_parts_from run range f ≡ true → comes_to (Some x) f ≡ true) comes_first es
      (subst (λ o. AllByRecursion (λ f. in_part run range f ≡ true → comes_to o f ≡ true) es) found
      (first_comes (in_part run range) es rise)))

-- a step of a look, which comes to a run over partitions without entries
module _ (es : List Entry) (sound : AreWellFormed es) (range : Interval) (from run : ℕ) (further : from ≤ run)
    (passed : AreEmpty es from run) where
  reaches : first_such (in_parts_from run range) es ≡ first_such (in_parts_from from range) es
  reaches = passes_empty es range from run further (none_in es (λ part. (from ≤ part) × (part < run))
      (λ part key between. passed.none part key between.0 between.1))

  pub look_finds : (x : Entry) → Some x ≡ first_such (in_part run range) es → Some x ≡ first_such
      (in_parts_from from range) es
  look_finds x found = sym (found_in_run es sound.rising range run x (sym found)) ∙ reaches

  module _ (none : None ≡ first_such (in_part run range) es) where
    pub look_goes_past : first_such (in_parts_from (run + 1) range) es ≡ first_such (in_parts_from from range) es
    look_goes_past = passes_run es range run (sym none) ∙ reaches

    pub look_past_all : 2 ^ 32 ≤ run + 1 → None ≡ first_such (in_parts_from from range) es
    look_past_all over = sym (none_past es sound range (run + 1) over) ∙ look_goes_past

before_head : (e : Entry) (es : List Entry) (range : Interval) (first : Entry) (b : Bool) →
    AllByRecursion (λ f. place_cmp (place_of e) (place_of f) ≡ Less) es → in_parts_from 1 range e ≡ b →
    (if b then Some e else first_such (in_parts_from 1 range) es) ≡ Some first →
    (first_such (in_parts_from 1 range) es ≡ Some first → HasNoneBefore es range first.part) →
    HasNoneBefore (e ∷ es) range first.part
before_head e es range first true rising is found rest =
    let low : e.part ≡ first.part = ap (λ (x : Option Entry). (from_some e x).part) found in (
      λ some less. absurd (omega (arith, less, low)),
      AllByRecursion-map (λ f. place_cmp (place_of e) (place_of f) ≡ Less)
          (λ f. 0 < f.part → f.part < first.part → within range f.key ≡ false)
          (λ f h some less. absurd (omega (arith, less, low, le_part (place_of e) (place_of f) (ap is_le h))))
          es rising,
    )
before_head e es range first false rising is found rest = (
  λ some less. false_from_ne_true (within range e.key)
      (λ yes. both_ways (in_parts_from 1 range e) is
      (and_from (nat_le 1 e.part) (within range e.key) (le-leb 1 e.part (omega (arith, some))) yes)),
  rest found,
)

-- runs before that of the first entry of the range have none
pub none_before : (es : List Entry) (range : Interval) (first : Entry) → IsRising es →
    first_such (in_parts_from 1 range) es ≡ Some first → HasNoneBefore es range first.part
none_before [] range first rising found = tt
none_before (e ∷ es) range first rising found =
    before_head e es range first (in_parts_from 1 range e) rising.0 refl found (none_before es range first rising.1)
