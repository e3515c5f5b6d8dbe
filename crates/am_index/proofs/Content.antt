-- What is live in a list of entries is what its content has.
use Rattle.std.proofs.Common.{◌≡◌, ℕ, List, [], ◌∷◌, Bool, true, false, cond, not, map, filter, Option, Some, None}
use Rattle.std.proofs.Common.{refl, sym, ap, ◌∙◌, subst, ⊎_elim}
use Rattle.std.specs.Prelude.{is_some}
use Rattle.std.proofs.lemmas.Bool.{cases_Bool, cond-true, cond-false, false≢true}
use Rattle.std.specs.declared.cmp.Ordering.TheVariants.{Less}
use Rattle.std.specs.Ordering.{is_eq}
use Rattle.std.specs.Option.{option_map}
use Rattle.std.proofs.lemmas.Option.{none-some, same_Some}
use Rattle.std.specs.List.{AllByRecursion}
use Rattle.std.specs.FinMap.{get, find as looked_up, same_map, get-from_entries}
use Rattle.am_record.specs.OrderedKey.{OrderedKey, key_cmp, key_cmp-total, key_cmp-exact, key_eq-exact}
use Rattle.am_record.specs.Plain.{PlainMap}
use Rattle.am_record.specs.EntryOrder.{Place, place_of, place_cmp}
use Rattle.am_record.specs.declared.entry.Entry.{Entry}
use Rattle.am_record.proofs.FirstRows.{key_eq, key_eq-itself}
use Rattle.am_index.specs.Entries.{Slot, slot_of, entry_at, find, IsRising}
use Rattle.am_index.specs.Edits.{same_place}
use Rattle.am_index.specs.Content.{live_records, content, IsLiveAt, OnePlace, HasContent, live_value, HasOne, values_at}
use Rattle.am_index.proofs.Edits.{one_place, same_place-itself, entry_at-hit, entry_at-miss, find-hit, find-miss}

-- ---- each entry of a rising list is found at its place

-- the entry is the one that is found at its place
abbrev IsFoundIn : List Entry → Entry → Type 0
IsFoundIn all e = entry_at all e.part e.key ≡ Some e

past_first : (x : Entry) (all es : List Entry) → AllByRecursion (λ e. place_cmp (place_of x) (place_of e) ≡ Less) es →
    AllByRecursion (IsFoundIn all) es → AllByRecursion (IsFoundIn (x ∷ all)) es
past_first x all [] above found = tt
past_first x all (e ∷ es) above found = (
  entry_at-miss e.part e.key x all (ap is_eq above.0) ∙ found.0,
  past_first x all es above.1 found.1,
)

pub all_found : (es : List Entry) → IsRising es → AllByRecursion (IsFoundIn es) es
all_found [] rising = tt
all_found (e ∷ es) rising = (
  entry_at-hit e.part e.key e es (same_place-itself e.part e.key),
  past_first e es es rising.0 (all_found es rising.1),
)

-- ---- one step through the records

module _ (e : Entry) (es : List Entry) (key : OrderedKey) where
  abbrev later : Option (List ℕ)
  later = looked_up key_cmp key (live_records es)

  abbrev all : Option (List ℕ)
  all = looked_up key_cmp key (live_records (e ∷ es))

  past_ghost : e.is_ghost ≡ true → all ≡ later
  past_ghost g = ap (λ b. looked_up key_cmp key
      (map (λ (f : Entry). (f.key, f.value)) (cond (not b) (e ∷ filter (λ (f : Entry). not f.is_ghost) es)
      (filter (λ (f : Entry). not f.is_ghost) es)))) g

  at_live : e.is_ghost ≡ false → all ≡ cond (key_eq key e.key) (Some e.value) later
  at_live g = ap (λ b. looked_up key_cmp key (map (λ (f : Entry). (f.key, f.value))
      (cond (not b) (e ∷ filter (λ (f : Entry). not f.is_ghost) es) (filter (λ (f : Entry). not f.is_ghost) es)))) g

-- a record of the list is one of its live entries
live_stands : (all es : List Entry) → AllByRecursion (IsFoundIn all) es → (key : OrderedKey) (value : List ℕ) →
    looked_up key_cmp key (live_records es) ≡ Some value → (part : ℕ) × IsLiveAt all part key value
live_stands all [] found key value h = absurd (cc)
live_stands all (e ∷ es) found key value h =
    ⊎_elim
    (λ ghost. live_stands all es found.1 key value (sym (past_ghost e es key ghost) ∙ h))
    (λ live. let step = sym (at_live e es key live) ∙ h in
    ⊎_elim
    (λ tie.
    let is_key : key ≡ e.key = key_eq-exact key e.key tie in
    let is_value : e.value ≡ value = same_Some _ _
    (sym (cond-true (key_eq key e.key) (Some e.value) (later e es key) tie) ∙ step) in
    let slot : Slot = (value, false) in
    let slots : slot_of e ≡ slot = λ i. (is_value i, live i) in (
      e.part,
      record {
        there = ap (find all e.part) is_key ∙ ap (option_map slot_of) found.0 ∙
            ap (λ (s : Slot). Some s) slots;
      },
    ))
    (λ apart. live_stands all es found.1 key value
    (sym (cond-false (key_eq key e.key) (Some e.value) (later e es key) apart) ∙ step))
    (cases_Bool (key_eq key e.key)))
    (cases_Bool e.is_ghost)

-- a live entry of the list is among its records
live_has : (es : List Entry) (part : ℕ) (key : OrderedKey) (value : List ℕ) → find es part key ≡ Some (value, false) →
    is_some (looked_up key_cmp key (live_records es)) ≡ true
live_has [] part key value h = absurd (cc)
live_has (e ∷ es) part key value h =
    ⊎_elim
    (λ yes.
    let places : place_of e ≡ (part, key) = one_place (place_of e) (part, key) yes in
    let is_key : e.key ≡ key = ap (λ (q : Place). q.1) places in
    let slots : slot_of e ≡ (value, false) = same_Some _ _ (sym (find-hit part key e es yes) ∙ h) in
    let live : e.is_ghost ≡ false = ap (λ (s : Slot). s.1) slots in
    ap is_some (at_live e es key live ∙ cond-true (key_eq key e.key) (Some e.value) (later e es key)
    (subst (λ k. key_eq key k ≡ true) (sym is_key) (key_eq-itself key))))
    (λ no.
    let behind = live_has es part key value (sym (find-miss part key e es no) ∙ h) in
    ⊎_elim
    (λ ghost. ap is_some (past_ghost e es key ghost) ∙ behind)
    (λ live. ap is_some (at_live e es key live) ∙ either (key_eq key e.key) e.value (later e es key) behind)
    (cases_Bool e.is_ghost))
    (cases_Bool (same_place e.part e.key part key))
  where
    either : (b : Bool) (v : List ℕ) (o : Option (List ℕ)) → is_some o ≡ true → is_some (cond b (Some v) o) ≡ true
    either true v o h = refl
    either false v o h = h

-- ---- the content

pub get-content : (es : List Entry) (key : OrderedKey) → get (content es) key ≡ looked_up key_cmp key (live_records es)
get-content es key = get-from_entries key_cmp-total (live_records es) key

-- what the content has is live somewhere
pub content_found : (es : List Entry) → IsRising es → (key : OrderedKey) (value : List ℕ) →
    get (content es) key ≡ Some value → (part : ℕ) × IsLiveAt es part key value
content_found es rising key value h = live_stands es es (all_found es rising) key value (sym (get-content es key) ∙ h)

-- what is live in no partition, the content lacks
pub content_dead : (es : List Entry) → IsRising es → (key : OrderedKey) →
    ((part : ℕ) (value : List ℕ) → IsLiveAt es part key value → ⊥) → get (content es) key ≡ None
content_dead es rising key none = by_cases (get (content es) key) refl
  where
    by_cases : (o : Option (List ℕ)) → get (content es) key ≡ o → get (content es) key ≡ None
    by_cases None h = h
    by_cases (Some value) h = let f = content_found es rising key value h in absurd (none f.0 value f.1)

-- what is live in one place, the content has
pub content_live : (es : List Entry) → IsRising es → OnePlace es → (part : ℕ) (key : OrderedKey) (value : List ℕ) →
    IsLiveAt es part key value → get (content es) key ≡ Some value
content_live es rising one part key value live = by_cases (get (content es) key) refl
  where
    by_cases : (o : Option (List ℕ)) → get (content es) key ≡ o → get (content es) key ≡ Some value
    by_cases None h = absurd (false≢true (sym (ap is_some h) ∙ ap is_some (get-content es key) ∙
        live_has es part key value live.there))
    by_cases (Some other) h =
        let f = content_found es rising key other h in
        let parts : f.0 ≡ part = one.one key f.0 part other value f.1 live in
        let slots : (let s : Slot = (other, false) in s) ≡ (value, false) =
        same_Some _ _ (sym f.1.there ∙ ap (λ p. find es p key) parts ∙ live.there) in
        h ∙ ap (λ (s : Slot). Some s.0) slots

-- ---- one partition at most

live_slot : (o : Option Slot) (value : List ℕ) → live_value o ≡ Some value → o ≡ Some (value, false)
live_slot None value h = absurd (cc)
live_slot (Some (v, true)) value h = absurd (cc)
live_slot (Some (v, false)) value h = let same : v ≡ value = same_Some _ _ h in
    ap (λ (x : List ℕ). let s : Slot = (x, false) in Some s) same

-- what an entry shows is live where it is no ghost
pub slot_live : (e : Entry) → is_some (live_value (Some (slot_of e))) ≡ not e.is_ghost
slot_live e = elim e.is_ghost as (λ b. is_some (live_value (Some (e.value, b))) ≡ not b) [
  | true ↦ refl
  | false ↦ refl
]

-- a live value stands live
pub live_at : {es : List Entry} {part : ℕ} {key : OrderedKey} {value : List ℕ} → values_at es key part ≡ Some value →
    IsLiveAt es part key value
live_at {es} {part} {key} {value} h = record { there = live_slot (find es part key) value h }

pub content_has_one : (es : List Entry) → IsRising es → OnePlace es → (key : OrderedKey) →
    HasOne (values_at es key) (get (content es) key)
content_has_one es rising one key = record {
  sound = λ part v h. content_live es rising one part key v (live_at h);
  full = λ v h. let f = content_found es rising key v h in (f.0, ap live_value f.1.there);
  one = λ part part' v v' h h'. one.one key part part' v v' (live_at h) (live_at h');
}

-- partitions that have the same values live
pub has_one_along : {at at' : ℕ → Option (List ℕ)} {value : Option (List ℕ)} → ((part : ℕ) → at' part ≡ at part) →
    HasOne at value → HasOne at' value
has_one_along h one = record {
  sound = λ part v e. one.sound part v (sym (h part) ∙ e);
  full = λ v e. let f = one.full v e in (f.0, h f.0 ∙ f.1);
  one = λ part part' v v' e e'. one.one part part' v v' (sym (h part) ∙ e) (sym (h part') ∙ e');
}

-- there is one such value
pub same_has_one : (at : ℕ → Option (List ℕ)) (a b : Option (List ℕ)) → HasOne at a → HasOne at b → a ≡ b
same_has_one at None None h k = refl
same_has_one at None (Some v) h k = let f = k.full v refl in h.sound f.0 v f.1
same_has_one at (Some v) b h k = let f = h.full v refl in sym (k.sound f.0 v f.1)

-- a rising list whose partitions have, of each key, the map's value and no other, has the map as its content
pub content_from : (es : List Entry) (m : PlainMap) → IsRising es →
    ((key : OrderedKey) → HasOne (values_at es key) (get m key)) → HasContent es m
content_from es m rising h =
    let one : OnePlace es = record {
      one = λ key part part' v v' l l'. (h key).one part part' v v'
          (ap live_value l.there) (ap live_value l'.there);
    } in
    record {
      rising = rising;
      one_place = one;
      same = same_map key_cmp-total key_cmp-exact (content es) m
          (λ key. same_has_one (values_at es key) (get (content es) key) (get m key) (content_has_one es rising one key)
          (h key));
    }

-- what the partitions have of the key, the map has
pub content_values : {es : List Entry} {m : PlainMap} → HasContent es m → (key : OrderedKey) →
    HasOne (values_at es key) (get m key)
content_values {es} {m} h key = subst (λ (x : PlainMap). HasOne (values_at es key) (get x key)) h.same
    (content_has_one es h.rising h.one_place key)

-- where nothing stands nothing is live
pub none_live : (es : List Entry) (part : ℕ) (key : OrderedKey) → find es part key ≡ None → (value : List ℕ) →
    ¬ IsLiveAt es part key value
none_live es part key none value live = none-some (value, false) (sym none ∙ live.there)
