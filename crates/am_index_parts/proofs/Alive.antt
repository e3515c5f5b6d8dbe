-- How many entries there are, and how many are live, after each change.
use Rattle.std.proofs.Common.{◌≡◌, ◌≢◌, ℕ, ◌+◌, ◌<◌, ◌≤◌, Bool, true, false, cond, List, [], ◌∷◌, ◌++◌, length, refl}
use Rattle.std.proofs.Common.{sym, ap}
use Rattle.std.proofs.Common.{◌∙◌, ⊎_elim, arith, Option}
use Rattle.std.specs.Prelude.{IsSome, is_some, not, ◌==◌}
use Rattle.std.proofs.Math.Bool.{beq}
use Rattle.std.specs.Ordering.{is_eq, is_lt}
use mir.Val.{bool_byte}
use Rattle.std.proofs.lemmas.Bool.{cases_Bool, true≢false}
use Rattle.am_record.specs.OrderedKey.{OrderedKey}
use Rattle.am_record.specs.Plain.{Records}
use Rattle.am_record.specs.EntryOrder.{Place, place_cmp, place_of}
use Rattle.am_record.specs.declared.entry.Entry.{Entry}
use Rattle.am_index.specs.Content.{live_value}
use Rattle.am_index.proofs.Content.{slot_live}
use Rattle.am_index.specs.Edits.{same_place}
use Rattle.am_index.specs.Entries.{Slot, find, insert_entry, set_entry, remove_entry}
use Rattle.am_index.specs.Runs.{run_entries}
use Rattle.am_index.proofs.Edits.{one_place, find-hit, find-miss, remove-hit, remove-miss, set-hit, set-miss}
use Rattle.am_index_parts.specs.Catalogs.{left_in, live_in, live_of, AreCountedIn, IsCatalog}
use Rattle.am_index_parts.specs.declared.catalog.Catalog.{Catalog}
use Rattle.am_index_parts.proofs.Counts.{all_if, one_if, count_removed}

-- 1 where it is so, else 0
abbrev pub one : Bool → ℕ
one b = cond b 1 0

-- ---- all entries

pub length_inserted : (es : List Entry) (x : Entry) → length (insert_entry es x) ≡ length es + 1
length_inserted [] x = refl
length_inserted (e ∷ es) x =
    let more : length (insert_entry es x) ≡ length es + 1 = length_inserted es x in
    elim (is_lt (place_cmp (place_of e) (place_of x))) as
    (λ b. length (cond b (e ∷ insert_entry es x) (x ∷ e ∷ es)) ≡ length (e ∷ es) + 1) [
      | true ↦ omega (arith, more)
      | false ↦ omega arith
    ]

module _ (part : ℕ) (key : OrderedKey) where
  pub length_set : (value : List ℕ) (is_ghost : Bool) (es : List Entry) →
      length (set_entry es part key value is_ghost) ≡ length es
  length_set value is_ghost [] = refl
  length_set value is_ghost (e ∷ es) =
      elim (is_eq (place_cmp (place_of e) (part, key))) as
      (λ b. length (cond b (record e { value = value; is_ghost = is_ghost } ∷ es)
      (e ∷ set_entry es part key value is_ghost)) ≡ length (e ∷ es)) [
        | true ↦ refl
        | false ↦ omega (arith, length_set value is_ghost es)
      ]

  pub length_removed : (es : List Entry) → IsSome (find es part key) → length es ≡ length (remove_entry es part key) + 1
  length_removed [] h = absurd (true≢false (sym h))
  length_removed (e ∷ es) h =
      ⊎_elim
      (λ here. omega (arith, ap length (remove-hit part key e es here)))
      (λ other. omega (
        arith,
        ap length (remove-miss part key e es other),
        length_removed es (sym (ap is_some (find-miss part key e es other)) ∙ h),
      ))
      (cases_Bool (same_place e.part e.key part key))

pub length_append : (es fs : List Entry) → length (es ++ fs) ≡ length es + length fs
length_append [] fs = omega arith
length_append (e ∷ es) fs = omega (arith, length_append es fs)

pub length_run : (part : ℕ) (rs : Records) → length (run_entries part rs) ≡ length rs
length_run part [] = refl
length_run part (r ∷ rs) = omega (arith, length_run part rs)

-- ---- those that are live

pub live_inserted : (es : List Entry) (x : Entry) → live_in (insert_entry es x) ≡ one (not x.is_ghost) + live_in es
live_inserted [] x = refl
live_inserted (e ∷ es) x =
    let more : live_in (insert_entry es x) ≡ one (not x.is_ghost) + live_in es = live_inserted es x in
    elim (is_lt (place_cmp (place_of e) (place_of x))) as
    (λ b. live_in (cond b (e ∷ insert_entry es x) (x ∷ e ∷ es)) ≡ one (not x.is_ghost) + live_in (e ∷ es)) [
      | true ↦ omega (arith, more)
      | false ↦ refl
    ]

module _ (part : ℕ) (key : OrderedKey) where
  -- whether what stands there is live
  abbrev pub was_live : List Entry → Bool
  was_live es = is_some (live_value (find es part key))

  live_here : (e : Entry) (es : List Entry) → same_place e.part e.key part key ≡ true →
      was_live (e ∷ es) ≡ not e.is_ghost
  live_here e es here = ap (λ (o : Option Slot). is_some (live_value o)) (find-hit part key e es here) ∙ slot_live e

  live_later : (e : Entry) (es : List Entry) → same_place e.part e.key part key ≡ false →
      was_live (e ∷ es) ≡ was_live es
  live_later e es other = ap (λ (o : Option Slot). is_some (live_value o)) (find-miss part key e es other)

  pub live_removed : (es : List Entry) → IsSome (find es part key) →
      live_in es ≡ one (was_live es) + live_in (remove_entry es part key)
  live_removed [] h = absurd (true≢false (sym h))
  live_removed (e ∷ es) h =
      ⊎_elim
      (λ here.
      let same : one (was_live (e ∷ es)) ≡ one (not e.is_ghost) = ap one (live_here e es here) in
      let rest : live_in (remove_entry (e ∷ es) part key) ≡ live_in es = ap live_in (remove-hit part key e es here) in
      omega (arith, same, rest))
      (λ other.
      let same : one (was_live (e ∷ es)) ≡ one (was_live es) = ap one (live_later e es other) in
      let rest : live_in (remove_entry (e ∷ es) part key) ≡ one (not e.is_ghost) + live_in (remove_entry es part key) =
      ap live_in (remove-miss part key e es other) in
      let later : live_in es ≡ one (was_live es) + live_in (remove_entry es part key) =
      live_removed es (sym (ap is_some (find-miss part key e es other)) ∙ h) in
      omega (arith, same, rest, later))
      (cases_Bool (same_place e.part e.key part key))

  pub live_set : (value : List ℕ) (is_ghost : Bool) (es : List Entry) → IsSome (find es part key) →
      live_in (set_entry es part key value is_ghost) + one (was_live es) ≡ live_in es + one (not is_ghost)
  live_set value is_ghost [] h = absurd (true≢false (sym h))
  live_set value is_ghost (e ∷ es) h =
      ⊎_elim
      (λ here.
      let same : one (was_live (e ∷ es)) ≡ one (not e.is_ghost) = ap one (live_here e es here) in
      let now : live_in (set_entry (e ∷ es) part key value is_ghost) ≡ one (not is_ghost) + live_in es =
      ap live_in (set-hit part key e es value is_ghost here) in
      omega (arith, same, now))
      (λ other.
      let same : one (was_live (e ∷ es)) ≡ one (was_live es) = ap one (live_later e es other) in
      let now : live_in (set_entry (e ∷ es) part key value is_ghost) ≡ one (not e.is_ghost) +
      live_in (set_entry es part key value is_ghost) = ap live_in (set-miss part key e es value is_ghost other) in
      let later : live_in (set_entry es part key value is_ghost) + one (was_live es) ≡ live_in es + one (not is_ghost) =
      live_set value is_ghost es (sym (ap is_some (find-miss part key e es other)) ∙ h) in
      omega (arith, same, now, later))
      (cases_Bool (same_place e.part e.key part key))

pub live_append : (es fs : List Entry) → live_in (es ++ fs) ≡ live_in es + live_in fs
live_append [] fs = omega arith
live_append (e ∷ es) fs = omega (arith, live_append es fs)

pub live_run : (part : ℕ) (rs : Records) → live_in (run_entries part rs) ≡ length rs
live_run part [] = refl
live_run part (r ∷ rs) = omega (arith, live_run part rs)

one_at_most : (b : Bool) → one b ≤ 1
one_at_most true = omega arith
one_at_most false = omega arith

pub live_at_most : (es : List Entry) → live_in es ≤ length es
live_at_most [] = omega arith
live_at_most (e ∷ es) = omega (arith, live_at_most es, one_at_most (not e.is_ghost))

pub left_at_most : (part : ℕ) (es : List Entry) → left_in part es ≤ length es
left_at_most part [] = omega arith
left_at_most part (e ∷ es) = omega (arith, left_at_most part es, one_at_most (e.part == part))

pub byte_is : (b : Bool) → bool_byte b ≡ one b
byte_is true = refl
byte_is false = refl

-- one of two that differ is the other's contrary
pub contrary : (a b : Bool) → a ≢ b → a ≡ not b
contrary true true h = absurd (h refl)
contrary true false h = refl
contrary false true h = refl
contrary false false h = absurd (h refl)

pub differ : (a b : Bool) → not (beq a b) ≡ true → a ≢ b
differ true true h = absurd (true≢false (sym h))
differ true false h = λ same. true≢false same
differ false true h = λ same. true≢false (sym same)
differ false false h = absurd (true≢false (sym h))

pub alike : (a b : Bool) → not (beq a b) ≡ false → a ≡ b
alike true true h = refl
alike true false h = absurd (true≢false h)
alike false true h = absurd (true≢false h)
alike false false h = refl

-- an entry that isn't live is among all
pub dead_among_all : (part : ℕ) (key : OrderedKey) (es : List Entry) → IsSome (find es part key) →
    was_live part key es ≡ false → live_in es < length es
dead_among_all part key es there dead =
    let none : one (was_live part key es) ≡ 0 = ap one dead in
    omega (
      arith,
      none,
      live_removed part key es there,
      live_at_most (remove_entry es part key),
      length_removed part key es there,
    )

-- ---- those of a partition that are live

module _ (p : ℕ) where
  pub alive_inserted : (es : List Entry) (x : Entry) →
      live_of p (insert_entry es x) ≡ cond (x.part == p) (one (not x.is_ghost)) 0 + live_of p es
  alive_inserted [] x = refl
  alive_inserted (e ∷ es) x =
      let its = cond (x.part == p) (one (not x.is_ghost)) 0 in
      let more : live_of p (insert_entry es x) ≡ its + live_of p es = alive_inserted es x in
      elim (is_lt (place_cmp (place_of e) (place_of x))) as
      (λ b. live_of p (cond b (e ∷ insert_entry es x) (x ∷ e ∷ es)) ≡ its + live_of p (e ∷ es)) [
        | true ↦ omega (arith, more)
        | false ↦ refl
      ]

  module _ (part : ℕ) (key : OrderedKey) where
    -- what stands there, if it is live and of the partition
    abbrev counts_as : Bool → ℕ
    counts_as b = cond (part == p) (one b) 0

    here_counts : (e : Entry) (b : Bool) → same_place e.part e.key part key ≡ true →
        cond (e.part == p) (one b) 0 ≡ counts_as b
    here_counts e b here = ap (λ (q : ℕ). cond (q == p) (one b) 0)
        (ap (λ (q : Place). q.0) (one_place (place_of e) (part, key) here))

    pub alive_removed : (es : List Entry) → IsSome (find es part key) →
        live_of p es ≡ counts_as (was_live part key es) + live_of p (remove_entry es part key)
    alive_removed [] h = absurd (true≢false (sym h))
    alive_removed (e ∷ es) h =
        ⊎_elim
        (λ here.
        let same : counts_as (was_live part key (e ∷ es)) ≡ counts_as (not e.is_ghost) =
        ap counts_as (live_here part key e es here) in
        let rest : live_of p (remove_entry (e ∷ es) part key) ≡ live_of p es =
        ap (live_of p) (remove-hit part key e es here) in
        omega (arith, same, rest, here_counts e (not e.is_ghost) here))
        (λ other.
        let same : counts_as (was_live part key (e ∷ es)) ≡ counts_as (was_live part key es) =
        ap counts_as (live_later part key e es other) in
        let rest : live_of p (remove_entry (e ∷ es) part key) ≡ cond (e.part == p) (one (not e.is_ghost)) 0 +
        live_of p (remove_entry es part key) = ap (live_of p) (remove-miss part key e es other) in
        let later : live_of p es ≡ counts_as (was_live part key es) + live_of p (remove_entry es part key) =
        alive_removed es (sym (ap is_some (find-miss part key e es other)) ∙ h) in
        omega (arith, same, rest, later))
        (cases_Bool (same_place e.part e.key part key))

    pub alive_set : (value : List ℕ) (is_ghost : Bool) (es : List Entry) → IsSome (find es part key) →
        live_of p (set_entry es part key value is_ghost) + counts_as (was_live part key es) ≡
        live_of p es + counts_as (not is_ghost)
    alive_set value is_ghost [] h = absurd (true≢false (sym h))
    alive_set value is_ghost (e ∷ es) h =
        ⊎_elim
        (λ here.
        let same : counts_as (was_live part key (e ∷ es)) ≡ counts_as (not e.is_ghost) =
        ap counts_as (live_here part key e es here) in
        let now : live_of p (set_entry (e ∷ es) part key value is_ghost) ≡
        cond (e.part == p) (one (not is_ghost)) 0 + live_of p es =
        ap (live_of p) (set-hit part key e es value is_ghost here) in
        omega (arith, same, now, here_counts e (not e.is_ghost) here, here_counts e (not is_ghost) here))
        (λ other.
        let same : counts_as (was_live part key (e ∷ es)) ≡ counts_as (was_live part key es) =
        ap counts_as (live_later part key e es other) in
        let now : live_of p (set_entry (e ∷ es) part key value is_ghost) ≡ cond (e.part == p) (one (not e.is_ghost)) 0 +
        live_of p (set_entry es part key value is_ghost) =
        ap (live_of p) (set-miss part key e es value is_ghost other) in
        let later : live_of p (set_entry es part key value is_ghost) + counts_as (was_live part key es) ≡
        live_of p es + counts_as (not is_ghost) =
        alive_set value is_ghost es (sym (ap is_some (find-miss part key e es other)) ∙ h) in
        omega (arith, same, now, later))
        (cases_Bool (same_place e.part e.key part key))

  pub alive_append : (es fs : List Entry) → live_of p (es ++ fs) ≡ live_of p es + live_of p fs
  alive_append [] fs = omega arith
  alive_append (e ∷ es) fs = omega (arith, alive_append es fs)

  pub alive_run : (part : ℕ) (rs : Records) → part ≡ p → live_of p (run_entries part rs) ≡ length rs
  alive_run part [] h = refl
  alive_run part (r ∷ rs) h = omega (arith, all_if part p 1 h, alive_run part rs h)

  one_of_them : (b live : Bool) → cond b (one live) 0 ≤ one b
  one_of_them true live = one_at_most live
  one_of_them false live = omega arith

  pub alive_at_most : (es : List Entry) → live_of p es ≤ left_in p es
  alive_at_most [] = omega arith
  alive_at_most (e ∷ es) = omega (arith, alive_at_most es, one_of_them (e.part == p) (not e.is_ghost))

module _ (part : ℕ) (key : OrderedKey) (es : List Entry) (there : IsSome (find es part key)) where
  -- an entry that is live is among those of its partition
  pub some_alive : was_live part key es ≡ true → 0 < live_of part es
  some_alive lives =
      let its : one (was_live part key es) ≡ 1 = ap one lives in
      omega (arith, its, alive_removed part part key es there, all_if part part (one (was_live part key es)) refl)

  -- where an entry isn't live, not all of its partition are
  pub dead_among_its : was_live part key es ≡ false → live_of part es < left_in part es
  dead_among_its dead =
      let its : one (was_live part key es) ≡ 0 = ap one dead in
      omega (
        arith,
        its,
        alive_removed part part key es there,
        all_if part part (one (was_live part key es)) refl,
        count_removed part part key es there,
        one_if part part refl,
        alive_at_most part (remove_entry es part key),
      )

-- ---- the catalog, after a change of what stands at a place

pub catalog_set : {es : List Entry} {c c' : Catalog} (part : ℕ) (key : OrderedKey) (value : List ℕ) (is_ghost : Bool) →
    IsSome (find es part key) → AreCountedIn (set_entry es part key value is_ghost) c' → c'.entries ≡ c.entries →
    c'.live + one (was_live part key es) ≡ c.live + one (not is_ghost) → IsCatalog es c →
    IsCatalog (set_entry es part key value is_ghost) c'
catalog_set {es} {c} {c'} part key value is_ghost there counted entries live h = record {
  counted = counted;
  all = record {
    entries = entries ∙ h.all.entries ∙ sym (length_set part key value is_ghost es);
    live = omega (arith, live, h.all.live, live_set part key value is_ghost es there);
  };
}
