-- How many entries stand in a partition, after each change.
use Rattle.std.proofs.Common.{◌≡◌, ◌≢◌, ℕ, ◌+◌, Bool, true, false, cond, List, [], ◌∷◌, ◌++◌, length, refl, sym, ap}
use Rattle.std.proofs.Common.{◌∙◌, ⊎_elim, arith}
use Rattle.std.specs.Prelude.{IsSome, is_some, ◌==◌}
use Rattle.std.proofs.lemmas.Bool.{cases_Bool, cond-true, cond-false, eqb-true, eq-eqb, true≢false, false_from_ne_true}
use Rattle.std.specs.Ordering.{is_eq, is_lt}
use Rattle.std.specs.List.{AllByRecursion}
use Rattle.am_record.specs.OrderedKey.{OrderedKey}
use Rattle.am_record.specs.Plain.{Records}
use Rattle.am_record.specs.EntryOrder.{Place, place_cmp, place_of}
use Rattle.am_record.specs.declared.entry.Entry.{Entry}
use Rattle.am_index.specs.Entries.{find, insert_entry, set_entry, remove_entry}
use Rattle.am_index.specs.Edits.{same_place}
use Rattle.am_index.specs.Runs.{run_entries}
use Rattle.am_index.proofs.Edits.{one_place, find-miss, remove-hit, remove-miss}
use Rattle.am_index_parts.specs.Catalogs.{left_in}

pub all_if : (a b n : ℕ) → a ≡ b → cond (a == b) n 0 ≡ n
all_if a b n h = cond-true (a == b) n 0 (eq-eqb a b h)

pub nothing_if : (a b n : ℕ) → a ≢ b → cond (a == b) n 0 ≡ 0
nothing_if a b n h = cond-false (a == b) n 0 (false_from_ne_true (a == b) (λ yes. h (eqb-true a b yes)))

pub one_if : (a b : ℕ) → a ≡ b → ◌≡◌ {A = ℕ} (cond (a == b) 1 0) 1
one_if a b h = all_if a b 1 h

pub none_if : (a b : ℕ) → a ≢ b → ◌≡◌ {A = ℕ} (cond (a == b) 1 0) 0
none_if a b h = nothing_if a b 1 h

-- ---- the changes of the index

-- what holds by partition and key goes on holding
module _ (P : Entry → Type 0) where
  pub all_inserted : (es : List Entry) (x : Entry) → P x → AllByRecursion P es → AllByRecursion P (insert_entry es x)
  all_inserted [] x h a = (h, tt)
  all_inserted (e ∷ es) x h a =
      elim (is_lt (place_cmp (place_of e) (place_of x))) as
      (λ b. AllByRecursion P (cond b (e ∷ insert_entry es x) (x ∷ e ∷ es))) [
        | true ↦ (a.0, all_inserted es x h a.1)
        | false ↦ (h, a)
      ]

  pub all_removed : (part : ℕ) (key : OrderedKey) (es : List Entry) → AllByRecursion P es →
      AllByRecursion P (remove_entry es part key)
  all_removed part key [] a = tt
  all_removed part key (e ∷ es) a =
      elim (is_eq (place_cmp (place_of e) (part, key))) as
      (λ b. AllByRecursion P (cond b es (e ∷ remove_entry es part key))) [
        | true ↦ a.1
        | false ↦ (a.0, all_removed part key es a.1)
      ]

pub all_set : (P : ℕ → OrderedKey → Type 0) (part : ℕ) (key : OrderedKey) (value : List ℕ) (is_ghost : Bool)
    (es : List Entry) → AllByRecursion (λ (e : Entry). P e.part e.key) es
    → AllByRecursion (λ (e : Entry). P e.part e.key) (set_entry es part key value is_ghost)
all_set P part key value is_ghost [] a = tt
all_set P part key value is_ghost (e ∷ es) a =
    elim (is_eq (place_cmp (place_of e) (part, key))) as
    (λ b. AllByRecursion (λ (f : Entry). P f.part f.key)
    (cond b (record e { value = value; is_ghost = is_ghost } ∷ es) (e ∷ set_entry es part key value is_ghost))) [
      | true ↦ a
      | false ↦ (a.0, all_set P part key value is_ghost es a.1)
    ]

module _ (p : ℕ) where
  pub count_inserted : (es : List Entry) (x : Entry) → left_in p (insert_entry es x) ≡ cond (x.part == p) 1 0 + left_in
      p es
  count_inserted [] x = refl
  count_inserted (e ∷ es) x =
      let more : left_in p (insert_entry es x) ≡ cond (x.part == p) 1 0 + left_in p es = count_inserted es x in
      elim (is_lt (place_cmp (place_of e) (place_of x))) as
      (λ b. left_in p (cond b (e ∷ insert_entry es x) (x ∷ e ∷ es)) ≡ cond (x.part == p) 1 0 + left_in p (e ∷ es)) [
        | true ↦ omega (arith, more)
        | false ↦ refl
      ]

  pub count_set : (part : ℕ) (key : OrderedKey) (value : List ℕ) (is_ghost : Bool) (es : List Entry) →
      left_in p (set_entry es part key value is_ghost) ≡ left_in p es
  count_set part key value is_ghost [] = refl
  count_set part key value is_ghost (e ∷ es) =
      elim (is_eq (place_cmp (place_of e) (part, key))) as
      (λ b. left_in p (cond b (record e { value = value; is_ghost = is_ghost } ∷ es)
      (e ∷ set_entry es part key value is_ghost)) ≡ left_in p (e ∷ es)) [
        | true ↦ refl
        | false ↦ ap (λ (n : ℕ). cond (e.part == p) 1 0 + n) (count_set part key value is_ghost es)
      ]

  pub count_removed : (part : ℕ) (key : OrderedKey) (es : List Entry) → IsSome (find es part key) →
      left_in p es ≡ cond (part == p) 1 0 + left_in p (remove_entry es part key)
  count_removed part key [] h = absurd (true≢false (sym h))
  count_removed part key (e ∷ es) h =
      ⊎_elim
      (λ here.
      let same : e.part ≡ part = ap (λ (q : Place). q.0) (one_place (place_of e) (part, key) here) in
      ap (λ (q : ℕ). cond (q == p) 1 0 + left_in p es) same ∙ ap (λ l. cond (part == p) 1 0 + left_in p l)
      (sym (remove-hit part key e es here)))
      (λ other.
      let later : left_in p es ≡ cond (part == p) 1 0 + left_in p (remove_entry es part key) =
      count_removed part key es (sym (ap is_some (find-miss part key e es other)) ∙ h) in
      let rest : left_in p (remove_entry (e ∷ es) part key) ≡ cond (e.part == p) 1 0 + left_in p
      (remove_entry es part key) = ap (left_in p) (remove-miss part key e es other) in
      omega (arith, later, rest))
      (cases_Bool (same_place e.part e.key part key))

  pub count_append : (es fs : List Entry) → left_in p (es ++ fs) ≡ left_in p es + left_in p fs
  count_append [] fs = omega arith
  count_append (e ∷ es) fs = omega (arith, count_append es fs)

  pub count_run : (part : ℕ) (rs : Records) → part ≡ p → left_in p (run_entries part rs) ≡ length rs
  count_run part [] h = refl
  count_run part (r ∷ rs) h = omega (arith, one_if part p h, count_run part rs h)

  pub none_in_run : (part : ℕ) (rs : Records) → part ≢ p → left_in p (run_entries part rs) ≡ 0
  none_in_run part [] h = refl
  none_in_run part (r ∷ rs) h = omega (arith, none_if part p h, none_in_run part rs h)

  -- a count of 0 and no entry of the partition are one
  pub none_counted : (es : List Entry) → AllByRecursion (λ e. e.part ≢ p) es → left_in p es ≡ 0
  none_counted [] h = refl
  none_counted (e ∷ es) h = omega (arith, none_if e.part p h.0, none_counted es h.1)

  pub none_left : (es : List Entry) → left_in p es ≡ 0 → AllByRecursion (λ e. e.part ≢ p) es
  none_left [] h = tt
  none_left (e ∷ es) h = (
    (λ same. let one : ◌≡◌ {A = ℕ} (cond (e.part == p) 1 0) 1 = one_if e.part p same in
        absurd (omega (arith, one, h))),
    none_left es (omega (arith, h)),
  )
