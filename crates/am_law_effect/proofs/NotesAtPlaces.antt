-- What notes do at one place, and notes since marks.
use Rattle.std.proofs.Common.{◌≡◌, ℕ, List, [], ◌∷◌, ◌++◌, Bool, true, false, cond, refl, sym, ap, ◌∙◌, subst}
use Rattle.std.proofs.Common.{⊎_elim, ◌⊎◌, inl, inr, Option, Some, None}
use Rattle.std.specs.Prelude.{◌==◌, take, drop}
use Rattle.std.specs.List.{AllByRecursion}
use Rattle.std.specs.Ordering.{eq_by_cmp}
use Rattle.std.proofs.lemmas.Bool.{cases_Bool, cond-true, cond-false, both_ways, or_parts, or_left, or_right}
use Rattle.std.proofs.lemmas.Bool.{false_from_ne_true}
use Rattle.std.proofs.lemmas.List.Folds.{list_any-append}
use Rattle.std.proofs.lemmas.List.{take-append-drop}
use Rattle.am_record.specs.OrderedKey.{OrderedKey}
use Rattle.am_record.specs.EntryOrder.{Place, place_cmp}
use Rattle.am_index.specs.Entries.{Slot}
use Rattle.am_index.proofs.Edits.{one_place}
use Rattle.am_store_undo.specs.declared.note.Note.{Note}
use Rattle.am_store_undo.specs.declared.note.Note.TheVariants.{New, Before, RunMade}
use Rattle.am_store_undo.specs.Notes.{ghosted}
use Rattle.am_store_undo.specs.Notes as notes_of
use Rattle.am_store_undo.specs.Undo.{is_noted_run}
use Rattle.am_law_effect.specs.Laws.{IsOfKey}

-- what stands at a place when a note, or all notes, are taken back
abbrev pub back_one : Note → Place → Option Slot → Option Slot
back_one n a s = notes_of.back_one n a.0 a.1 s

abbrev pub back : List Note → Place → Option Slot → Option Slot
back notes a s = notes_of.back_all notes a.0 a.1 s

pub some_none : (x : Slot) → Some x ≡ None → ⊥
some_none x e = cc

pub some_or_none : (o : Option Slot) → (o ≡ None) ⊎ ((s : Slot) × (o ≡ Some s))
some_or_none None = inl refl
some_or_none (Some s) = inr (s, refl)

-- what stands is left standing
pub one_some : (n : Note) (a : Place) (s : Slot) → (s' : Slot) × (back_one n a (Some s) ≡ Some s')
one_some (New k) a s = ⊎_elim (λ yes. ((s.0, true), cond-true _ (Some (s.0, true)) (Some s) yes))
    (λ not. (s, cond-false _ (Some (s.0, true)) (Some s) not)) (cases_Bool (eq_by_cmp place_cmp a (0, k)))
one_some (Before p k v g) a s = ⊎_elim (λ yes. ((v, g), cond-true _ (Some (v, g)) (Some s) yes))
    (λ not. (s, cond-false _ (Some (v, g)) (Some s) not)) (cases_Bool (eq_by_cmp place_cmp a (p, k)))
one_some (RunMade p) a s = ⊎_elim (λ yes. ((s.0, true), cond-true _ (Some (s.0, true)) (Some s) yes))
    (λ not. (s, cond-false _ (Some (s.0, true)) (Some s) not)) (cases_Bool (a.0 == p))

pub back_some : (notes : List Note) (a : Place) (s : Slot) → (s' : Slot) × (back notes a (Some s) ≡ Some s')
back_some [] a s = (s, refl)
back_some (n ∷ notes) a s = let x = one_some n a s in let y = back_some notes a x.0 in
    (y.0, ap (back notes a) x.1 ∙ y.1)

-- nothing stood where nothing stands after
pub none_before : (notes : List Note) (a : Place) (o : Option Slot) → back notes a o ≡ None → o ≡ None
none_before notes a None h = refl
none_before notes a (Some s) h = let y = back_some notes a s in absurd (some_none y.0 (sym y.1 ∙ h))

-- where nothing is put back, a note makes no difference to a ghost
ghost_one : (n : Note) (a : Place) (v : List ℕ) → back_one n a None ≡ None → back_one n a (Some (v, true)) ≡ Some
    (v, true)
ghost_one (New k) a v h = ⊎_elim (λ yes. cond-true _ (Some (v, true)) (Some (v, true)) yes)
    (λ not. cond-false _ (Some (v, true)) (Some (v, true)) not) (cases_Bool (eq_by_cmp place_cmp a (0, k)))
ghost_one (Before p k w g) a v h = ⊎_elim (λ yes. absurd
    (some_none (w, g) (sym (cond-true _ (Some (w, g)) None yes) ∙ h)))
    (λ not. cond-false _ (Some (w, g)) (Some (v, true)) not) (cases_Bool (eq_by_cmp place_cmp a (p, k)))
ghost_one (RunMade p) a v h = ⊎_elim (λ yes. cond-true _ (Some (v, true)) (Some (v, true)) yes)
    (λ not. cond-false _ (Some (v, true)) (Some (v, true)) not) (cases_Bool (a.0 == p))

pub ghost_stays : (notes : List Note) (a : Place) (v : List ℕ) → back notes a None ≡ None →
    back notes a (Some (v, true)) ≡ Some (v, true)
ghost_stays [] a v h = refl
ghost_stays (n ∷ notes) a v h =
    let none = none_before notes a (back_one n a None) h in
    ap (back notes a) (ghost_one n a v none) ∙ ghost_stays notes a v (sym (ap (back notes a) none) ∙ h)

pub ghosted_stays : (notes : List Note) (a : Place) (o : Option Slot) → back notes a None ≡ None →
    back notes a (ghosted o) ≡ ghosted o
ghosted_stays notes a None h = h
ghosted_stays notes a (Some s) h = ghost_stays notes a s.0 h

-- ---- two lists of notes

pub back-append : (xs ys : List Note) (a : Place) (o : Option Slot) → back (xs ++ ys) a o ≡ back ys a (back xs a o)
back-append [] ys a o = refl
back-append (n ∷ xs) ys a o = back-append xs ys a (back_one n a o)

pub run_later : (xs ys : List Note) (p : ℕ) → is_noted_run ys p ≡ true → is_noted_run (xs ++ ys) p ≡ true
run_later xs ys p h = list_any-append _ xs ys ∙ or_right (is_noted_run xs p) (is_noted_run ys p) h

pub run_before : (xs ys : List Note) (p : ℕ) → is_noted_run xs p ≡ true → is_noted_run (xs ++ ys) p ≡ true
run_before xs ys p h = list_any-append _ xs ys ∙ or_left (is_noted_run xs p) (is_noted_run ys p) h

pub run_dropped : (n : ℕ) (notes : List Note) (p : ℕ) → is_noted_run (drop n notes) p ≡ true →
    is_noted_run notes p ≡ true
run_dropped n notes p h = subst (λ ns. is_noted_run ns p ≡ true) (take-append-drop n notes)
    (run_later (take n notes) (drop n notes) p h)

-- ---- the keys of notes

owned_more_one : (n : Note) (owned owned' : OrderedKey → Bool) → ((q : OrderedKey) → owned q ≡ true → owned' q ≡ true) →
    IsOfKey owned n → IsOfKey owned' n
owned_more_one (New k) owned owned' more h = more k h
owned_more_one (Before p k v g) owned owned' more h = more k h
owned_more_one (RunMade p) owned owned' more h = tt

pub owned_more : (notes : List Note) (owned owned' : OrderedKey → Bool) →
    ((q : OrderedKey) → owned q ≡ true → owned' q ≡ true) → AllByRecursion (IsOfKey owned) notes →
    AllByRecursion (IsOfKey owned') notes
owned_more [] owned owned' more h = tt
owned_more (n ∷ notes) owned owned' more h = (
  owned_more_one n owned owned' more h.0,
  owned_more notes owned owned' more h.1,
)

module _ (owned : OrderedKey → Bool) where
  other_key : (p r : ℕ) (q k : OrderedKey) → owned q ≡ false → owned k ≡ true → eq_by_cmp place_cmp (p, q) (r, k) ≡
      false
  other_key p r q k h own = false_from_ne_true _
      (λ e. both_ways (owned q) h (subst (λ (a : Place). owned a.1 ≡ true) (sym (one_place (p, q) (r, k) e)) own))

  -- at a key that isn't owned a note does nothing, or makes a ghost
  one_leaves : (n : Note) → IsOfKey owned n → (q : OrderedKey) → owned q ≡ false → (p : ℕ) (s : Option Slot) →
      (is_noted_run (n ∷ []) p ≡ false) ⊎ (s ≡ None) → back_one n (p, q) s ≡ s
  one_leaves (New k) own q h p s side = cond-false _ (ghosted s) s (other_key p 0 q k h own)
  one_leaves (Before r k v g) own q h p s side = cond-false _ (Some (v, g)) s (other_key p r q k h own)
  one_leaves (RunMade r) own q h p s side = ⊎_elim
      (λ not. cond-false (p == r) (ghosted s) s (or_parts (p == r) false not).0)
      (λ none. by_bool (p == r) s none)
      side
    where
      by_bool : (b : Bool) (s : Option Slot) → s ≡ None → cond b (ghosted s) s ≡ s
      by_bool true s e = ap ghosted e ∙ sym e
      by_bool false s e = refl

  pub unowned_leaves : (notes : List Note) → AllByRecursion (IsOfKey owned) notes → (q : OrderedKey) → owned q ≡ false →
      (p : ℕ) (s : Option Slot) → (is_noted_run notes p ≡ false) ⊎ (s ≡ None) → back notes (p, q) s ≡ s
  unowned_leaves [] own q h p s side = refl
  unowned_leaves (n ∷ notes) own q h p s side =
      let one : back_one n (p, q) s ≡ s = one_leaves n own.0 q h p s
      (⊎_elim (λ not. inl (run_head n notes p not)) (λ none. inr none) side) in
      ap (back notes (p, q)) one ∙ unowned_leaves notes own.1 q h p s
      (⊎_elim (λ not. inl (run_tail n notes p not)) (λ none. inr none) side)
    where
      run_head : (n : Note) (notes : List Note) (p : ℕ) → is_noted_run (n ∷ notes) p ≡ false →
          is_noted_run (n ∷ []) p ≡ false
      run_head n notes p h = false_from_ne_true _ (λ e. both_ways _ h (run_before (n ∷ []) notes p e))

      run_tail : (n : Note) (notes : List Note) (p : ℕ) → is_noted_run (n ∷ notes) p ≡ false →
          is_noted_run notes p ≡ false
      run_tail n notes p h = false_from_ne_true _ (λ e. both_ways _ h (run_later (n ∷ []) notes p e))
