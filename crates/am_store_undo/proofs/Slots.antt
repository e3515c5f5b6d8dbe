-- What stands at each place while notes are taken back.
use Rattle.std.proofs.Common.{◌≡◌, ◌≢◌, ℕ, List, [], ◌∷◌, Bool, true, false, cond, Option, Some, None, refl, sym, ap}
use Rattle.std.proofs.Common.{◌∙◌, subst, ◌⊎◌, inl, inr, ⊎_elim}
use Rattle.std.specs.Prelude.{IsSome, is_some, ◌==◌, ◌||◌}
use Rattle.std.specs.List.{AllByRecursion}
use Rattle.std.proofs.lemmas.Bool.{cases_Bool, cond-false, both_ways, false≢true, eqb-true, or_right}
use Rattle.std.proofs.lemmas.Option.{none-some}
use Rattle.std.proofs.lemmas.Cmp.{nat_eq_equiv}
use Rattle.am_record.specs.OrderedKey.{OrderedKey}
use Rattle.am_record.specs.EntryOrder.{Place}
use Rattle.am_index.specs.Entries.{Slot}
use Rattle.am_index.specs.Edits.{same_place}
use Rattle.am_index.specs.Content.{live_value}
use Rattle.am_index.proofs.Edits.{one_place, other_key}
use Rattle.am_store_undo.specs.declared.note.Note.{Note}
use Rattle.am_store_undo.specs.declared.note.Note.TheVariants.{New, Before, RunMade}
use Rattle.am_store_undo.specs.Notes.{Slots, ghosted, back_one, back_all, back_at, Stands, OneLive, CanTakeBack}
use Rattle.am_store_undo.specs.Undo.{IsOwned, is_noted_run}

pub ghosted_dead : (o : Option Slot) → live_value (ghosted o) ≡ None
ghosted_dead None = refl
ghosted_dead (Some s) = refl

-- a note that makes ghosts makes none where nothing stands, and nothing live
either_none : (b : Bool) (o : Option Slot) → o ≡ None → cond b (ghosted o) o ≡ None
either_none true o h = ap ghosted h
either_none false o h = h

either_dead : (b : Bool) (o : Option Slot) → live_value o ≡ None → live_value (cond b (ghosted o) o) ≡ None
either_dead true o h = ghosted_dead o
either_dead false o h = h

-- what stands at a place doesn't lack there
lacking : (slots : Slots) (part : ℕ) (key : OrderedKey) (p : ℕ) (k : OrderedKey) → IsSome (slots p k) →
    slots part key ≡ None → same_place part key p k ≡ false
lacking slots part key p k stands none =
    ⊎_elim
    (λ yes. absurd (false≢true (sym (ap is_some none) ∙ ap (λ (q : Place). is_some (slots q.0 q.1))
    (one_place (part, key) (p, k) yes) ∙ stands)))
    (λ no. no)
    (cases_Bool (same_place part key p k))

-- where nothing stands, taking one note back makes nothing, and nothing live
pub one_none : (n : Note) (slots : Slots) (part : ℕ) (key : OrderedKey) → Stands n slots → slots part key ≡ None →
    (s : Option Slot) → s ≡ None → back_one n part key s ≡ None
one_none (New k) slots part key stands none s h = either_none (same_place part key 0 k) s h
one_none (Before p k value is_ghost) slots part key stands none s h = cond-false (same_place part key p k)
    (Some (value, is_ghost)) s (lacking slots part key p k stands none) ∙ h
one_none (RunMade p) slots part key stands none s h = either_none (part == p) s h

one_dead : (n : Note) (slots : Slots) (part : ℕ) (key : OrderedKey) → Stands n slots → slots part key ≡ None →
    (s : Option Slot) → live_value s ≡ None → live_value (back_one n part key s) ≡ None
one_dead (New k) slots part key stands none s h = either_dead (same_place part key 0 k) s h
one_dead (Before p k value is_ghost) slots part key stands none s h =
    ap live_value (cond-false (same_place part key p k) (Some (value, is_ghost)) s
    (lacking slots part key p k stands none)) ∙ h
one_dead (RunMade p) slots part key stands none s h = either_dead (part == p) s h

-- and so it is with all of them
pub back_none : (notes : List Note) (slots : Slots) (part : ℕ) (key : OrderedKey) → CanTakeBack notes slots →
    slots part key ≡ None → back_all notes part key None ≡ None
back_none [] slots part key can none = refl
back_none (n ∷ notes) slots part key can none =
    ap (back_all notes part key) (one_none n slots part key can.stands none None refl)
    ∙ back_none notes (back_at n slots) part key can.older
    (one_none n slots part key can.stands none (slots part key) none)

pub back_dead : (notes : List Note) (slots : Slots) (part : ℕ) (key : OrderedKey) → CanTakeBack notes slots →
    slots part key ≡ None → (s : Option Slot) → live_value s ≡ None → live_value (back_all notes part key s) ≡ None
back_dead [] slots part key can none s h = h
back_dead (n ∷ notes) slots part key can none s h =
    back_dead notes (back_at n slots) part key can.older
    (one_none n slots part key can.stands none (slots part key) none)
    (back_one n part key s) (one_dead n slots part key can.stands none s h)

-- ---- ghosts where nothing stood

-- the second is the first, but for ghosts where nothing stands
pub record MoreGhosts (a b : Slots) : Type 0 where
  pub at : (part : ℕ) (key : OrderedKey) → (b part key ≡ a part key) ⊎
      ((a part key ≡ None) × (live_value (b part key) ≡ None))

one_more : (a b : Slots) → MoreGhosts a b → OneLive a → OneLive b
one_more a b more one = record { one = λ key p p' v v' h h'. one.one key p p' v v' (was p key v h) (was p' key v' h') }
  where
    was : (p : ℕ) (key : OrderedKey) (v : List ℕ) → b p key ≡ Some (v, false) → a p key ≡ Some (v, false)
    was p key v h = ⊎_elim (λ same. sym same ∙ h) (λ new. absurd (none-some v (sym new.1 ∙ ap live_value h)))
        (more.at p key)

stands_more : (n : Note) (a b : Slots) → MoreGhosts a b → Stands n a → Stands n b
stands_more (New k) a b more stands = ⊎_elim (λ same. ap is_some same ∙ stands)
    (λ new. absurd (false≢true (sym (ap is_some new.0) ∙ stands))) (more.at 0 k)
stands_more (Before p k value is_ghost) a b more stands =
    ⊎_elim (λ same. ap is_some same ∙ stands) (λ new. absurd (false≢true (sym (ap is_some new.0) ∙ stands)))
    (more.at p k)
stands_more (RunMade p) a b more stands = tt

back_more : (n : Note) (a b : Slots) → Stands n a → MoreGhosts a b → MoreGhosts (back_at n a) (back_at n b)
back_more n a b stands more = record {
  at = λ part key.
      ⊎_elim
      (λ same. inl (ap (back_one n part key) same))
      (λ new. inr (
        one_none n a part key stands new.0 (a part key) new.0,
        one_dead n a part key stands new.0 (b part key) new.1,
      ))
      (more.at part key);
}

can_more : (notes : List Note) (a b : Slots) → MoreGhosts a b → CanTakeBack notes a → CanTakeBack notes b
can_more [] a b more can = tt
can_more (n ∷ notes) a b more can =
    let after = back_more n a b can.stands more in
    record {
      stands = stands_more n a b more can.stands;
      one = one_more (back_at n a) (back_at n b) after can.one;
      older = can_more notes (back_at n a) (back_at n b) after can.older;
    }

-- a note whose taking back gives what stood before, but for ghosts where nothing stood
pub can_note : (n : Note) (notes : List Note) (a b : Slots) → Stands n b → MoreGhosts a (back_at n b) → OneLive a →
    CanTakeBack notes a → CanTakeBack (n ∷ notes) b
can_note n notes a b stands more one can = record {
  stands = stands;
  one = one_more a (back_at n b) more one;
  older = can_more notes a (back_at n b) more can;
}

pub same_value : (notes : List Note) (a b : Slots) → CanTakeBack notes a → MoreGhosts a b →
    (part : ℕ) (key : OrderedKey) → live_value (back_all notes part key (b part key)) ≡ live_value
    (back_all notes part key (a part key))
same_value notes a b can more part key =
    ⊎_elim
    (λ same. ap (λ s. live_value (back_all notes part key s)) same)
    (λ new.
    back_dead notes a part key can new.0 (b part key) new.1
    ∙ sym (back_dead notes a part key can new.0 (a part key) (ap live_value new.0)))
    (more.at part key)

-- ---- keys that aren't owned

module _ (owned : OrderedKey → Bool) where
  apart_keys : (q k : OrderedKey) → owned q ≡ false → owned k ≡ true → q ≢ k
  apart_keys q k h h' e = both_ways (owned q) h (subst (λ x. owned x ≡ true) (sym e) h')

  pub other_place : (part p : ℕ) (q k : OrderedKey) → owned q ≡ false → owned k ≡ true → same_place part q p k ≡ false
  other_place part p q k h h' = other_key part p q k (apart_keys q k h h')

  one_left : (n : Note) (slots : Slots) → IsOwned owned slots n → (key : OrderedKey) → owned key ≡ false → (part : ℕ) →
      back_one n part key (slots part key) ≡ slots part key
  one_left (New k) slots own key h part = cond-false (same_place part key 0 k) (ghosted (slots part key))
      (slots part key) (other_place part 0 key k h own)
  one_left (Before p k value is_ghost) slots own key h part = cond-false (same_place part key p k)
      (Some (value, is_ghost)) (slots part key) (other_place part p key k h own)
  one_left (RunMade p) slots own key h part =
      ⊎_elim
      (λ yes. let none : slots part key ≡ None = ap (λ r. slots r key) (eqb-true part p yes) ∙ own key h in
      either_none (part == p) (slots part key) none ∙ sym none)
      (λ no. cond-false (part == p) (ghosted (slots part key)) (slots part key) no)
      (cases_Bool (part == p))

  -- back at every place, an owner's note stays one
  owned_step : (n : Note) (slots : Slots) → IsOwned owned slots n → (m : Note) → IsOwned owned slots m →
      IsOwned owned (back_at n slots) m
  owned_step n slots own (New k) h = h
  owned_step n slots own (Before p k value is_ghost) h = h
  owned_step n slots own (RunMade p) h = λ key not. one_left n slots own key not p ∙ h key not

  pub all_owned : (P Q : Note → Type 0) → ((m : Note) → P m → Q m) → (notes : List Note) → AllByRecursion P notes →
      AllByRecursion Q notes
  all_owned P Q f [] own = tt
  all_owned P Q f (n ∷ notes) own = (f n own.0, all_owned P Q f notes own.1)

  owned_back : (n : Note) (slots : Slots) (notes : List Note) → AllByRecursion (IsOwned owned slots) (n ∷ notes) →
      AllByRecursion (IsOwned owned (back_at n slots)) notes
  owned_back n slots notes own = all_owned (IsOwned owned slots) (IsOwned owned (back_at n slots))
      (owned_step n slots own.0) notes own.1

  -- another's key stands as it stood when all notes are taken back
  pub all_left : (notes : List Note) (slots : Slots) → AllByRecursion (IsOwned owned slots) notes → (key : OrderedKey) →
      owned key ≡ false → (part : ℕ) → back_all notes part key (slots part key) ≡ slots part key
  all_left [] slots own key h part = refl
  all_left (n ∷ notes) slots own key h part = all_left notes (back_at n slots) (owned_back n slots notes own) key h
      part ∙ one_left n slots own.0 key h part

  -- what is told of an owner's runs goes on while nothing is added to them
  pub owned_along : (a b : Slots) (notes : List Note) →
      ((p : ℕ) (key : OrderedKey) → is_noted_run notes p ≡ true → a p key ≡ None → b p key ≡ None)
      → AllByRecursion (IsOwned owned a) notes → AllByRecursion (IsOwned owned b) notes
  owned_along a b [] same own = tt
  owned_along a b (New k ∷ notes) same own = (own.0, owned_along a b notes same own.1)
  owned_along a b (Before p k value is_ghost ∷ notes) same own = (own.0, owned_along a b notes same own.1)
  owned_along a b (RunMade p ∷ notes) same own = (
    λ key h. same p key (ap (λ t. t || is_noted_run notes p) (nat_eq_equiv.refl p)) (own.0 key h),
    owned_along a b notes (λ q key r. same q key (or_right (q == p) (is_noted_run notes q) r)) own.1,
  )

  -- others may change the keys that aren't owned
  pub can_others : (notes : List Note) (a b : Slots) →
      ((key : OrderedKey) → owned key ≡ true → (part : ℕ) → b part key ≡ a part key) → OneLive b
      → AllByRecursion (IsOwned owned b) notes → CanTakeBack notes a → CanTakeBack notes b
  can_others [] a b same one own can = tt
  can_others (n ∷ notes) a b same one own can =
      let one' : OneLive (back_at n b) = one_after in
      record {
        stands = stands n own.0 can.stands;
        one = one';
        older = can_others notes (back_at n a) (back_at n b) same_after one' (owned_back n b notes own) can.older;
      }
    where
      same_after : (key : OrderedKey) → owned key ≡ true → (part : ℕ) → back_at n b part key ≡ back_at n a part key
      same_after key h part = ap (back_one n part key) (same key h part)

      stands : (n : Note) → IsOwned owned b n → Stands n a → Stands n b
      stands (New k) own there = ap is_some (same k own 0) ∙ there
      stands (Before p k value is_ghost) own there = ap is_some (same k own p) ∙ there
      stands (RunMade p) own there = tt

      one_after : OneLive (back_at n b)
      one_after = record {
        one = λ key p p' v v' h h'.
            ⊎_elim
            (λ mine. can.one.one key p p' v v' (sym (same_after key mine p) ∙ h) (sym (same_after key mine p') ∙ h'))
            (λ not. one.one key p p' v v' (sym (one_left n b own.0 key not p) ∙ h)
            (sym (one_left n b own.0 key not p') ∙ h'))
            (cases_Bool (owned key));
      }
