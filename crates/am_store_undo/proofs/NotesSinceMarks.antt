-- Notes since marks.
use Rattle.std.proofs.Common.{◌≡◌, ◌≤◌, ◌-◌, ℕ, List, [], ◌∷◌, ◌++◌, length, take, drop, Bool, true, refl, sym, ap}
use Rattle.std.proofs.Common.{◌∙◌, subst, Option, arith}
use Rattle.std.specs.List.{AllByRecursion}
use Rattle.std.specs.FinMap.{get}
use Rattle.std.proofs.lemmas.List.{take-append-drop}
use Rattle.std.proofs.lemmas.List.Folds.{list_any-append}
use Rattle.std.proofs.lemmas.Bool.{or_left}
use Rattle.am_record.specs.OrderedKey.{OrderedKey}
use Rattle.am_record.specs.Plain.{PlainMap}
use Rattle.am_record.specs.declared.entry.Entry.{Entry}
use Rattle.am_record.proofs.Lists.{AllByRecursion-back}
use Rattle.am_record.proofs.Newest.{since-new, since-none, since-until, length-until, since-older}
use Rattle.am_index.specs.Entries.{Slot, find, IsRising}
use Rattle.am_index.specs.Content.{content, OnePlace, live_value, HasOne}
use Rattle.am_index.proofs.Content.{content_has_one, has_one_along}
use Rattle.am_store_undo.specs.declared.note.Note.{Note}
use Rattle.am_store_undo.specs.Notes.{Slots, back_all, TakesBack, back_at, CanTakeBack}
use Rattle.am_store_undo.specs.Undo.{IsOwned, is_noted_run, Undoes}
use Rattle.am_record.specs.Marks.{since, until, since_mark, until_mark, older}
use Rattle.am_store_undo.specs.Marks.{UndoesEach, AllPairs, IsContentAt, SameOwned, MarkLaws}
use Rattle.am_store_undo.proofs.TakeBacks.{undo_laws}
use Rattle.am_store_undo.proofs.Slots.{back_none, owned_along}

-- ---- two lists of notes

back_all-append : (xs ys : List Note) (part : ℕ) (key : OrderedKey) (s : Option Slot) →
    back_all (xs ++ ys) part key s ≡ back_all ys part key (back_all xs part key s)
back_all-append [] ys part key s = refl
back_all-append (n ∷ xs) ys part key s = back_all-append xs ys part key _

can-append : (xs ys : List Note) (slots : Slots) → CanTakeBack (xs ++ ys) slots →
    CanTakeBack ys (λ part key. back_all xs part key (slots part key))
can-append [] ys slots can = can
can-append (n ∷ xs) ys slots can = can-append xs ys (back_at n slots) can.older

pub run_taken : (n : ℕ) (notes : List Note) (p : ℕ) → is_noted_run (take n notes) p ≡ true → is_noted_run notes p ≡ true
run_taken n notes p h = subst (λ (ns : List Note). is_noted_run ns p ≡ true) (take-append-drop n notes)
    (list_any-append _ (take n notes) (drop n notes) ∙ or_left (is_noted_run (take n notes) p)
    (is_noted_run (drop n notes) p) h)

-- ---- one list of notes

nothing_since : (es : List Entry) → IsRising es → OnePlace es →
    (owned : OrderedKey → Bool) (before : OrderedKey → Option (List ℕ)) →
    ((key : OrderedKey) → owned key ≡ true → before key ≡ get (content es) key) → Undoes es [] owned before
nothing_since es rising one owned before is = record {
  can = tt;
  owns = tt;
  restores = λ key h. subst (HasOne (λ p. live_value (find es p key))) (sym (is key h))
      (content_has_one es rising one key);
}

-- the newer notes were taken back
older_undo : (es es' : List Entry) (xs ys : List Note) (owned : OrderedKey → Bool) (before saved : OrderedKey →
    Option (List ℕ)) → Undoes es (xs ++ ys) owned before → Undoes es xs owned saved → TakesBack xs es es' →
    Undoes es' ys owned before
older_undo es es' xs ys owned before saved u v b =
    let slots : (λ (part : ℕ) (key : OrderedKey). back_all xs part key (find es part key)) ≡ find es' =
    λ i part key. sym (b.at part key) i in
    record {
      can = subst (CanTakeBack ys) slots (can-append xs ys (find es) u.can);
      owns = owned_along owned (find es) (find es') ys (λ p key run none. b.at p key ∙ ap (back_all xs p key) none ∙
          back_none xs (find es) p key v.can none) (AllByRecursion-back (IsOwned owned (find es)) xs ys u.owns);
      restores = λ key h. has_one_along (λ p. ap (λ s. live_value (back_all ys p key s)) (b.at p key) ∙
          ap live_value (sym (back_all-append xs ys p key (find es p key)))) (u.restores key h);
    }

-- ---- the notes since each mark

whole_of : (es : List Entry) (notes : List Note) (owned : OrderedKey → Bool) (before : PlainMap) (top : ℕ)
    (marks : List ℕ) (maps : List PlainMap) → UndoesEach es notes owned before top marks maps →
    Undoes es notes owned (λ key. get before key)
whole_of es notes owned before top [] [] u = u
whole_of es notes owned before top (mark ∷ marks) (m ∷ maps) u = whole_of es notes owned before mark marks maps u.1.1
whole_of es notes owned before top [] (m ∷ maps) u = absurd u
whole_of es notes owned before top (mark ∷ marks) [] u = absurd u

module _ (es es' : List Entry) (notes new : List Note) (owned owned' : OrderedKey → Bool) (R : PlainMap → PlainMap →
    Type 0)
    (keep : (part : List Note) (m m' : PlainMap) →
    ((p : ℕ) → is_noted_run part p ≡ true → is_noted_run notes p ≡ true) → R m m' →
    Undoes es part owned (λ key. get m key) → Undoes es' (new ++ part) owned' (λ key. get m' key)) where
  each_kept : (before before' : PlainMap) (top top' : ℕ) (marks : List ℕ) (maps maps' : List PlainMap) →
      top ≤ length notes → top ≤ top' → AllPairs R maps maps' → R before before' → UndoesEach es notes owned before top
      marks maps → UndoesEach es' (new ++ notes) owned' before' top' marks maps'
  each_kept before before' top top' [] [] [] l k a r u = keep notes before before' (λ p h. h) r u
  each_kept before before' top top' (mark ∷ marks) (m ∷ maps) (m' ∷ maps') l k a r u =
      let low : mark ≤ top = u.0 in (
        omega arith,
        (
          subst (λ (ns : List Note). Undoes es' ns owned' (λ key. get m' key))
              (sym (since-new new notes mark (omega arith)))
              (keep (since mark notes) m m' (λ p h. run_taken (length notes - mark) notes p h) a.0 u.1.0),
          each_kept before before' mark mark marks maps maps' (omega arith) (omega arith) a.1 r u.1.1,
        ),
      )
  each_kept before before' top top' [] (m ∷ maps) maps' l k a r u = absurd u
  each_kept before before' top top' (mark ∷ marks) [] maps' l k a r u = absurd u
  each_kept before before' top top' [] [] (m' ∷ maps') l k a r u = absurd a
  each_kept before before' top top' (mark ∷ marks) (m ∷ maps) [] l k a r u = absurd a

module _ (es es' : List Entry) (notes : List Note) (owned : OrderedKey → Bool) (before : PlainMap) (mark : ℕ)
    (low : mark ≤ length notes) (m : PlainMap) (v : Undoes es (since mark notes) owned (λ key. get m key))
    (b : TakesBack (since mark notes) es es') where
  each_older : (top : ℕ) (marks : List ℕ) (maps : List PlainMap) → top ≤ mark → UndoesEach es notes owned before top
      marks maps → UndoesEach es' (until mark notes) owned before top marks maps
  each_older top [] [] k u = older_undo es es' (since mark notes) (until mark notes) owned (λ key. get before key)
      (λ key. get m key) (subst (λ (ns : List Note). Undoes es ns owned (λ key. get before key))
      (sym (since-until notes mark)) u) v b
  each_older top (old ∷ marks) (n ∷ maps) k u =
      let less : old ≤ top = u.0 in (
        u.0,
        (
          older_undo es es' (since mark notes) (since old (until mark notes)) owned (λ key. get n key)
              (λ key. get m key) (subst (λ (ns : List Note). Undoes es ns owned (λ key. get n key))
              (since-older notes mark old low (omega arith)) u.1.0) v b,
          each_older old marks maps (omega arith) u.1.1,
        ),
      )
  each_older top [] (n ∷ maps) k u = absurd u
  each_older top (old ∷ marks) [] k u = absurd u

themselves : (P : PlainMap → Type 0) (maps : List PlainMap) → AllByRecursion P maps →
    AllPairs (λ m m'. (m ≡ m') × P m) maps maps
themselves P [] a = tt
themselves P (m ∷ maps) a = ((refl, a.0), themselves P maps a.1)

longer : (new notes : List Note) → length notes ≤ length (new ++ notes)
longer [] notes = omega arith
longer (n ∷ new) notes = let ih = longer new notes in omega arith

module _ (es : List Entry) (notes : List Note) (owned : OrderedKey → Bool) (before : PlainMap) (rising : IsRising es)
    (one : OnePlace es) where
  can_back_of : (marks : List ℕ) (maps : List PlainMap) → UndoesEach es notes owned before (length notes) marks maps →
      CanTakeBack (since_mark marks notes) (find es)
  can_back_of [] maps u = tt
  can_back_of (mark ∷ marks) (m ∷ maps) u = u.1.0.can
  can_back_of (mark ∷ marks) [] u = absurd u

  backed_of : (marks : List ℕ) (map : PlainMap) (rest : List PlainMap) (es' : List Entry) →
      UndoesEach es notes owned before (length notes) marks (map ∷ rest) → TakesBack (since_mark marks notes) es es' →
      Undoes es (since_mark marks notes) owned (λ key. get map key) × UndoesEach es' (until_mark marks notes) owned
      before (length (until_mark marks notes)) (older marks) rest
  backed_of [] map rest es' u b = absurd u
  backed_of (mark ∷ marks) map rest es' u b = (
    u.1.0,
    subst (λ n. UndoesEach es' (until mark notes) owned before n marks rest) (sym (length-until notes mark u.0))
        (each_older es es' notes owned before mark u.0 map u.1.0 b mark marks rest (omega arith) u.1.1),
  )

  pub mark_laws : (marks : List ℕ) (maps : List PlainMap) → UndoesEach es notes owned before (length notes) marks maps →
      MarkLaws es notes owned before marks maps
  mark_laws marks maps u = record {
    whole = whole_of es notes owned before (length notes) marks maps u;
    can_back = can_back_of marks maps u;
    own = λ es' new owned' step a.
        each_kept es es' notes new owned owned' (λ m m'. (m ≡ m') × IsContentAt es owned owned' m)
        (λ part m m' less r v. subst (λ (x : PlainMap). Undoes es' (new ++ part) owned' (λ key. get x key)) r.0
        (step part m r.1 v))
        before before (length notes) (length (new ++ notes)) marks maps maps (omega arith) (longer new notes)
        (themselves (IsContentAt es owned owned') maps a.1) (refl, a.0) u;
    others = λ es' before' maps' one' leaves a.
        each_kept es es' notes [] owned owned (SameOwned owned)
        (λ part m m' less r v. (undo_laws es part owned (λ key. get m key) rising one v).others es' (λ key. get m' key)
        one' (record { same = leaves.same; runs = λ p key h. leaves.runs p key (less p h) }) r)
        before before' (length notes) (length notes) marks maps maps' (omega arith) (omega arith) a.1 a.0 u;
    marked = λ map is. (
      omega arith,
      (
        subst (λ (ns : List Note). Undoes es ns owned (λ key. get map key))
            (sym (since-none notes)) (nothing_since es rising one owned (λ key. get map key) is),
        u,
      ),
    );
    backed = λ es' map rest are b. backed_of marks map rest es'
        (subst (UndoesEach es notes owned before (length notes) marks) are u) b;
  }
