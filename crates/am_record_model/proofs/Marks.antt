-- What the notes since each mark lead back to.
use Rattle.std.proofs.Common.{◌≡◌, ℕ, suc, ◌-◌, ◌≤◌, false, List, [], ◌∷◌, ◌++◌, length, take, map, Option, Some, arith}
use Rattle.std.proofs.Common.{drop, refl, sym, ap, ◌∙◌, subst}
use Rattle.std.specs.Prelude.{is_some}
use Rattle.std.specs.Option.{option_flatten}
use Rattle.std.specs.List.{AllByRecursion}
use Rattle.std.specs.FinMap.{get, insert, empty}
use Rattle.std.proofs.lemmas.Bool.{true≢false}
use Rattle.am_record.specs.OrderedKey.{OrderedKey}
use Rattle.am_record.specs.Plain.{Draft, PlainMap, draft_back, fresh}
use Rattle.am_record.proofs.Newest.{length-until, since-older}
use Rattle.am_record_model.specs.declared.note.Note.{Note}
use Rattle.am_record_model.specs.Slots.{Cell, Cells, live, with_cell}
use Rattle.am_record_model.specs.Notes.{undone, all_undone, NoteHasPlace, CanUndo}
use Rattle.am_record.specs.Marks.{since, until, since_mark, until_mark, older, has_mark}
use Rattle.am_record_model.specs.Marks.{DraftLog, draft, AreFalling, IsUndoable}
use Rattle.am_record_model.proofs.Live.{live_empty, live_put, put_again, got_there}

-- ---- lists of notes

since_more : (n : Note) (notes : List Note) (mark : ℕ) → mark ≤ length notes → since mark (n ∷ notes) ≡ n ∷ since mark
    notes
since_more n notes mark low = let e : length (n ∷ notes) - mark ≡ suc (length notes - mark) = omega arith in
    ap (λ k. take k (n ∷ notes)) e

back_twice : (xs ys : List Note) (slots : Cells) → all_undone (xs ++ ys) slots ≡ all_undone ys (all_undone xs slots)
back_twice [] ys slots = refl
back_twice (n ∷ xs) ys slots = back_twice xs ys (undone n slots)

can_later : (xs ys : List Note) (slots : Cells) → CanUndo (xs ++ ys) slots → CanUndo ys (all_undone xs slots)
can_later [] ys slots can = can
can_later (n ∷ xs) ys slots can = can_later xs ys (undone n slots) can.1

-- ---- drafts

abbrev saved_at : List Note → Cells → ℕ → PlainMap
saved_at notes slots mark = live (all_undone (since mark notes) slots)

abbrev draft_at : Cells → List Note → List ℕ → Draft
draft_at slots notes marks = record { map = live slots; saved = map (saved_at notes slots) marks }

abbrev CanEach : List Note → Cells → List ℕ → Type 0
CanEach notes slots marks = AllByRecursion (λ mark. CanUndo (since mark notes) slots) marks

-- a key is changed, and what was there is noted
module _ (slots : Cells) (notes : List Note) (k : OrderedKey) (slot : Cell) where
  abbrev note : Note
  note = record { key = k; before = get slots k }

  abbrev changed : Cells
  changed = insert slots k slot

  as_before : undone note changed ≡ slots
  as_before = put_again slots k (Some slot)

  same_saved : (marks : List ℕ) (top : ℕ) → top ≤ length notes → AreFalling top marks →
      map (saved_at (note ∷ notes) changed) marks ≡ map (saved_at notes slots) marks
  same_saved [] top low falling = refl
  same_saved (m ∷ ms) top low falling =
      let le : m ≤ length notes = omega (arith, falling.0) in
      let here : saved_at (note ∷ notes) changed m ≡ saved_at notes slots m =
      ap (λ (ns : List Note). live (all_undone ns changed)) (since_more note notes m le) ∙
      ap (λ s. live (all_undone (since m notes) s)) as_before in
      ap (λ x. x ∷ map (saved_at (note ∷ notes) changed) ms) here ∙ ap (λ xs. saved_at notes slots m ∷ xs)
      (same_saved ms m le falling.1)

  has_place : NoteHasPlace note changed
  has_place some = ap is_some (got_there slots k slot)

  can_each : (marks : List ℕ) (top : ℕ) → top ≤ length notes → AreFalling top marks → CanEach notes slots marks →
      CanEach (note ∷ notes) changed marks
  can_each [] top low falling can = tt
  can_each (m ∷ ms) top low falling can =
      let le : m ≤ length notes = omega (arith, falling.0) in (
        subst (λ (ns : List Note). CanUndo ns changed) (sym (since_more note notes m le))
            (has_place, subst (CanUndo (since m notes)) (sym as_before) can.0),
        can_each ms m le falling.1 can.1,
      )

  noted_at : (marks : List ℕ) → AreFalling (length notes) marks → draft_at changed (note ∷ notes) marks ≡
      record { map = with_cell (live slots) k slot; saved = map (saved_at notes slots) marks }
  noted_at marks falling = λ i. record {
    map = live_put slots k (Some slot) i;
    saved = same_saved marks (length notes) (omega arith) falling i;
  }

higher : (top top' : ℕ) (marks : List ℕ) → top ≤ top' → AreFalling top marks → AreFalling top' marks
higher top top' [] le falling = tt
higher top top' (m ∷ ms) le falling = (omega (arith, falling.0), falling.1)

module _ (slots slots' : Cells) (log log' : DraftLog) (k : OrderedKey) (slot : Cell) (stand : IsUndoable slots log)
    (is : slots' ≡ insert slots k slot) (notes : log'.notes ≡ note slots log.notes k slot ∷ log.notes)
    (marks : log'.marks ≡ log.marks) where
  pub noted : draft slots' log' ≡ record { map = with_cell (live slots) k slot; saved = (draft slots log).saved }
  noted =
      ap (λ s. draft_at s log'.notes log'.marks) is ∙
      ap (λ (ns : List Note). draft_at (insert slots k slot) ns log'.marks) notes
      ∙ ap (draft_at (insert slots k slot) (note slots log.notes k slot ∷ log.notes)) marks ∙
      noted_at slots log.notes k slot log.marks stand.falling

  pub noted_stand : IsUndoable slots' log'
  noted_stand = record {
    falling = subst (λ (ns : List Note). AreFalling (length ns) log'.marks) (sym notes)
        (subst (AreFalling (suc (length log.notes))) (sym marks)
        (higher (length log.notes) (suc (length log.notes)) log.marks (omega arith) stand.falling));
    can = subst (λ s. CanEach log'.notes s log'.marks) (sym is)
        (subst (λ (ns : List Note). CanEach ns (insert slots k slot) log'.marks) (sym notes)
        (subst (CanEach (note slots log.notes k slot ∷ log.notes) (insert slots k slot)) (sym marks)
        (can_each slots log.notes k slot log.marks (length log.notes) (omega arith) stand.falling stand.can)));
  }

-- a key is changed where no mark stands
none_saved : (f g : ℕ → PlainMap) (marks : List ℕ) → has_mark marks ≡ false → map f marks ≡ map g marks
none_saved f g [] h = refl
none_saved f g (m ∷ ms) h = absurd (true≢false h)

pub unnoted : (slots slots' : Cells) (log : DraftLog) (k : OrderedKey) (o : Option Cell) → has_mark log.marks ≡ false →
    slots' ≡ with_cell slots k o →
    draft slots' log ≡ record { map = with_cell (live slots) k (option_flatten o); saved = (draft slots log).saved }
unnoted slots slots' log k o none is = λ i. record {
  map = (ap live is ∙ live_put slots k o) i;
  saved = none_saved (saved_at log.notes slots') (saved_at log.notes slots) log.marks none i;
}

-- ---- back

module _ (slots : Cells) (notes : List Note) (k : ℕ) (low : k ≤ length notes) where
  abbrev backed : Cells
  backed = all_undone (since k notes) slots

  same_older : (marks : List ℕ) (top : ℕ) → top ≤ k → AreFalling top marks → map (saved_at (until k notes) backed)
      marks ≡ map (saved_at notes slots) marks
  same_older [] top le falling = refl
  same_older (m ∷ ms) top le falling =
      let under : m ≤ k = omega (arith, falling.0) in
      let here : saved_at (until k notes) backed m ≡ saved_at notes slots m =
      ap live (sym (back_twice (since k notes) (since m (until k notes)) slots) ∙
      ap (λ (ns : List Note). all_undone ns slots) (sym (since-older notes k m low under))) in
      ap (λ x. x ∷ map (saved_at (until k notes) backed) ms) here ∙ ap (λ xs. saved_at notes slots m ∷ xs)
      (same_older ms m under falling.1)

  can_older : (marks : List ℕ) (top : ℕ) → top ≤ k → AreFalling top marks → CanEach notes slots marks →
      CanEach (until k notes) backed marks
  can_older [] top le falling can = tt
  can_older (m ∷ ms) top le falling can =
      let under : m ≤ k = omega (arith, falling.0) in (
        can_later (since k notes) (since m (until k notes)) slots
            (subst (λ (ns : List Note). CanUndo ns slots) (since-older notes k m low under) can.0),
        can_older ms m under falling.1 can.1,
      )

back_at : (slots : Cells) (notes : List Note) (marks : List ℕ) → AreFalling (length notes) marks →
    draft_at (all_undone (since_mark marks notes) slots) (until_mark marks notes) (older marks) ≡ draft_back
    (map (saved_at notes slots) marks) (draft_at slots notes marks)
back_at slots notes [] falling = refl
back_at slots notes (k ∷ marks) falling = λ i. record {
  map = saved_at notes slots k;
  saved = same_older slots notes k falling.0 marks k (omega arith) falling.1 i;
}

back_falling : (notes : List Note) (marks : List ℕ) → AreFalling (length notes) marks →
    AreFalling (length (until_mark marks notes)) (older marks)
back_falling notes [] falling = tt
back_falling notes (k ∷ marks) falling = subst (λ n. AreFalling n marks) (sym (length-until notes k falling.0))
    falling.1

back_can : (slots : Cells) (notes : List Note) (marks : List ℕ) → AreFalling (length notes) marks →
    CanEach notes slots marks →
    CanEach (until_mark marks notes) (all_undone (since_mark marks notes) slots) (older marks)
back_can slots notes [] falling can = tt
back_can slots notes (k ∷ marks) falling can = can_older slots notes k falling.0 marks k (omega arith) falling.1 can.1

-- the caller's condition of back
pub can_back : (slots : Cells) (log : DraftLog) → IsUndoable slots log → CanUndo (since_mark log.marks log.notes) slots
can_back slots log stand = newest log.marks stand.can
  where
    newest : (marks : List ℕ) → CanEach log.notes slots marks → CanUndo (since_mark marks log.notes) slots
    newest [] can = tt
    newest (k ∷ marks) can = can.0

module _ (slots slots' : Cells) (log log' : DraftLog) (stand : IsUndoable slots log)
    (is : slots' ≡ all_undone (since_mark log.marks log.notes) slots)
    (notes : log'.notes ≡ until_mark log.marks log.notes) (marks : log'.marks ≡ older log.marks) where
  pub went_back_to : draft slots' log' ≡ draft_back (draft slots log).saved (draft slots log)
  went_back_to =
      ap (λ s. draft_at s log'.notes log'.marks) is ∙
      ap (λ (ns : List Note). draft_at (all_undone (since_mark log.marks log.notes) slots) ns log'.marks) notes
      ∙ ap (draft_at (all_undone (since_mark log.marks log.notes) slots) (until_mark log.marks log.notes)) marks ∙
      back_at slots log.notes log.marks stand.falling

  pub back_stand : IsUndoable slots' log'
  back_stand = record {
    falling = subst (λ (ns : List Note). AreFalling (length ns) log'.marks) (sym notes)
        (subst (AreFalling (length (until_mark log.marks log.notes))) (sym marks)
        (back_falling log.notes log.marks stand.falling));
    can = subst (λ s. CanEach log'.notes s log'.marks) (sym is)
        (subst (λ (ns : List Note). CanEach ns (all_undone (since_mark log.marks log.notes) slots) log'.marks)
        (sym notes)
        (subst (CanEach (until_mark log.marks log.notes) (all_undone (since_mark log.marks log.notes) slots))
        (sym marks) (back_can slots log.notes log.marks stand.falling stand.can)));
  }

-- a new map with a new log
pub new_draft : (slots : Cells) (log : DraftLog) → slots ≡ empty → log.marks ≡ [] → draft slots log ≡ fresh empty
new_draft slots log is none = ap (λ s. draft_at s log.notes log.marks) is ∙ ap (draft_at empty log.notes) none ∙
    ap (λ m. fresh m) live_empty

-- ---- the newest mark goes, and its notes stay

older_saved : (f : ℕ → PlainMap) (marks : List ℕ) → map f (older marks) ≡ drop 1 (map f marks)
older_saved f [] = refl
older_saved f (mark ∷ marks) = refl

older_falling : (top : ℕ) (marks : List ℕ) → AreFalling top marks → AreFalling top (older marks)
older_falling top [] falling = tt
older_falling top (mark ∷ marks) falling = higher mark top marks falling.0 falling.1

older_can : (notes : List Note) (slots : Cells) (marks : List ℕ) → CanEach notes slots marks →
    CanEach notes slots (older marks)
older_can notes slots [] can = tt
older_can notes slots (mark ∷ marks) can = can.1

module _ (slots : Cells) (log log' : DraftLog) (stand : IsUndoable slots log) (notes : log'.notes ≡ log.notes)
    (marks : log'.marks ≡ older log.marks) where
  pub unmarked : draft slots log' ≡ record { map = live slots; saved = drop 1 (draft slots log).saved }
  unmarked =
      ap (λ (ns : List Note). draft_at slots ns log'.marks) notes ∙ ap (draft_at slots log.notes) marks ∙
      ap (λ (ms : List PlainMap). record { map = live slots; saved = ms })
      (older_saved (saved_at log.notes slots) log.marks)

  pub unmarked_stand : IsUndoable slots log'
  unmarked_stand = record {
    falling = subst (λ (ns : List Note). AreFalling (length ns) log'.marks) (sym notes)
        (subst (AreFalling (length log.notes)) (sym marks) (older_falling (length log.notes) log.marks stand.falling));
    can = subst (λ (ns : List Note). CanEach ns slots log'.marks) (sym notes)
        (subst (CanEach log.notes slots) (sym marks) (older_can log.notes slots log.marks stand.can));
  }
