-- The notes above a mark taken back one by one.
use Rattle.std.proofs.Common.{◌≡◌, ℕ, ◌<◌, ◌≤◌, List, [], ◌∷◌, ◌++◌, length, reverse, take, drop, arith, sym, ap, ◌∙◌}
use Rattle.std.proofs.Common.{subst, length-append}
use Rattle.std.proofs.lemmas.List.{drop-append-le, take-append-le, take-append-drop, reverse-append, append-nil}
use Rattle.std.proofs.Math.ListN.{drop_of_length-le}
use Rattle.am_record_model.specs.declared.note.Note.{Note}
use Rattle.am_record_model.specs.Slots.{Cells}
use Rattle.am_record_model.specs.Notes.{undone, all_undone, NoteHasPlace, CanUndo}

-- some of the notes above the mark were taken back, and those under it are untouched. The newest stand last
pub record Above (was : Cells) (items : List Note) (mark : ℕ) (left : List Note) (slots : Cells) : Type 0 where
  pub can : CanUndo (reverse (drop mark left)) slots
  pub leads : all_undone (reverse (drop mark left)) slots ≡ all_undone (reverse (drop mark items)) was
  pub kept : take mark left ≡ take mark items

module _ {was : Cells} {items : List Note} {mark : ℕ} {left : List Note} {slots : Cells}
    (a : Above was items mark left slots) where
  none_left : length left ≤ mark → drop mark left ≡ []
  none_left few = drop_of_length-le left few

  pub above_ended : length left ≤ mark → slots ≡ all_undone (reverse (drop mark items)) was
  above_ended few = sym (ap (λ (ns : List Note). all_undone (reverse ns) slots) (none_left few)) ∙ a.leads

  pub above_kept : length left ≤ mark → left ≡ take mark items
  above_kept few = sym (sym (append-nil (take mark left)) ∙ ap (λ ys. take mark left ++ ys) (sym (none_left few)) ∙
      take-append-drop mark left) ∙ a.kept

  module _ (some : mark < length left) (older : List Note) (n : Note) (is : left ≡ older ++ n ∷ []) where
    low : mark ≤ length older
    low = let e = ap length is ∙ length-append older (n ∷ []) in omega arith

    newest : reverse (drop mark left) ≡ n ∷ reverse (drop mark older)
    newest = ap reverse (ap (drop mark) is ∙ drop-append-le mark older (n ∷ []) low) ∙
        reverse-append (drop mark older) (n ∷ [])

    can_newest : CanUndo (n ∷ reverse (drop mark older)) slots
    can_newest = subst (λ (ns : List Note). CanUndo ns slots) newest a.can

    pub above_place : NoteHasPlace n slots
    above_place = can_newest.0

    pub above_goes_on : (slots' : Cells) → slots' ≡ undone n slots → Above was items mark older slots'
    above_goes_on slots' is' = record {
      can = subst (CanUndo (reverse (drop mark older))) (sym is') can_newest.1;
      leads = ap (all_undone (reverse (drop mark older))) is' ∙
          sym (ap (λ (ns : List Note). all_undone ns slots) newest) ∙ a.leads;
      kept = sym (ap (take mark) is ∙ take-append-le mark older (n ∷ []) low) ∙ a.kept;
    }
