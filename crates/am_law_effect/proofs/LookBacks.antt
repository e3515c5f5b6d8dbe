-- An abort in the words of the rule.
use Rattle.std.proofs.Common.{◌≡◌, ℕ, List, [], ◌∷◌, ◌++◌, true, refl, sym, ap, ◌∙◌, subst, ⊎_elim, Option, Some, None}
use Rattle.std.proofs.lemmas.Bool.{cases_Bool, cond-true, cond-false, or_cases, both_ways, false≢true}
use Rattle.am_law_effect.proofs.Backs.{unwritten}
use Rattle.am_law_effect.specs.History.{Moment, left_at, or_made, wrote, wrote_by}
use Rattle.am_law_effect.specs.LookBacks.{first_at, lists_since, looked_back, or_slot}
use Rattle.am_law_effect.specs.Places.{look}
use Rattle.am_index.specs.Entries.{Slot}
use Rattle.am_record.specs.EntryOrder.{Place}
use Rattle.am_record.specs.OrderedKey.{OrderedKey}
use Rattle.am_record.specs.declared.entry.Entry.{Entry}
use Rattle.am_store_undo.specs.Notes.{ghosted}

ghosted_or : (x y : Option Slot) → ghosted (or_slot x y) ≡ or_slot (ghosted x) (ghosted y)
ghosted_or None y = refl
ghosted_or (Some s) y = refl

or_or : (x y z : Option Slot) → or_slot x (or_slot y z) ≡ or_slot (or_slot x y) z
or_or None y z = refl
or_or (Some s) y z = refl

or_none : (x : Option Slot) → or_slot x None ≡ x
or_none None = refl
or_none (Some s) = refl

first_at-push : (a : Place) (ls : List (List Entry)) (es : List Entry) → first_at a (ls ++ es ∷ []) ≡ or_slot
    (first_at a ls) (look es a)
first_at-push a [] es = or_none (look es a)
first_at-push a (l ∷ ls) es = ap (or_slot (look l a)) (first_at-push a ls es) ∙
    or_or (look l a) (first_at a ls) (look es a)

made_or : (x y : Option Slot) → or_made x y ≡ or_slot x (ghosted y)
made_or None y = refl
made_or (Some s) y = refl

record NotEmpty (ls : List (List Entry)) : Type 0 where
  first : List Entry
  rest : List (List Entry)
  is : ls ≡ first ∷ rest

looked_back-push : (a : Place) (ls : List (List Entry)) (es : List Entry) → NotEmpty ls →
    looked_back a (ls ++ es ∷ []) ≡ or_slot (looked_back a ls) (ghosted (look es a))
looked_back-push a ls es n =
    ap (λ l. looked_back a (l ++ es ∷ [])) n.is
    ∙ ap (λ x. or_slot (look n.first a) (ghosted x)) (first_at-push a n.rest es)
    ∙ ap (or_slot (look n.first a)) (ghosted_or (first_at a n.rest) (look es a))
    ∙ or_or (look n.first a) (ghosted (first_at a n.rest)) (ghosted (look es a))
    ∙ ap (λ l. or_slot (looked_back a l) (ghosted (look es a))) (sym n.is)

pushed_not_empty : (ls : List (List Entry)) (es : List Entry) → NotEmpty ls → NotEmpty (ls ++ es ∷ [])
pushed_not_empty ls es n = record { first = n.first; rest = n.rest ++ es ∷ []; is = ap (λ l. l ++ es ∷ []) n.is }

not_empty : (t : ℕ) (q : OrderedKey) (past : List Moment) (es : List Entry) → wrote t q past ≡ true →
    NotEmpty (lists_since t q past es)
not_empty t q [] es w = absurd (false≢true w)
not_empty t q (m ∷ past) es w = ⊎_elim
    (λ old. subst NotEmpty (sym (cond-true (wrote t q past) _ _ old))
    (pushed_not_empty (lists_since t q past m.1) es (not_empty t q past m.1 old)))
    (λ no. subst NotEmpty (sym (cond-false (wrote t q past) _ _ no
    ∙ cond-true (wrote_by t q m.0) (m.1 ∷ es ∷ []) []
    (⊎_elim (λ now. now) (λ old. absurd (both_ways (wrote t q past) no old))
    (or_cases (wrote_by t q m.0) (wrote t q past) w))))
    (record { first = m.1; rest = es ∷ []; is = refl }))
    (cases_Bool (wrote t q past))

-- what an abort leaves at a place of a key that the transaction wrote
pub left_is : (t : ℕ) (a : Place) (past : List Moment) (es : List Entry) → wrote t a.1 past ≡ true →
    left_at t a past es ≡ looked_back a (lists_since t a.1 past es)
left_is t a [] es w = absurd (false≢true w)
left_is t a (m ∷ past) es w =
    cond-true (wrote t a.1 (m ∷ past)) (or_made (left_at t a past m.1) (look es a)) (look es a) w
    ∙ made_or (left_at t a past m.1) (look es a)
    ∙ ⊎_elim
    (λ old.
    ap (λ x. or_slot x (ghosted (look es a))) (left_is t a past m.1 old)
    ∙ sym (looked_back-push a (lists_since t a.1 past m.1) es (not_empty t a.1 past m.1 old))
    ∙ ap (looked_back a) (sym (cond-true (wrote t a.1 past) _ _ old)))
    (λ no.
    ap (λ x. or_slot x (ghosted (look es a))) (unwritten t a past m.1 no)
    ∙ ap (λ x. or_slot (look m.1 a) (ghosted x)) (sym (or_none (look es a)))
    ∙ ap (looked_back a) (sym (cond-false (wrote t a.1 past) _ _ no
    ∙ cond-true (wrote_by t a.1 m.0) (m.1 ∷ es ∷ []) []
    (⊎_elim (λ now. now) (λ old. absurd (both_ways (wrote t a.1 past) no old))
    (or_cases (wrote_by t a.1 m.0) (wrote t a.1 past) w)))))
    (cases_Bool (wrote t a.1 past))
