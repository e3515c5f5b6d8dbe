-- What two tests of one list find, and the entry after a slot.
use Rattle.std.proofs.Common.{◌≡◌, List, [], ◌∷◌, Bool, true, false, Option, Some, None, refl, sym, ap, ◌∙◌, subst, ◌⊎◌}
use Rattle.std.proofs.Common.{inl, inr, ⊎_elim}
use Rattle.std.proofs.lemmas.Bool.{cases_Bool, cond-true, cond-false, both_ways}
use Rattle.std.proofs.lemmas.Option.{none-some, same_Some}
use Rattle.std.specs.declared.cmp.Ordering.TheVariants.{Less}
use Rattle.am_record.specs.EntryOrder.{place_of, place_cmp}
use Rattle.am_record.specs.declared.entry.Entry.{Entry}
use Rattle.am_index.specs.Entries.{Slot, slot_of, find, entry_at, first_such, IsRising}
use Rattle.am_index.proofs.EditLaws.{same_entry}
use Rattle.am_index.proofs.Edits.{first_such_all, entry_at_place}

-- ---- two tests of one list

-- nothing passes the test, so what another test finds does not
pub none_pass : (test other : Entry → Bool) (es : List Entry) (x : Entry) → first_such test es ≡ None →
    first_such other es ≡ Some x → test x ≡ false
none_pass test other [] x none some = absurd (none-some x some)
none_pass test other (e ∷ es) x none some =
    ⊎_elim
    (λ yes. absurd (none-some e (sym none ∙ cond-true (test e) (Some e) (first_such test es) yes)))
    (λ no.
    ⊎_elim
    (λ it. let same : e ≡ x = same_Some _ _ (sym (cond-true (other e) (Some e) (first_such other es) it) ∙ some) in
    subst (λ (y : Entry). test y ≡ false) same no)
    (λ later. none_pass test other es x (sym (cond-false (test e) (Some e) (first_such test es) no) ∙ none)
    (sym (cond-false (other e) (Some e) (first_such other es) later) ∙ some))
    (cases_Bool (other e)))
    (cases_Bool (test e))

-- the first that passes the test is not above another that does
pub first_of_both : (test other : Entry → Bool) (es : List Entry) (e x : Entry) → IsRising es →
    first_such test es ≡ Some e → first_such other es ≡ Some x → test x ≡ true
    → (e ≡ x) ⊎ (place_cmp (place_of e) (place_of x) ≡ Less)
first_of_both test other [] e x rising first some passes = absurd (none-some x some)
first_of_both test other (f ∷ fs) e x rising first some passes =
    ⊎_elim
    (λ yes.
    let is_e : f ≡ e = same_Some _ _ (sym (cond-true (test f) (Some f) (first_such test fs) yes) ∙ first) in
    ⊎_elim
    (λ it. let is_x : f ≡ x = same_Some _ _ (sym (cond-true (other f) (Some f) (first_such other fs) it) ∙ some) in
    inl (sym is_e ∙ is_x))
    (λ later. inr (subst (λ (y : Entry). place_cmp (place_of y) (place_of x) ≡ Less) is_e
    (first_such_all (λ y. place_cmp (place_of f) (place_of y) ≡ Less) other fs x rising.0
    (sym (cond-false (other f) (Some f) (first_such other fs) later) ∙ some))))
    (cases_Bool (other f)))
    (λ no.
    ⊎_elim
    (λ it. let is_x : f ≡ x = same_Some _ _ (sym (cond-true (other f) (Some f) (first_such other fs) it) ∙ some) in
    absurd (both_ways (test f) no (subst (λ (y : Entry). test y ≡ true) (sym is_x) passes)))
    (λ later. first_of_both test other fs e x rising.1 (sym (cond-false (test f) (Some f) (first_such test fs) no) ∙
    first) (sym (cond-false (other f) (Some f) (first_such other fs) later) ∙ some) passes)
    (cases_Bool (other f)))
    (cases_Bool (test f))

-- the entry that such a slot is of
pub entry_of : (o : Option Entry) (s : Slot) →
    (elim o as (λ _. Option Slot) [ None ↦ None | Some x ↦ Some (slot_of x) ]) ≡ Some s → (x : Entry) × (o ≡ Some x) ×
    (slot_of x ≡ s)
entry_of None s h = absurd (none-some s h)
entry_of (Some x) s h = (x, refl, same_Some _ _ h)

-- what stands at an entry's place with its value and mark is the entry
pub entry_there : (es : List Entry) (e : Entry) → find es e.part e.key ≡ Some (slot_of e) → entry_at es e.part e.key ≡
    Some e
entry_there es e stands =
    let it = entry_of (entry_at es e.part e.key) (slot_of e) stands in
    it.1 ∙ ap Some (same_entry it.0 e (entry_at_place es e.part e.key it.0 it.1) it.2)
