-- Edits that give back the list before them, edits of two places, and lists that nothing tells apart.
use Rattle.std.proofs.Common.{◌≡◌, ◌≢◌, ℕ, List, [], ◌∷◌, Bool, true, false, cond, Option, Some, None, refl, sym, ap}
use Rattle.std.proofs.Common.{◌∙◌, subst, ⊎_elim}
use Rattle.std.specs.Prelude.{IsSome}
use Rattle.std.proofs.lemmas.Bool.{cases_Bool, cond-true, cond-false, both_ways}
use Rattle.std.specs.declared.cmp.Ordering.{Ordering}
use Rattle.std.specs.declared.cmp.Ordering.TheVariants.{Less, Equal, Greater}
use Rattle.std.specs.Ordering.{is_eq, is_lt, eq_by_cmp}
use Rattle.std.specs.Option.{option_map}
use Rattle.std.proofs.lemmas.Option.{none-some, same_Some}
use Rattle.am_record.specs.OrderedKey.{OrderedKey}
use Rattle.am_record.specs.EntryOrder.{Place, place_of, place_cmp, place_cmp-exact}
use Rattle.am_record.specs.declared.entry.Entry.{Entry}
use Rattle.am_record.proofs.PlaceOrder.{turned_less, turned_greater}
use Rattle.am_index.specs.Entries.{Slot, slot_of, entry_at, find, insert_entry, set_entry, remove_entry, IsRising}
use Rattle.am_index.specs.Edits.{same_place, IsChangedAt, EditLaws}
use Rattle.am_index.proofs.Lists.{entry_at_none, rising_above}
use Rattle.am_index.proofs.Edits.{one_place, same_place-itself, turned_apart, first_such_all, entry_at_slot}
use Rattle.am_index.proofs.Edits.{entry_at-hit, entry_at-miss, find-hit, find-miss, remove-hit, remove-miss, set-hit}
use Rattle.am_index.proofs.Edits.{set-miss, insert-later, insert-here, later_none, entry_at_inserted}
use Rattle.am_index.proofs.Edits.{entry_at_beside_inserted, rising_inserted, insert_back, entry_at_removed}
use Rattle.am_index.proofs.Edits.{entry_at_beside_removed, rising_removed, find_reset, entry_at_beside_reset}
use Rattle.am_index.proofs.Edits.{rising_reset}

-- entries of one place with one slot are one
pub same_entry : (e f : Entry) → place_of e ≡ place_of f → slot_of e ≡ slot_of f → e ≡ f
same_entry e f p s = λ i. record { part = (p i).0; key = (p i).1; value = (s i).0; is_ghost = (s i).1 }

abbrev slots_of : Option Entry → Option Slot
slots_of o = option_map slot_of o

-- ---- taken back

all_above_front : (e : Entry) (es : List Entry) → IsRising (e ∷ es) → insert_entry es e ≡ e ∷ es
all_above_front e [] rising = refl
all_above_front e (f ∷ es) rising = insert-here e f es (ap is_lt (turned_less (place_of e) (place_of f) rising.0.0))

pub remove_back : (es : List Entry) (part : ℕ) (key : OrderedKey) (x : Entry) → IsRising es →
    entry_at es part key ≡ Some x → insert_entry (remove_entry es part key) x ≡ es
remove_back [] part key x rising h = absurd (none-some x h)
remove_back (e ∷ es) part key x rising h =
    let into : List Entry → List Entry = λ l. insert_entry l x in
    ⊎_elim
    (λ yes.
    let same : e ≡ x = same_Some _ _ (sym (entry_at-hit part key e es yes) ∙ h) in
    ap into (remove-hit part key e es yes) ∙ ap (insert_entry es) (sym same) ∙ all_above_front e es rising)
    (λ not.
    let later : entry_at es part key ≡ Some x = sym (entry_at-miss part key e es not) ∙ h in
    let less : place_cmp (place_of e) (place_of x) ≡ Less =
    first_such_all (λ f. place_cmp (place_of e) (place_of f) ≡ Less)
    (λ f. is_eq (place_cmp (place_of f) (part, key))) es x rising.0 later in
    ap into (remove-miss part key e es not) ∙ insert-later x e (remove_entry es part key) (ap is_lt less) ∙
    ap (λ l. e ∷ l) (remove_back es part key x rising.1 later))
    (cases_Bool (same_place e.part e.key part key))

-- what stands at a place, set again
pub set_same : (es : List Entry) (part : ℕ) (key : OrderedKey) (value : List ℕ) (is_ghost : Bool) →
    find es part key ≡ Some (value, is_ghost) → set_entry es part key value is_ghost ≡ es
set_same [] part key value is_ghost h = refl
set_same (e ∷ es) part key value is_ghost h =
    ⊎_elim
    (λ yes.
    let slots : slot_of e ≡ (value, is_ghost) = same_Some _ _ (sym (find-hit part key e es yes) ∙ h) in
    set-hit part key e es value is_ghost yes ∙ ap (λ f. f ∷ es)
    (same_entry (record e { value = value; is_ghost = is_ghost }) e refl (sym slots)))
    (λ not. set-miss part key e es value is_ghost not ∙
    ap (λ l. e ∷ l) (set_same es part key value is_ghost (sym (find-miss part key e es not) ∙ h)))
    (cases_Bool (same_place e.part e.key part key))

-- of two settings of a place the second counts
pub set_twice : (es : List Entry) (part : ℕ) (key : OrderedKey) (value : List ℕ) (is_ghost : Bool) (value' : List ℕ)
    (is_ghost' : Bool)
    → set_entry (set_entry es part key value is_ghost) part key value' is_ghost' ≡ set_entry es part key value'
    is_ghost'
set_twice [] part key value is_ghost value' is_ghost' = refl
set_twice (e ∷ es) part key value is_ghost value' is_ghost' =
    let again : List Entry → List Entry = λ l. set_entry l part key value' is_ghost' in
    ⊎_elim
    (λ yes. ap again (set-hit part key e es value is_ghost yes) ∙
    set-hit part key (record e { value = value; is_ghost = is_ghost }) es value' is_ghost' yes ∙
    sym (set-hit part key e es value' is_ghost' yes))
    (λ not.
    ap again (set-miss part key e es value is_ghost not) ∙ set-miss part key e (set_entry es part key value is_ghost)
    value' is_ghost' not
    ∙ ap (λ l. e ∷ l) (set_twice es part key value is_ghost value' is_ghost') ∙
    sym (set-miss part key e es value' is_ghost' not))
    (cases_Bool (same_place e.part e.key part key))

pub set_back : (es : List Entry) (part : ℕ) (key : OrderedKey) (old : List ℕ) (was_ghost : Bool) (value : List ℕ)
    (is_ghost : Bool)
    → find es part key ≡ Some (old, was_ghost) → set_entry (set_entry es part key value is_ghost) part key old
    was_ghost ≡ es
set_back es part key old was_ghost value is_ghost h = set_twice es part key value is_ghost old was_ghost ∙
    set_same es part key old was_ghost h

-- ---- lists that nothing tells apart

-- nothing is found below the first entry
none_below : (e f : Entry) (fs : List Entry) → IsRising (f ∷ fs) → place_cmp (place_of e) (place_of f) ≡ Less →
    find (f ∷ fs) e.part e.key ≡ None
none_below e f fs rising less =
    let above : place_cmp (place_of f) (place_of e) ≡ Greater = turned_less (place_of e) (place_of f) less in
    let not_less : place_cmp (place_of f) (place_of e) ≢ Less = λ h. absurd (cc above) in
    find-miss e.part e.key f fs (ap is_eq above) ∙
    ap slots_of (entry_at_none e.part e.key fs (rising_above (place_of e) f fs not_less rising))

-- two rising lists that answer alike at every place are one
pub same_entries : (es fs : List Entry) → IsRising es → IsRising fs →
    ((part : ℕ) (key : OrderedKey) → find es part key ≡ find fs part key) → es ≡ fs
same_entries [] [] rising rising' h = refl
same_entries [] (f ∷ fs) rising rising' h = absurd
    (none-some (slot_of f) (h f.part f.key ∙ find-hit f.part f.key f fs (same_place-itself f.part f.key)))
same_entries (e ∷ es) [] rising rising' h = absurd
    (none-some (slot_of e) (sym (h e.part e.key) ∙ find-hit e.part e.key e es (same_place-itself e.part e.key)))
same_entries (e ∷ es) (f ∷ fs) rising rising' h = by_order (place_cmp (place_of e) (place_of f)) refl
    (same_entries es fs rising.1 rising'.1)
  where
    e_found : find (e ∷ es) e.part e.key ≡ Some (slot_of e)
    e_found = find-hit e.part e.key e es (same_place-itself e.part e.key)

    f_found : find (f ∷ fs) f.part f.key ≡ Some (slot_of f)
    f_found = find-hit f.part f.key f fs (same_place-itself f.part f.key)

    by_order : (o : Ordering) → place_cmp (place_of e) (place_of f) ≡ o →
        (((part : ℕ) (key : OrderedKey) → find es part key ≡ find fs part key) → es ≡ fs) → e ∷ es ≡ f ∷ fs
    by_order Less less later = absurd (none-some (slot_of e) (sym (none_below e f fs rising' less) ∙
        sym (h e.part e.key) ∙ e_found))
    by_order Greater greater later = absurd (none-some (slot_of f)
        (sym (none_below f e es rising (turned_greater (place_of e) (place_of f) greater)) ∙ h f.part f.key ∙ f_found))
    by_order Equal equal later =
        let places : place_of e ≡ place_of f = place_cmp-exact (place_of e) (place_of f) equal in
        let slots : slot_of e ≡ slot_of f = same_Some _ _ (sym e_found ∙ h e.part e.key ∙
        ap (λ (q : Place). find (f ∷ fs) q.0 q.1) places ∙ f_found) in
        let tails : es ≡ fs = later (λ part key. alike part key places) in
        ap (λ x. x ∷ es) (same_entry e f places slots) ∙ ap (λ l. f ∷ l) tails
      where
        alike : (part : ℕ) (key : OrderedKey) → place_of e ≡ place_of f → find es part key ≡ find fs part key
        alike part key places =
            ⊎_elim
            (λ yes.
            let yes' : same_place f.part f.key part key ≡ true =
            subst (λ (q : Place). eq_by_cmp place_cmp q (part, key) ≡ true) places yes in
            ap slots_of (later_none part key e es rising yes) ∙
            sym (ap slots_of (later_none part key f fs rising' yes')))
            (λ not.
            let not' : same_place f.part f.key part key ≡ false =
            subst (λ (q : Place). eq_by_cmp place_cmp q (part, key) ≡ false) places not in
            sym (find-miss part key e es not) ∙ h part key ∙ find-miss part key f fs not')
            (cases_Bool (same_place e.part e.key part key))

-- ---- all laws of edits

module _ (es : List Entry) where
  inserted : (x : Entry) → IsChangedAt es (insert_entry es x) x.part x.key (Some (slot_of x))
  inserted x = record {
    here = entry_at_slot (insert_entry es x) x.part x.key x (entry_at_inserted es x);
    elsewhere = λ part key n. ap slots_of (entry_at_beside_inserted es x part key
        (turned_apart (part, key) (place_of x) n));
  }

  reset : (part : ℕ) (key : OrderedKey) (value : List ℕ) (is_ghost : Bool) → IsSome (find es part key) →
      IsChangedAt es (set_entry es part key value is_ghost) part key (Some (value, is_ghost))
  reset part key value is_ghost there = record {
    here = find_reset es part key value is_ghost there;
    elsewhere = λ part' key' n. ap slots_of (entry_at_beside_reset es part key value is_ghost part' key'
        (turned_apart (part', key') (part, key) n));
  }

  removed : (part : ℕ) (key : OrderedKey) → IsRising es → IsChangedAt es (remove_entry es part key) part key None
  removed part key rising = record {
    here = ap slots_of (entry_at_removed es part key rising);
    elsewhere = λ part' key' n. ap slots_of (entry_at_beside_removed es part key part' key'
        (turned_apart (part', key') (part, key) n));
  }

-- a change at one place, as an equation for every place
pub changed_everywhere : (before after : List Entry) (part : ℕ) (key : OrderedKey) (slot : Option Slot) →
    IsChangedAt before after part key slot → (part' : ℕ) (key' : OrderedKey)
    → find after part' key' ≡ cond (same_place part' key' part key) slot (find before part' key')
changed_everywhere before after part key slot c part' key' =
    ⊎_elim
    (λ yes. ap (λ (q : Place). find after q.0 q.1) (one_place (part', key') (part, key) yes) ∙ c.here ∙
    sym (cond-true (same_place part' key' part key) slot (find before part' key') yes))
    (λ not. c.elsewhere part' key' not ∙ sym (cond-false (same_place part' key' part key) slot (find before part' key')
    not))
    (cases_Bool (same_place part' key' part key))

-- ---- edits of two places

two_places : {X : Type 0} (b c : Bool) (x y z : X) → (b ≡ true → c ≡ true → ⊥) →
    cond b x (cond c y z) ≡ cond c y (cond b x z)
two_places true true x y z n = absurd (n refl refl)
two_places true false x y z n = refl
two_places false true x y z n = refl
two_places false false x y z n = refl

not_both : (q a b : Place) → eq_by_cmp place_cmp a b ≡ false → eq_by_cmp place_cmp q b ≡ true →
    eq_by_cmp place_cmp q a ≡ true → ⊥
not_both q a b n h g = both_ways (eq_by_cmp place_cmp a b) n
    (subst (λ x. eq_by_cmp place_cmp x b ≡ true) (one_place q a g) h)

module _ (es : List Entry) (rising : IsRising es) where
  remove_past_insert : (x : Entry) (part : ℕ) (key : OrderedKey) → entry_at es x.part x.key ≡ None →
      same_place x.part x.key part key ≡ false
      → remove_entry (insert_entry es x) part key ≡ insert_entry (remove_entry es part key) x
  remove_past_insert x part key absent apart =
      let more = rising_inserted es x rising absent in
      let less = rising_removed es part key rising in
      let absent' = entry_at_beside_removed es part key x.part x.key (turned_apart (place_of x) (part, key) apart) ∙
      absent in
      same_entries (remove_entry (insert_entry es x) part key) (insert_entry (remove_entry es part key) x)
      (rising_removed (insert_entry es x) part key more) (rising_inserted (remove_entry es part key) x less absent')
      (λ p k.
      let into = same_place p k x.part x.key in
      let out = same_place p k part key in
      changed_everywhere _ _ part key None (removed (insert_entry es x) part key more) p k
      ∙ ap (λ o. cond out None o) (changed_everywhere _ _ x.part x.key (Some (slot_of x)) (inserted es x) p k)
      ∙ two_places out into None (Some (slot_of x)) (find es p k) (not_both (p, k) (place_of x) (part, key) apart)
      ∙ sym (changed_everywhere _ _ x.part x.key (Some (slot_of x)) (inserted (remove_entry es part key) x) p k ∙
      ap (λ o. cond into (Some (slot_of x)) o) (changed_everywhere _ _ part key None (removed es part key rising) p
      k)))

  remove_past_set : (part : ℕ) (key : OrderedKey) (value : List ℕ) (is_ghost : Bool) (part' : ℕ) (key' : OrderedKey) →
      IsSome (find es part key) → same_place part key part' key' ≡ false
      → remove_entry (set_entry es part key value is_ghost) part' key' ≡ set_entry (remove_entry es part' key') part key
      value is_ghost
  remove_past_set part key value is_ghost part' key' there apart =
      let new : Option Slot = Some (value, is_ghost) in
      let set = rising_reset part key value is_ghost es rising in
      let less = rising_removed es part' key' rising in
      let out_of = removed es part' key' rising in
      let there' : IsSome (find (remove_entry es part' key') part key) = subst (λ (o : Option Slot). IsSome o)
      (sym (out_of.elsewhere part key apart)) there in
      same_entries (remove_entry (set_entry es part key value is_ghost) part' key')
      (set_entry (remove_entry es part' key') part key value is_ghost)
      (rising_removed (set_entry es part key value is_ghost) part' key' set)
      (rising_reset part key value is_ghost (remove_entry es part' key') less) (λ p k.
      let into = same_place p k part key in
      let out = same_place p k part' key' in
      changed_everywhere _ _ part' key' None (removed (set_entry es part key value is_ghost) part' key' set) p k
      ∙ ap (λ o. cond out None o) (changed_everywhere _ _ part key new (reset es part key value is_ghost there) p k)
      ∙ two_places out into None new (find es p k) (not_both (p, k) (part, key) (part', key') apart)
      ∙ sym (changed_everywhere _ _ part key new (reset (remove_entry es part' key') part key value is_ghost there') p
      k ∙ ap (λ o. cond into new o) (changed_everywhere _ _ part' key' None out_of p k)))

-- what the edits of a rising list do
pub edit_laws : (es : List Entry) → IsRising es → EditLaws es
edit_laws es rising = record {
  rise = record {
    inserted = λ x absent. rising_inserted es x rising (none_found (entry_at es x.part x.key) absent);
    reset = λ part key value is_ghost. rising_reset part key value is_ghost es rising;
    removed = λ part key. rising_removed es part key rising;
  };
  change = record { inserted = inserted es; reset = reset es; removed = λ part key. removed es part key rising };
  finds = record {
    inserted = λ x. changed_everywhere es (insert_entry es x) x.part x.key (Some (slot_of x)) (inserted es x);
    reset = λ part key value is_ghost there. changed_everywhere es (set_entry es part key value is_ghost) part key
        (Some (value, is_ghost)) (reset es part key value is_ghost there);
    removed = λ part key. changed_everywhere es (remove_entry es part key) part key None (removed es part key rising);
  };
  back = record {
    inserted = insert_back es;
    removed = λ part key x h. remove_back es part key x rising h;
    reset = set_back es;
  };
  commute = record {
    inserted = λ x part key absent apart. remove_past_insert es rising x part key
        (none_found (entry_at es x.part x.key) absent) apart;
    reset = remove_past_set es rising;
  };
  only = λ fs rising' alike. same_entries es fs rising rising' alike;
}
  where
    none_found : (o : Option Entry) → slots_of o ≡ None → o ≡ None
    none_found None h = refl
    none_found (Some x) h = absurd (none-some (slot_of x) (sym h))
