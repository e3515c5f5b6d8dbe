-- What a step's edits of the list are, one by one.
use Rattle.std.proofs.Common.{◌≡◌, ◌≢◌, ℕ, List, [], ◌∷◌, ◌++◌, Bool, true, false, refl, sym, ap, ◌∙◌, ⊎_elim, Option}
use Rattle.std.proofs.Common.{Some, None}
use Rattle.std.specs.Prelude.{not, is_some}
use Rattle.std.specs.Option.{option_map}
use Rattle.std.specs.Ordering.{eq_by_cmp}
use Rattle.std.specs.FinMap.{get}
use Rattle.std.proofs.lemmas.Bool.{cases_Bool, cond-false, and_parts, and_from, both_ways, not-true}
use Rattle.std.proofs.lemmas.Option.{none-some}
use Rattle.am_record.specs.OrderedKey.{OrderedKey, key_cmp, key_eq-exact}
use Rattle.am_record.specs.EntryOrder.{Place}
use Rattle.am_record.specs.declared.entry.Entry.{Entry}
use Rattle.am_record.proofs.FirstRows.{key_eq-itself}
use Rattle.am_index.specs.Entries.{Slot, slot_of, entry_at, find, remove_entry, IsRising}
use Rattle.am_index.specs.Edits.{same_place}
use Rattle.am_index.specs.Content.{content, IsLiveAt, OnePlace}
use Rattle.am_index.proofs.Edits.{first_such_all, first_such_passes, entry_at_place, entry_at_beside_removed}
use Rattle.am_index.proofs.Edits.{other_part, none_such}
use Rattle.am_index.proofs.EditLaws.{edit_laws}
use Rattle.am_index.proofs.Content.{content_live}
use Rattle.am_law_effect.specs.Places.{put}
use Rattle.am_law_effect.proofs.Next.{candidates-left}
use Rattle.am_law_effect.specs.MergeAnswers.{candidates, worked_off, all_worked_off}
use Rattle.am_law_effect.specs.Operations.{is_live, find_live}
use Rattle.am_law_effect.specs.KnownEdits.{KnownLaws}
use Rattle.am_law_effect.proofs.Lists.{Stands, stands_all, put_set, put_new}

some_entry : (o : Option Entry) (v : List ℕ) (g : Bool) → option_map slot_of o ≡ Some (v, g) → (x : Entry) ×
    ((o ≡ Some x) × (slot_of x ≡ (v, g)))
some_entry None v g h = absurd (none-some (v, g) h)
some_entry (Some x) v g h = (x, (refl, cc))

abbrev slotted : List ℕ → Bool → Option Slot
slotted v g = Some (v, g)

module _ (es : List Entry) (rise : IsRising es) (one : OnePlace es) where
  live_missed : (k : OrderedKey) (p : ℕ) (v : List ℕ) → find_live es k ≡ None → IsLiveAt es p k v → ⊥
  live_missed k p v h live =
      let x = some_entry (entry_at es p k) v false live.there in
      let fails : is_live k x.0 ≡ false = first_such_all (λ e. is_live k e ≡ false) _ es x.0
      (none_such (is_live k) es h) x.1.0 in
      let place = entry_at_place es p k x.0 x.1.0 in
      let ghost_not : x.0.is_ghost ≡ false = ap (λ (s : Slot). s.1) x.1.1 in
      let key : x.0.key ≡ k = ap (λ (a : Place). a.1) place in
      both_ways (is_live k x.0) fails (and_from (not x.0.is_ghost) (eq_by_cmp key_cmp x.0.key k) (ap not ghost_not)
      (ap (λ (q : OrderedKey). eq_by_cmp key_cmp q k) key ∙ key_eq-itself k))

  -- the live entry that is found is live under its key
  pub found_live : (k : OrderedKey) (e : Entry) → find_live es k ≡ Some e → (e.key ≡ k) ×
      ((e.is_ghost ≡ false) × IsLiveAt es e.part e.key e.value)
  found_live k e h =
      let stands : Stands es e = first_such_all (Stands es) (is_live k) es e (stands_all es rise) h in
      let parts = and_parts (not e.is_ghost) (eq_by_cmp key_cmp e.key k) (first_such_passes (is_live k) es e h) in
      let mark = not-true e.is_ghost parts.0 in
      (key_eq-exact e.key k parts.1, (mark, record { there = stands ∙ ap (slotted e.value) mark }))

  live_law : (p : ℕ) (k : OrderedKey) (v : List ℕ) → IsLiveAt es p k v →
      find_live es k ≡ Some (record { part = p; key = k; value = v; is_ghost = false })
  live_law p k v live = by_entry (find_live es k) refl
    where
      by_entry : (o : Option Entry) → find_live es k ≡ o →
          o ≡ Some (record { part = p; key = k; value = v; is_ghost = false })
      by_entry None h = absurd (live_missed k p v h live)
      by_entry (Some e) h =
          let f = found_live k e h in
          let there : find es e.part k ≡ Some (e.value, false) = sym (ap (find es e.part) f.0) ∙ f.1.1.there in
          let part : e.part ≡ p = one.one k e.part p e.value v (record { there = there }) live in
          let slots : slotted e.value false ≡ slotted v false = sym there ∙ ap (λ q. find es q k) part ∙ live.there in
          let pair : ◌≡◌ {A = Slot} (e.value, false) (v, false) = cc in
          let value : e.value ≡ v = ap (λ (s : Slot). s.0) pair in
          λ i. Some (record { part = part i; key = f.0 i; value = value i; is_ghost = f.1.0 i })

  dead_law : (k : OrderedKey) → get (content es) k ≡ None → find_live es k ≡ None
  dead_law k none = by_entry (find_live es k) refl
    where
      by_entry : (o : Option Entry) → find_live es k ≡ o → o ≡ None
      by_entry None h = refl
      by_entry (Some e) h =
          let f = found_live k e h in
          absurd (none-some e.value (sym none ∙ sym (ap (get (content es)) f.0) ∙ content_live es rise one e.part e.key
          e.value f.1.1))

  place_law : (e : Entry) → e.is_ghost ≡ false → e.part ≢ 0 →
      worked_off e es ≡ remove_entry (put (record e { part = 0 }) es) e.part e.key
  place_law e live n = cond-false e.is_ghost (remove_entry es e.part e.key)
      (put (record e { part = 0 }) (remove_entry es e.part e.key)) live ∙ ⊎_elim
      (λ yes.
      put_set final (remove_entry es e.part e.key) (ap is_some same ∙ yes)
      ∙ sym (ap (λ l. remove_entry l e.part e.key) (put_set final es yes) ∙ (edit_laws es rise).commute.reset 0 e.key
      e.value e.is_ghost e.part e.key yes apart))
      (λ fresh.
      put_new final (remove_entry es e.part e.key) (ap is_some same ∙ fresh)
      ∙ sym (ap (λ l. remove_entry l e.part e.key) (put_new final es fresh) ∙ (edit_laws es rise).commute.inserted final
      e.part e.key (absent (find es 0 e.key) fresh) apart))
      (cases_Bool (is_some (find es 0 e.key)))
    where
      final : Entry
      final = record e { part = 0 }

      apart : same_place 0 e.key e.part e.key ≡ false
      apart = other_part 0 e.part e.key e.key (λ h. n (sym h))

      same : find (remove_entry es e.part e.key) 0 e.key ≡ find es 0 e.key
      same = ap (option_map slot_of) (entry_at_beside_removed es e.part e.key 0 e.key
          (other_part e.part 0 e.key e.key n))

      absent : (o : Option Slot) → is_some o ≡ false → o ≡ None
      absent None h = refl
      absent (Some s) h = absurd (both_ways true h refl)

one_more_law : (some es : List Entry) (e : Entry) → all_worked_off (some ++ e ∷ []) es ≡ worked_off e
    (all_worked_off some es)
one_more_law [] es e = refl
one_more_law (x ∷ some) es e = one_more_law some (worked_off x es) e

pub known_laws : (es : List Entry) → IsRising es → OnePlace es → KnownLaws es
known_laws es rise one = record {
  live = live_law es rise one;
  dead = dead_law es rise one;
  place_first = place_law es rise one;
  one_more = λ some e. one_more_law some es e;
  left = λ range n. candidates-left range n es (candidates es range) rise refl;
}
