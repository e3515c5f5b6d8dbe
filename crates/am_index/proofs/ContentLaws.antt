-- What edits of a list do to its content.
use Rattle.std.proofs.Common.{◌≡◌, ◌≢◌, ℕ, List, [], true, false, Option, Some, None, refl, sym, ap, ◌∙◌, subst, ◌⊎◌}
use Rattle.std.proofs.Common.{inl, inr, ⊎_elim}
use Rattle.std.specs.Prelude.{IsSome, is_some}
use Rattle.std.proofs.lemmas.Bool.{cases_Bool, cond-true, cond-false, true≢false, both_ways}
use Rattle.std.proofs.lemmas.Option.{none-some, same_Some}
use Rattle.std.specs.Ordering.{eq_by_cmp}
use Rattle.std.specs.FinMap.{get, insert, remove, empty, same_map, get-insert, get-remove, get-empty}
use Rattle.am_record.specs.OrderedKey.{OrderedKey, key_cmp, key_cmp-total, key_cmp-exact, key_eq-exact}
use Rattle.am_record.specs.Plain.{PlainMap}
use Rattle.am_record.specs.EntryOrder.{Place}
use Rattle.am_record.specs.declared.entry.Entry.{Entry}
use Rattle.am_record.proofs.FirstRows.{key_eq-itself}
use Rattle.am_record.proofs.Maps.{get_beside_inserted, get_beside_removed}
use Rattle.am_index.specs.Entries.{Slot, slot_of, find, insert_entry, set_entry, remove_entry, IsRising}
use Rattle.am_index.specs.Edits.{same_place, IsChangedAt, EditLaws}
use Rattle.am_index.specs.Content.{content, IsLiveAt, OnePlace, HasContent, live_value, HasOne, values_at, ContentLaws}
use Rattle.am_index.proofs.Edits.{one_place, other_key, other_part, same_place-itself}
use Rattle.am_index.proofs.EditLaws.{edit_laws}
use Rattle.am_index.proofs.Content.{content_found, content_dead, content_live, content_has_one, content_from}
use Rattle.am_index.proofs.Content.{content_values, has_one_along, live_at}

-- ---- maps with one key changed

apart_keys : (q k : OrderedKey) → eq_by_cmp key_cmp q k ≡ false → q ≢ k
apart_keys q k h e = both_ways (eq_by_cmp key_cmp q k) h (subst (λ x. eq_by_cmp key_cmp q x ≡ true) e (key_eq-itself q))

pub get_inserted : (m : PlainMap) (k : OrderedKey) (v : List ℕ) → get (insert m k v) k ≡ Some v
get_inserted m k v = get-insert key_cmp-total m k v k ∙ cond-true (eq_by_cmp key_cmp k k) (Some v) (get m k)
    (key_eq-itself k)

pub get_removed : (m : PlainMap) (k : OrderedKey) → get (remove m k) k ≡ None
get_removed m k = get-remove key_cmp-total m k k ∙ cond-true (eq_by_cmp key_cmp k k) None (get m k) (key_eq-itself k)

-- ---- lists with one place changed

module _ {es es' : List Entry} {m : PlainMap} (part : ℕ) (key : OrderedKey) (slot : Option Slot) (rising : IsRising es')
    (h : HasContent es m) (change : IsChangedAt es es' part key slot) where
  -- other keys have the values that they had
  beside : (q : OrderedKey) → eq_by_cmp key_cmp q key ≡ false → HasOne (values_at es' q) (get m q)
  beside q n = has_one_along (λ p. ap live_value (change.elsewhere p q (other_key p part q key (apart_keys q key n))))
      (content_values h q)

  -- so the content is a map that is the same but for this key
  changed_at_key : (m' : PlainMap) → HasOne (values_at es' key) (get m' key) →
      ((q : OrderedKey) → eq_by_cmp key_cmp q key ≡ false → get m' q ≡ get m q) → HasContent es' m'
  changed_at_key m' here others = content_from es' m' rising (λ q.
      ⊎_elim
      (λ tie. subst (λ x. HasOne (values_at es' x) (get m' x)) (sym (key_eq-exact q key tie)) here)
      (λ apart. subst (λ (o : Option (List ℕ)). HasOne (values_at es' q) o) (sym (others q apart)) (beside q apart))
      (cases_Bool (eq_by_cmp key_cmp q key)))

  -- what another partition has of the key, it had
  in_other_part : (p : ℕ) → p ≢ part → values_at es' key p ≡ values_at es key p
  in_other_part p n = ap live_value (change.elsewhere p key (other_part p part key key n))

  in_part : (p : ℕ) → p ≡ part → values_at es' key p ≡ live_value slot
  in_part p e = ap (values_at es' key) e ∙ ap live_value change.here

  same_part : (p : ℕ) → (p ≡ part) ⊎ (p ≢ part)
  same_part p =
      ⊎_elim
      (λ yes. inl (ap (λ (x : Place). x.0) (one_place (p, key) (part, key) yes)))
      (λ no. inr (λ e. both_ways (same_place p key part key) no
      (subst (λ x. same_place p key x key ≡ true) e (same_place-itself p key))))
      (cases_Bool (same_place p key part key))

  -- the key becomes live at the place, and is live at no other
  pub made_live : (value : List ℕ) → live_value slot ≡ Some value →
      ((p : ℕ) (v : List ℕ) → p ≢ part → IsLiveAt es p key v → ⊥) → HasContent es' (insert m key value)
  made_live value is_live alone =
      let at : (p : ℕ) (v : List ℕ) → values_at es' key p ≡ Some v → p ≡ part = λ p v e.
      ⊎_elim (λ yes. yes) (λ other. absurd (alone p v other (live_at (sym (in_other_part p other) ∙ e))))
      (same_part p) in
      changed_at_key (insert m key value) (record {
        sound = λ p v e. get_inserted m key value ∙ sym is_live ∙ sym (in_part p (at p v e)) ∙ e;
        full = λ v e. (part, in_part part refl ∙ is_live ∙ sym (get_inserted m key value) ∙ e);
        one = λ p p' v v' e e'. at p v e ∙ sym (at p' v' e');
      }) (λ q n. get_beside_inserted m key value q n)

  -- the key was live at the place, and is so no more
  pub made_dead : (old : List ℕ) → live_value slot ≡ None → IsLiveAt es part key old → HasContent es' (remove m key)
  made_dead old is_dead was =
      let none : (p : ℕ) (v : List ℕ) → values_at es' key p ≡ Some v → ⊥ = λ p v e.
      ⊎_elim
      (λ yes. none-some v (sym is_dead ∙ sym (in_part p yes) ∙ e))
      (λ other. other (h.one_place.one key p part v old (live_at (sym (in_other_part p other) ∙ e)) was))
      (same_part p) in
      changed_at_key (remove m key) (record {
        sound = λ p v e. absurd (none p v e);
        full = λ v e. absurd (none-some v (sym (get_removed m key) ∙ e));
        one = λ p p' v v' e e'. absurd (none p v e);
      }) (λ q n. get_beside_removed m key q n)

  -- the key was not live at the place, and is not
  pub kept_dead : live_value slot ≡ None → live_value (find es part key) ≡ None → HasContent es' m
  kept_dead is_dead was_dead =
      let same : (p : ℕ) → values_at es' key p ≡ values_at es key p = λ p.
      ⊎_elim
      (λ yes. in_part p yes ∙ is_dead ∙ sym was_dead ∙ sym (ap (values_at es key) yes))
      (λ other. in_other_part p other)
      (same_part p) in
      changed_at_key m (has_one_along same (content_values h key)) (λ q n. refl)

-- ---- the laws

module _ (es : List Entry) (rising : IsRising es) (one : OnePlace es) where
  edits : EditLaws es
  edits = edit_laws es rising

  same_content : HasContent es (content es)
  same_content = record { rising = rising; one_place = one; same = refl }

  present : (part : ℕ) (key : OrderedKey) (slot : Slot) → find es part key ≡ Some slot → IsSome (find es part key)
  present part key slot h = ap is_some h

  -- a key that the content lacks is live nowhere
  nowhere : (key : OrderedKey) → get (content es) key ≡ None → (p : ℕ) (v : List ℕ) → IsLiveAt es p key v → ⊥
  nowhere key none p v live = none-some v (sym none ∙ content_live es rising one p key v live)

  -- a key that is live at a place is live at no other
  alone : (part : ℕ) (key : OrderedKey) (old : List ℕ) → IsLiveAt es part key old → (p : ℕ) (v : List ℕ) → p ≢ part →
      IsLiveAt es p key v → ⊥
  alone part key old was p v n live = n (one.one key p part v old live was)

  added_law : (x : Entry) → find es x.part x.key ≡ None → x.is_ghost ≡ false → get (content es) x.key ≡ None →
      HasContent (insert_entry es x) (insert (content es) x.key x.value)
  added_law x absent live none =
      made_live x.part x.key (Some (slot_of x)) (edits.rise.inserted x absent) same_content (edits.change.inserted x)
      x.value
      (cond-false x.is_ghost None (Some x.value) live) (λ p v n. nowhere x.key none p v)

  ghost_added_law : (x : Entry) → find es x.part x.key ≡ None → x.is_ghost ≡ true →
      HasContent (insert_entry es x) (content es)
  ghost_added_law x absent ghost =
      kept_dead x.part x.key (Some (slot_of x)) (edits.rise.inserted x absent) same_content (edits.change.inserted x)
      (cond-true x.is_ghost None (Some x.value) ghost) (ap live_value absent)

  module _ (part : ℕ) (key : OrderedKey) (old value : List ℕ) where
    live_set : (s : Slot) → find es part key ≡ Some s → ((p : ℕ) (v : List ℕ) → p ≢ part → IsLiveAt es p key v → ⊥) →
        HasContent (set_entry es part key value false) (insert (content es) key value)
    live_set s h none =
        made_live part key (Some (value, false)) (edits.rise.reset part key value false) same_content
        (edits.change.reset part key value false (present part key s h)) value refl none

    made_ghost_law : IsLiveAt es part key old → HasContent (set_entry es part key value true) (remove (content es) key)
    made_ghost_law was =
        made_dead part key (Some (value, true)) (edits.rise.reset part key value true) same_content
        (edits.change.reset part key value true (present part key (old, false) was.there)) old refl was

    ghost_set_law : find es part key ≡ Some (old, true) → HasContent (set_entry es part key value true) (content es)
    ghost_set_law h =
        kept_dead part key (Some (value, true)) (edits.rise.reset part key value true) same_content
        (edits.change.reset part key value true (present part key (old, true) h)) refl (ap live_value h)

  module _ (part : ℕ) (key : OrderedKey) (old : List ℕ) where
    removed_law : IsLiveAt es part key old → HasContent (remove_entry es part key) (remove (content es) key)
    removed_law was = made_dead part key None (edits.rise.removed part key) same_content (edits.change.removed part key)
        old refl was

    ghost_removed_law : find es part key ≡ Some (old, true) → HasContent (remove_entry es part key) (content es)
    ghost_removed_law h = kept_dead part key None (edits.rise.removed part key) same_content
        (edits.change.removed part key) refl (ap live_value h)

  -- the key is taken out of its place, and the entry is put at another
  put_back : (key : OrderedKey) (value : List ℕ) → get (content es) key ≡ Some value →
      insert (remove (content es) key) key value ≡ content es
  put_back key value h = same_map key_cmp-total key_cmp-exact (insert (remove (content es) key) key value) (content es)
      (λ q.
      ⊎_elim
      (λ tie. subst (λ x. get (insert (remove (content es) key) key value) x ≡ get (content es) x)
      (sym (key_eq-exact q key tie)) (get_inserted (remove (content es) key) key value ∙ sym h))
      (λ apart. get_beside_inserted (remove (content es) key) key value q apart ∙ get_beside_removed (content es) key q
      apart)
      (cases_Bool (eq_by_cmp key_cmp q key)))

  module _ (part part' : ℕ) (key : OrderedKey) (value : List ℕ) (was : IsLiveAt es part key value)
      (apart : same_place part' key part key ≡ false) (es' : List Entry) (slot : Option Slot) (rising' : IsRising es')
      (change : IsChangedAt (remove_entry es part key) es' part' key slot) where
    pub settled : live_value slot ≡ Some value → HasContent es' (content es)
    settled is_live =
        let out = removed_law part key value was in
        let none : (p : ℕ) (v : List ℕ) → p ≢ part' → IsLiveAt (remove_entry es part key) p key v → ⊥ = λ p v n live.
        none-some v (sym (ap (λ (m : PlainMap). get m key) out.same ∙ get_removed (content es) key) ∙
        content_live (remove_entry es part key) out.rising out.one_place p key v live) in
        let into = made_live part' key slot rising' out change value is_live none in
        record {
          rising = into.rising;
          one_place = into.one_place;
          same = into.same ∙ put_back key value (content_live es rising one part key value was);
        }

  moved_law : (x : Entry) (part : ℕ) → IsLiveAt es part x.key x.value → part ≢ x.part → x.is_ghost ≡ false →
      find es x.part x.key ≡ None → HasContent (remove_entry (insert_entry es x) part x.key) (content es)
  moved_law x part was other live absent =
      let apart : same_place x.part x.key part x.key ≡ false =
      other_part x.part part x.key x.key (λ e. other (sym e)) in
      let taken = edits.change.removed part x.key in
      let left = edit_laws (remove_entry es part x.key) (edits.rise.removed part x.key) in
      subst (λ (l : List Entry). HasContent l (content es)) (sym (edits.commute.inserted x part x.key absent apart))
      (settled part x.part x.key x.value was apart (insert_entry (remove_entry es part x.key) x) (Some (slot_of x))
      (left.rise.inserted x (taken.elsewhere x.part x.key apart ∙ absent)) (left.change.inserted x)
      (cond-false x.is_ghost None (Some x.value) live))

  moved_over_ghost_law : (part part' : ℕ) (key : OrderedKey) (value old : List ℕ) → IsLiveAt es part key value →
      find es part' key ≡ Some (old, true) → HasContent (remove_entry (set_entry es part' key value false) part key)
      (content es)
  moved_over_ghost_law part part' key value old was ghost =
      let other : part' ≢ part = λ e. true≢false (ap (λ (s : Slot). s.1)
      (same_Some _ _ (sym ghost ∙ ap (λ p. find es p key) e ∙ was.there))) in
      let apart : same_place part' key part key ≡ false = other_part part' part key key other in
      let taken = edits.change.removed part key in
      let left = edit_laws (remove_entry es part key) (edits.rise.removed part key) in
      subst (λ (l : List Entry). HasContent l (content es))
      (sym (edits.commute.reset part' key value false part key (present part' key (old, true) ghost) apart))
      (settled part part' key value was apart (set_entry (remove_entry es part key) part' key value false)
      (Some (value, false))
      (left.rise.reset part' key value false) (left.change.reset part' key value false
      (ap is_some (taken.elsewhere part' key apart ∙ ghost))) refl)

  pub content_laws : ContentLaws es
  content_laws = record {
    reads = record {
      live = content_live es rising one;
      found = content_found es rising;
      dead = content_dead es rising;
      has_one = content_has_one es rising one;
    };
    adds = record { added = added_law; ghost_added = ghost_added_law };
    sets = record {
      replaced = λ part key old value was. live_set part key old value (old, false) was.there (alone part key old was);
      made_ghost = made_ghost_law;
      revived = λ part key old value ghost none. live_set part key old value (old, true) ghost
          (λ p v n. nowhere key none p v);
      ghost_set = ghost_set_law;
    };
    removes = record { removed = removed_law; ghost_removed = ghost_removed_law };
    moves = record { moved = moved_law; moved_over_ghost = moved_over_ghost_law };
  }

-- nothing is live in the empty list
pub empty_content : HasContent [] empty
empty_content = content_from [] empty tt (λ key. record {
  sound = λ part v h. absurd (none-some v h);
  full = λ v h. absurd (none-some v (sym (get-empty key_cmp key) ∙ h));
  one = λ part part' v v' h h'. absurd (none-some v h);
})
