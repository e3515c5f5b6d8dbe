-- What the changes of partitions keep, and what they do to the content.
use Rattle.std.proofs.Common.{◌≡◌, ◌≢◌, ◌<◌, ◌^◌, ℕ, List, [], ◌∷◌, Bool, true, false, cond, Option, Some, None, refl}
use Rattle.std.proofs.Common.{sym, ap, ◌∙◌, subst, ⊎_elim, Result, Ok, Err, arith}
use Rattle.std.specs.Prelude.{IsSome, is_some, OnOk, OnErr}
use Rattle.std.proofs.lemmas.Bool.{cases_Bool, cond-true, cond-false, false≢true, true≢false}
use Rattle.std.proofs.lemmas.Option.{same_Some}
use Rattle.std.specs.Ordering.{is_eq, is_lt}
use Rattle.std.specs.List.{AllByRecursion}
use Rattle.std.specs.FinMap.{get, remove}
use Rattle.am_record.specs.OrderedKey.{OrderedKey}
use Rattle.am_record.specs.Plain.{PlainMap}
use Rattle.am_record.specs.EntryOrder.{place_cmp, place_of}
use Rattle.am_record.specs.declared.entry.Entry.{Entry}
use Rattle.am_index.specs.Entries.{Slot, slot_of, find, insert_entry, set_entry, remove_entry}
use Rattle.am_index.specs.Content.{content, HasContent, live_value, ContentLaws}
use Rattle.am_index_parts.specs.Partitions.{AreWellFormed, LivesNowhereElse, content_with, content_without, content_set}
use Rattle.am_index_parts.specs.Partitions.{settled, brought_home}
use Rattle.am_index_parts.proofs.Lives.{laws_of}
use Rattle.am_index_parts.proofs.Homes.{content_at_home}

-- ---- the numbers of partitions

abbrev PartsFit : List Entry → Type 0
PartsFit es = AllByRecursion (λ e. e.part < 2 ^ 32) es

fits_inserted : (es : List Entry) (x : Entry) → x.part < 2 ^ 32 → PartsFit es → PartsFit (insert_entry es x)
fits_inserted [] x h fits = (h, tt)
fits_inserted (e ∷ es) x h fits =
    elim (is_lt (place_cmp (place_of e) (place_of x))) as
    (λ b. PartsFit (cond b (e ∷ insert_entry es x) (x ∷ e ∷ es))) [
      | true ↦ (fits.0, fits_inserted es x h fits.1)
      | false ↦ (h, fits)
    ]

module _ (part : ℕ) (key : OrderedKey) where
  fits_set : (es : List Entry) (value : List ℕ) (is_ghost : Bool) → PartsFit es →
      PartsFit (set_entry es part key value is_ghost)
  fits_set [] value is_ghost fits = tt
  fits_set (e ∷ es) value is_ghost fits =
      elim (is_eq (place_cmp (place_of e) (part, key))) as
      (λ b. PartsFit (cond b (record e { value = value; is_ghost = is_ghost } ∷ es)
      (e ∷ set_entry es part key value is_ghost))) [
        | true ↦ fits
        | false ↦ (fits.0, fits_set es value is_ghost fits.1)
      ]

  fits_removed : (es : List Entry) → PartsFit es → PartsFit (remove_entry es part key)
  fits_removed [] fits = tt
  fits_removed (e ∷ es) fits =
      elim (is_eq (place_cmp (place_of e) (part, key))) as (λ b. PartsFit (cond b es (e ∷ remove_entry es part key))) [
        | true ↦ fits.1
        | false ↦ (fits.0, fits_removed es fits.1)
      ]

fits_settled : (e : Entry) (es : List Entry) → PartsFit es → PartsFit (settled e es)
fits_settled e es fits = elim (is_some (find es 0 e.key)) as
    (λ b. PartsFit (cond b (set_entry es 0 e.key e.value false)
    (insert_entry es (record e { part = 0; is_ghost = false })))) [
      | true ↦ fits_set 0 e.key es e.value false fits
      | false ↦ fits_inserted es (record e { part = 0; is_ghost = false }) (omega arith) fits
    ]

-- ---- the content

module _ {es : List Entry} (sound : AreWellFormed es) where
  laws : ContentLaws es
  laws = laws_of sound

  pub added : (x : Entry) → find es x.part x.key ≡ None → (x.is_ghost ≡ false → get (content es) x.key ≡ None) →
      HasContent (insert_entry es x) (content_with es x)
  added x absent dead =
      ⊎_elim
      (λ ghost. subst (HasContent (insert_entry es x)) (sym (cond-true x.is_ghost (content es) _ ghost))
      (laws.adds.ghost_added x absent ghost))
      (λ live. subst (HasContent (insert_entry es x)) (sym (cond-false x.is_ghost (content es) _ live))
      (laws.adds.added x absent live (dead live)))
      (cases_Bool x.is_ghost)

  module _ (part : ℕ) (key : OrderedKey) where
    -- a ghost of the key stands in the partition, and no other partition has it live
    lacks : (old : List ℕ) → find es part key ≡ Some (old, true) → LivesNowhereElse es part key →
        get (content es) key ≡ None
    lacks old ghost alone = laws.reads.dead key (λ part' value live.
        let there : find es part key ≡ Some (value, false) =
        ap (λ p. find es p key) (sym (alone.only part' value live)) ∙ live.there in
        true≢false (ap (λ (s : Slot). s.1) (same_Some _ _ (sym ghost ∙ there))))

    without_live : (old : List ℕ) → find es part key ≡ Some (old, false) → content_without es part key ≡ remove
        (content es) key
    without_live old h = ap (λ (o : Option Slot). cond (is_some (live_value o)) (remove (content es) key) (content es))
        h

    pub without_ghost : (old : List ℕ) → find es part key ≡ Some (old, true) → content_without es part key ≡ content es
    without_ghost old h = ap (λ (o : Option Slot). cond (is_some (live_value o)) (remove (content es) key) (content es))
        h

    pub marked : (value : List ℕ) (is_ghost : Bool) → IsSome (find es part key) →
        (is_ghost ≡ false → LivesNowhereElse es part key)
        → HasContent (set_entry es part key value is_ghost) (content_set es part key value is_ghost)
    marked value is_ghost there alone = by_cases (find es part key) is_ghost refl there alone
      where
        by_cases : (o : Option Slot) (is_ghost : Bool) → find es part key ≡ o → IsSome o →
            (is_ghost ≡ false → LivesNowhereElse es part key) → HasContent (set_entry es part key value is_ghost)
            (content_set es part key value is_ghost)
        by_cases None is_ghost h there alone = absurd (false≢true there)
        by_cases (Some (old, false)) false h there alone = laws.sets.replaced part key old value (record { there = h })
        by_cases (Some (old, false)) true h there alone = subst (HasContent (set_entry es part key value true))
            (sym (without_live old h)) (laws.sets.made_ghost part key old value (record { there = h }))
        by_cases (Some (old, true)) false h there alone = laws.sets.revived part key old value h
            (lacks old h (alone refl))
        by_cases (Some (old, true)) true h there alone = subst (HasContent (set_entry es part key value true))
            (sym (without_ghost old h)) (laws.sets.ghost_set part key old value h)

    pub taken : IsSome (find es part key) → HasContent (remove_entry es part key) (content_without es part key)
    taken there = by_cases (find es part key) refl there
      where
        by_cases : (o : Option Slot) → find es part key ≡ o → IsSome o → HasContent (remove_entry es part key)
            (content_without es part key)
        by_cases None h there = absurd (false≢true there)
        by_cases (Some (old, false)) h there = subst (HasContent (remove_entry es part key)) (sym (without_live old h))
            (laws.removes.removed part key old (record { there = h }))
        by_cases (Some (old, true)) h there = subst (HasContent (remove_entry es part key)) (sym (without_ghost old h))
            (laws.removes.ghost_removed part key old h)

-- ---- what a change of the index is of the partitions: e says that they see the index's entries

-- the list after the change, and a map that is its content
pub record IsAfter (es' : List Entry) (m : PlainMap) : Type 0 where
  pub sound : AreWellFormed es'
  pub has : HasContent es' m

becomes : {after es' : List Entry} {m : PlainMap} → HasContent after m → PartsFit after → es' ≡ after → IsAfter es' m
becomes {after} {es'} {m} h fits is = record {
  sound = subst AreWellFormed (sym is) (record { rising = h.rising; one_place = h.one_place; fits = fits });
  has = subst (λ l. HasContent l m) (sym is) h;
}

module _ {es seen : List Entry} (e : es ≡ seen) (was : AreWellFormed es) where
  seen_sound : AreWellFormed seen
  seen_sound = subst AreWellFormed e was

  pub marks : {es' : List Entry} (part : ℕ) (key : OrderedKey) (value : List ℕ) (is_ghost : Bool) →
      IsSome (find seen part key) → (is_ghost ≡ false → LivesNowhereElse seen part key)
      → es' ≡ set_entry es part key value is_ghost → IsAfter es' (content_set seen part key value is_ghost)
  marks part key value is_ghost there alone is =
      becomes (marked seen_sound part key value is_ghost there alone)
      (fits_set part key seen value is_ghost seen_sound.fits) (is ∙ ap (λ l. set_entry l part key value is_ghost) e)

  pub takes : {es' : List Entry} (part : ℕ) (key : OrderedKey) → IsSome (find seen part key) →
      es' ≡ remove_entry es part key → IsAfter es' (content_without seen part key)
  takes part key there is = becomes (taken seen_sound part key there) (fits_removed part key seen seen_sound.fits)
      (is ∙ ap (λ l. remove_entry l part key) e)

  pub homes : {es' : List Entry} (x : Entry) → find seen x.part x.key ≡ Some (slot_of x) → x.part ≢ 0 →
      x.is_ghost ≡ false → es' ≡ brought_home x es → IsAfter es' (content seen)
  homes x stands in_run live is =
      becomes (content_at_home x seen in_run seen_sound stands live)
      (fits_removed x.part x.key (settled x seen) (fits_settled x seen seen_sound.fits))
      (is ∙ ap (λ l. brought_home x l) e)

  module _ (x : Entry) (fits : x.part < 2 ^ 32) (absent : find seen x.part x.key ≡ None)
      (dead : x.is_ghost ≡ false → get (content seen) x.key ≡ None) where
    pub adds : {es' : List Entry} → es' ≡ insert_entry es x → IsAfter es' (content_with seen x)
    adds is = becomes (added seen_sound x absent dead) (fits_inserted seen x fits seen_sound.fits)
        (is ∙ ap (λ l. insert_entry l x) e)

    pub adds_sound : {T E : Type 0} {es' : List Entry} (r : Result T E) → OnOk r (es' ≡ insert_entry es x) →
        OnErr r (es' ≡ es) → AreWellFormed es'
    adds_sound (Ok v) ok err = (adds ok).sound
    adds_sound (Err v) ok err = subst AreWellFormed (sym err) was

    pub adds_content : {T E : Type 0} (es' : List Entry) (r : Result T E) → OnOk r (es' ≡ insert_entry es x) →
        OnOk r (HasContent es' (content_with seen x))
    adds_content es' (Ok v) ok = (adds ok).has
    adds_content es' (Err v) ok = tt
