-- Records of which some keys are live and others are new.
use Rattle.std.proofs.Common.{◌≡◌, List, [], ◌∷◌, ◌++◌, map, filter, Bool, true, false, cond, refl, sym, ap, ◌∙◌}
use Rattle.std.proofs.Common.{⊎_elim, Option, Some, None, ℕ}
use Rattle.std.specs.Prelude.{◌||◌, not, is_some}
use Rattle.std.specs.List.{AllByRecursion, cons_option}
use Rattle.std.specs.Option.{option_map}
use Rattle.std.specs.Ordering.{eq_by_cmp}
use Rattle.std.specs.FinMap.{get, contains_key}
use Rattle.std.proofs.lemmas.Bool.{false≢true, or_cases, or_left, or_right, cond_both}
use Rattle.std.proofs.lemmas.List.{append_assoc}
use Rattle.am_record.specs.OrderedKey.{OrderedKey, key_cmp, key_eq-exact}
use Rattle.am_record.specs.Plain.{Records, PlainMap, is_key_of, has_new}
use Rattle.am_record.specs.declared.entry.Entry.{Entry}
use Rattle.am_record.proofs.FirstRows.{key_eq-itself}
use Rattle.am_index.specs.Entries.{IsRising}
use Rattle.am_index.specs.Content.{content, IsLiveAt, OnePlace}
use Rattle.am_index.proofs.ContentLaws.{content_laws}
use Rattle.am_index.proofs.Content.{content_live}
use Rattle.am_store_undo.specs.declared.note.Note.{Note}
use Rattle.am_law_effect.specs.Operations.{find_live, with_value, new_records, Update, updates, updated}
use Rattle.am_law_effect.specs.Operations.{note_of_entry, notes_of_updates}
use Rattle.am_law_effect.proofs.KnownEdits.{known_laws, found_live}

-- ---- the new ones

abbrev pub are_any : Records → Bool
are_any [] = false
are_any (r ∷ rs) = true

module _ (m : PlainMap) where
  pub has_new_records : (rs : Records) → has_new rs m ≡ are_any (new_records rs m)
  has_new_records [] = refl
  has_new_records (r ∷ rs) = by_key (not (contains_key m r.0)) (has_new_records rs)
    where
      by_key : (b : Bool) → has_new rs m ≡ are_any (new_records rs m) →
          (b || has_new rs m) ≡ are_any (cond b (r ∷ new_records rs m) (new_records rs m))
      by_key true rest = refl
      by_key false rest = rest

  dead : (k : OrderedKey) → not (contains_key m k) ≡ true → get m k ≡ None
  dead k h = by_value (get m k) h
    where
      by_value : (o : Option (List ℕ)) → not (is_some o) ≡ true → o ≡ None
      by_value None h = refl
      by_value (Some v) h = absurd (false≢true h)

  -- a new one is one of them, and not in the map
  pub new_key : (rs : Records) (q : OrderedKey) → is_key_of (new_records rs m) q ≡ true →
      (is_key_of rs q ≡ true) × (get m q ≡ None)
  new_key [] q h = absurd (false≢true h)
  new_key (r ∷ rs) q h =
      let rest = new_records rs m in
      let P : Records → Type 0 = λ l. is_key_of l q ≡ true → (is_key_of (r ∷ rs) q ≡ true) × (get m q ≡ None) in
      let later : P rest = λ k. let x = new_key rs q k in
      (or_right (eq_by_cmp key_cmp q r.0) (is_key_of rs q) x.0, x.1) in
      cond_both (not (contains_key m r.0)) (r ∷ rest) rest P
      (λ yes k. ⊎_elim
      (λ here. (
        or_left (eq_by_cmp key_cmp q r.0) (is_key_of rs q) here,
        ap (get m) (key_eq-exact q r.0 here) ∙ dead r.0 yes,
      ))
      later
      (or_cases (eq_by_cmp key_cmp q r.0) (is_key_of rest q) k))
      (λ no. later)
      h

-- ---- the live ones

-- the records that the updates are of
abbrev pub rows_of : List Update → Records
rows_of us = map (λ (u : Update). (u.0.key, u.1)) us

module _ (es : List Entry) (rise : IsRising es) (one : OnePlace es) where
  abbrev m : PlainMap
  m = content es

  -- an update is of the live entry of a key among these
  pub record IsUpdate (rs : Records) (u : Update) : Type 0 where
    pub of_key : is_key_of rs u.0.key ≡ true
    pub mark : u.0.is_ghost ≡ false
    pub live : IsLiveAt es u.0.part u.0.key u.0.value

  more : (r : OrderedKey × List ℕ) (rs : Records) (us : List Update) → AllByRecursion (IsUpdate rs) us →
      AllByRecursion (IsUpdate (r ∷ rs)) us
  more r rs [] all = tt
  more r rs (u ∷ us) all = (
    record {
      of_key = or_right (eq_by_cmp key_cmp u.0.key r.0) (is_key_of rs u.0.key) all.0.of_key;
      mark = all.0.mark;
      live = all.0.live;
    },
    more r rs us all.1,
  )

  -- whether a key is live
  record IsFound (r : OrderedKey × List ℕ) (o : Option Entry) : Type 0 where
    in_map : contains_key m r.0 ≡ is_some o
    key : (e : Entry) → o ≡ Some e → e.key ≡ r.0
    mark : (e : Entry) → o ≡ Some e → e.is_ghost ≡ false
    live : (e : Entry) → o ≡ Some e → IsLiveAt es e.part e.key e.value

  found : (r : OrderedKey × List ℕ) → IsFound r (find_live es r.0)
  found r = record {
    in_map = by_entry (find_live es r.0) refl;
    key = λ e h. (found_live es rise one r.0 e h).0;
    mark = λ e h. (found_live es rise one r.0 e h).1.0;
    live = λ e h. (found_live es rise one r.0 e h).1.1;
  }
    where
      by_entry : (o : Option Entry) → find_live es r.0 ≡ o → contains_key m r.0 ≡ is_some o
      by_entry None h = ap is_some ((content_laws es rise one).reads.dead r.0 (λ p v live.
          none_some (sym h ∙ (known_laws es rise one).live p r.0 v live)))
        where
          none_some : {e : Entry} → None ≡ Some e → ⊥
          none_some k = cc
      by_entry (Some e) h = let f = found_live es rise one r.0 e h in
          ap (contains_key m) (sym f.0) ∙ ap is_some (content_live es rise one e.part e.key e.value f.1.1)

  pub updates_live : (rs : Records) → AllByRecursion (IsUpdate rs) (updates rs es)
  updates_live [] = tt
  updates_live (r ∷ rs) = by_entry (find_live es r.0) refl (more r rs (updates rs es) (updates_live rs))
    where
      by_entry : (o : Option Entry) → find_live es r.0 ≡ o → AllByRecursion (IsUpdate (r ∷ rs)) (updates rs es) →
          AllByRecursion (IsUpdate (r ∷ rs))
          (cons_option (option_map (λ (e : Entry). (e, r.1)) o) (updates rs es))
      by_entry None h rest = rest
      by_entry (Some e) h rest = (
        record {
          of_key = or_left (eq_by_cmp key_cmp e.key r.0) (is_key_of rs e.key)
              (ap (λ (k : OrderedKey). eq_by_cmp key_cmp k r.0) ((found r).key e h) ∙ key_eq-itself r.0);
          mark = (found r).mark e h;
          live = (found r).live e h;
        },
        rest,
      )

  pub rows_of_updates : (rs : Records) → rows_of (updates rs es) ≡ filter
      (λ (r : OrderedKey × List ℕ). contains_key m r.0) rs
  rows_of_updates [] = refl
  rows_of_updates (r ∷ rs) =
      let rest = filter (λ (x : OrderedKey × List ℕ). contains_key m x.0) rs in
      by_entry (find_live es r.0) refl (rows_of_updates rs)
      ∙ ap (λ b. cond b (r ∷ rest) rest) (sym (found r).in_map)
    where
      by_entry : (o : Option Entry) → find_live es r.0 ≡ o → rows_of (updates rs es) ≡ filter
          (λ (x : OrderedKey × List ℕ). contains_key m x.0) rs →
          rows_of (cons_option (option_map (λ (e : Entry). (e, r.1)) o) (updates rs es)) ≡ cond (is_some o)
          (r ∷ filter (λ (x : OrderedKey × List ℕ). contains_key m x.0) rs)
          (filter (λ (x : OrderedKey × List ℕ). contains_key m x.0) rs)
      by_entry None h rest = rest
      by_entry (Some e) h rest = λ i. ((found r).key e h i, r.1) ∷ rest i

-- ---- one more value

pub updated-push : (us : List Update) (u : Update) (es : List Entry) →
    updated (us ++ u ∷ []) es ≡ with_value (Some u.0) u.1 (updated us es)
updated-push [] u es = refl
updated-push (x ∷ us) u es = updated-push us u (with_value (Some x.0) x.1 es)

pub notes_of_updates-push : (us : List Update) (u : Update) →
    notes_of_updates (us ++ u ∷ []) ≡ note_of_entry (Some u.0) ++ notes_of_updates us
notes_of_updates-push [] u = refl
notes_of_updates-push (x ∷ us) u =
    ap (λ (ns : List Note). ns ++ note_of_entry (Some x.0)) (notes_of_updates-push us u)
    ∙ append_assoc (note_of_entry (Some u.0)) (notes_of_updates us) (note_of_entry (Some x.0))
