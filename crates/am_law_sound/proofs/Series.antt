-- Entries that one operation changes one after another.
use Rattle.std.proofs.Common.{◌≡◌, ◌≢◌, ℕ, List, [], ◌∷◌, ◌++◌, Bool, true, false, refl, sym, ap, ◌∙◌, subst}
use Rattle.std.proofs.Common.{⊎_elim, Option, Some, None}
use Rattle.std.specs.Prelude.{is_some}
use Rattle.std.specs.List.{AllByRecursion, cons_option}
use Rattle.std.specs.Option.{option_map}
use Rattle.std.specs.Ordering.{eq_by_cmp, is_lt}
use Rattle.std.specs.FinMap.{get, insert, remove, same_map, get-remove, is_sorted}
use Rattle.std.specs.FinMap.Entries.{below_all}
use Rattle.std.proofs.lemmas.Bool.{cases_Bool, cond-true, cond-false, and_parts, or_cases, true≢false, false≢true}
use Rattle.std.proofs.lemmas.Option.{none-some}
use Rattle.std.proofs.lemmas.Cmp.{tied_itself}
use Rattle.std.proofs.lemmas.List.{append_assoc}
use Rattle.am_record.specs.OrderedKey.{OrderedKey, key_cmp, key_cmp-total, key_cmp-exact, key_eq-exact}
use Rattle.am_record.specs.EntryOrder.{Place}
use Rattle.am_record.specs.Plain.{Records, PlainMap, is_key_of, insert_all, remove_all}
use Rattle.am_record.specs.declared.entry.Entry.{Entry}
use Rattle.am_index.specs.Entries.{Slot, slot_of, find, set_entry, IsRising}
use Rattle.am_index.specs.Edits.{IsChangedAt}
use Rattle.am_index.specs.Content.{content, IsLiveAt, OnePlace, HasContent}
use Rattle.am_index.proofs.Edits.{apart_places, entry_at_beside_reset}
use Rattle.am_index.proofs.EditLaws.{edit_laws}
use Rattle.am_index.proofs.ContentLaws.{content_laws}
use Rattle.am_store_undo.specs.declared.note.Note.{Note}
use Rattle.am_store_undo.specs.Undo.{Undoes}
use Rattle.am_store_undo.proofs.TakeBacks.{undo_laws}
use Rattle.am_law_serial.specs.Trace.{Effect}
use Rattle.am_law_effect.specs.Places.{look}
use Rattle.am_law_effect.specs.History.{wrote_by}
use Rattle.am_law_effect.specs.Laws.{Sweeps}
use Rattle.am_law_effect.specs.Operations.{find_live, with_value, with_ghost, with_ghosts, note_of_entry}
use Rattle.am_law_effect.specs.Operations.{notes_of_ghosts}
use Rattle.am_law_effect.specs.Operations.{Update}
use Rattle.am_law_effect.specs.Operations.{updates, updated, notes_of_updates}
use Rattle.am_law_effect.proofs.KnownEdits.{known_laws, found_live}
use Rattle.am_law_effect.proofs.Puts.{IsUpdate, rows_of, updates_live}
use Rattle.am_law_effect.proofs.Sweeps.{sweeps_none, sweeps_one, sweeps_both}

-- a map without a key that it hasn't
pub remove_none : (n : PlainMap) (k : OrderedKey) → get n k ≡ None → remove n k ≡ n
remove_none n k none = same_map key_cmp-total key_cmp-exact _ _ (λ q.
    get-remove key_cmp-total n k q ∙ ⊎_elim
    (λ yes. cond-true _ None (get n q) yes ∙ sym none ∙ ap (get n) (sym (key_eq-exact q k yes)))
    (λ no. cond-false _ None (get n q) no)
    (cases_Bool (eq_by_cmp key_cmp q k)))

-- no key of records that are all above another is that one
pub key_apart : (k : OrderedKey) (ps : Records) (q : OrderedKey) → below_all key_cmp k ps ≡ true →
    is_key_of ps q ≡ true → q ≢ k
key_apart k [] q b h = absurd (false≢true h)
key_apart k (x ∷ ps) q b h =
    let parts = and_parts (is_lt (key_cmp k x.0)) (below_all key_cmp k ps) b in
    ⊎_elim
    (λ here same. true≢false (sym parts.0 ∙ ap (λ y. is_lt (key_cmp k y)) (sym (key_eq-exact q x.0 here) ∙ same) ∙
    ap is_lt (tied_itself key_cmp-total k)))
    (λ later. key_apart k ps q parts.1 later)
    (or_cases (eq_by_cmp key_cmp q x.0) (is_key_of ps q) h)

-- no two of the updates are of one key
abbrev pub AreApart : List Update → Type 0
AreApart [] = Unit {0}
AreApart (u ∷ us) = AllByRecursion (λ (w : Update). w.0.key ≢ u.0.key) us × AreApart us

module _ (es : List Entry) (rise : IsRising es) (one : OnePlace es) where
  others_apart : (k : OrderedKey) (rs : Records) (us : List Update) → below_all key_cmp k rs ≡ true →
      AllByRecursion (IsUpdate es rise one rs) us → AllByRecursion (λ (w : Update). w.0.key ≢ k) us
  others_apart k rs [] b all = tt
  others_apart k rs (u ∷ us) b all = (key_apart k rs u.0.key b all.0.of_key, others_apart k rs us b all.1)

  pub updates_apart : (rs : Records) → is_sorted key_cmp rs ≡ true → AreApart (updates rs es)
  updates_apart [] sorted = tt
  updates_apart (r ∷ rs) sorted =
      let parts = and_parts (below_all key_cmp r.0 rs) (is_sorted key_cmp rs) sorted in
      by_entry (find_live es r.0) refl
      (others_apart r.0 rs (updates rs es) parts.0 (updates_live es rise one rs)) (updates_apart rs parts.1)
    where
      by_entry : (o : Option Entry) → find_live es r.0 ≡ o →
          AllByRecursion (λ (w : Update). w.0.key ≢ r.0) (updates rs es) → AreApart (updates rs es) →
          AreApart (cons_option (option_map (λ (e : Entry). (e, r.1)) o) (updates rs es))
      by_entry None h apart rest = rest
      by_entry (Some e) h apart rest = (
        subst (λ (k : OrderedKey). AllByRecursion (λ (w : Update). w.0.key ≢ k) (updates rs es))
            (sym (found_live es rise one r.0 e h).0) apart,
        rest,
      )

  -- values that live entries get change nothing where nothing stood
  pub updated_beside : (rs : Records) (us : List Update) (a : Place) (es' : List Entry) →
      AllByRecursion (IsUpdate es rise one rs) us → look es a ≡ None → look (updated us es') a ≡ look es' a
  updated_beside rs [] a es' all none = refl
  updated_beside rs (u ∷ us) a es' all none =
      updated_beside rs us a (with_value (Some u.0) u.1 es') all.1 none
      ∙ ap (option_map slot_of) (entry_at_beside_reset es' u.0.part u.0.key u.1 false a.0 a.1
      (apart_places (u.0.part, u.0.key) a (λ h. none-some (u.0.value, false)
      (sym none ∙ ap (look es) (sym h) ∙ all.0.live.there))))

-- the entries that may be written are changed by an event that wrote their keys, and leave this content
pub record AreChanged (t : ℕ) (d : Effect) (may : OrderedKey → Bool) (n : PlainMap) (es es' : List Entry)
    (new : List Note) : Type 0 where
  pub has : HasContent es' n
  pub undo : (notes : List Note) (owned : OrderedKey → Bool) (before : OrderedKey → Option (List ℕ)) →
      ((q : OrderedKey) → may q ≡ true → owned q ≡ true) → Undoes es notes owned before →
      Undoes es' (new ++ notes) owned before
  pub sweeps : Sweeps t d es es' new

-- the update is of a live entry that may be written
pub record IsAllowed (may : OrderedKey → Bool) (es : List Entry) (u : Update) : Type 0 where
  pub may_write : may u.0.key ≡ true
  pub mark : u.0.is_ghost ≡ false
  pub live : IsLiveAt es u.0.part u.0.key u.0.value

module _ (t : ℕ) (d : Effect) (may : OrderedKey → Bool)
    (wrote_may : (q : OrderedKey) → may q ≡ true → wrote_by t q d ≡ true) where
  none_changed : (es : List Entry) → IsRising es → OnePlace es → AreChanged t d may (content es) es es []
  none_changed es rise one = record {
    has = record { rising = rise; one_place = one; same = refl };
    undo = λ notes owned before more u. u;
    sweeps = sweeps_none t d es;
  }

  one_changed : (es : List Entry) → IsRising es → OnePlace es → (x : Entry) (value : List ℕ) (is_ghost : Bool)
      (n : PlainMap) → x.is_ghost ≡ false → IsLiveAt es x.part x.key x.value → may x.key ≡ true →
      HasContent (set_entry es x.part x.key value is_ghost) n →
      AreChanged t d may n es (set_entry es x.part x.key value is_ghost) (note_of_entry (Some x))
  one_changed es rise one x value is_ghost n mark live may_x has =
      let there : find es x.part x.key ≡ Some (x.value, x.is_ghost) = live.there ∙ ap (slot x.value) (sym mark) in
      let change = (edit_laws es rise).change.reset x.part x.key value is_ghost (ap is_some there) in
      record {
        has = has;
        undo = λ notes owned before more u. (undo_laws es notes owned before rise one u).own.changed x.part x.key
            x.value x.is_ghost value is_ghost (more x.key may_x) there;
        sweeps = sweeps_one t d es (set_entry es x.part x.key value is_ghost) x.part x.key (x.value, x.is_ghost)
            (value, is_ghost) (wrote_may x.key may_x) there change.here
            (λ b n. change.elsewhere b.0 b.1 (apart_places b (x.part, x.key) n));
      }
    where
      slot : List ℕ → Bool → Option Slot
      slot v g = Some (v, g)

  then_changed : (es es' es'' : List Entry) (m n : PlainMap) (xs ys : List Note) → AreChanged t d may m es es' xs →
      AreChanged t d may n es' es'' ys → AreChanged t d may n es es'' (ys ++ xs)
  then_changed es es' es'' m n xs ys first later = record {
    has = later.has;
    undo = λ notes owned before more u.
        subst (λ l. Undoes es'' l owned before) (sym (append_assoc ys xs notes))
        (later.undo (xs ++ notes) owned before more (first.undo notes owned before more u));
    sweeps = sweeps_both t d es es' es'' xs ys first.sweeps later.sweeps;
  }

  -- ---- records that are deleted

  one_gone : (r : OrderedKey × List ℕ) (es : List Entry) → IsRising es → OnePlace es → may r.0 ≡ true →
      (o : Option Entry) → find_live es r.0 ≡ o →
      AreChanged t d may (remove (content es) r.0) es (with_ghost o es) (note_of_entry o)
  one_gone r es rise one may_r None e = subst (λ (n : PlainMap). AreChanged t d may n es es [])
      (sym (remove_none (content es) r.0 ((content_laws es rise one).reads.dead r.0 (λ p v live.
      none-some _ (sym e ∙ (known_laws es rise one).live p r.0 v live)))))
      (none_changed es rise one)
  one_gone r es rise one may_r (Some x) e =
      let f = found_live es rise one r.0 x e in
      one_changed es rise one x x.value true (remove (content es) r.0) f.1.0 f.1.1 (ap may f.0 ∙ may_r)
      (subst (λ (k : OrderedKey). HasContent (set_entry es x.part x.key x.value true) (remove (content es) k)) f.0
      ((content_laws es rise one).sets.made_ghost x.part x.key x.value x.value f.1.1))

  pub all_gone : (rs : Records) (es : List Entry) → IsRising es → OnePlace es →
      AllByRecursion (λ (r : OrderedKey × List ℕ). may r.0 ≡ true) rs →
      AreChanged t d may (remove_all rs (content es)) es (with_ghosts rs es) (notes_of_ghosts rs es)
  all_gone [] es rise one all = none_changed es rise one
  all_gone (r ∷ rs) es rise one all =
      let es' : List Entry = with_ghost (find_live es r.0) es in
      let n : PlainMap = remove (content es) r.0 in
      let first : AreChanged t d may n es es' (note_of_entry (find_live es r.0)) =
      one_gone r es rise one all.0 (find_live es r.0) refl in
      then_changed es es' (with_ghosts rs es') n (remove_all rs n) (note_of_entry (find_live es r.0))
      (notes_of_ghosts rs es') first
      (subst (λ (m : PlainMap). AreChanged t d may (remove_all rs m) es' (with_ghosts rs es') (notes_of_ghosts rs es'))
      first.has.same (all_gone rs es' first.has.rising first.has.one_place all.1))

  -- ---- records that get another value

  pub all_set : (us : List Update) (es : List Entry) → IsRising es → OnePlace es →
      AllByRecursion (IsAllowed may es) us → AreApart us →
      AreChanged t d may (insert_all (rows_of us) (content es)) es (updated us es) (notes_of_updates us)
  all_set [] es rise one all apart = none_changed es rise one
  all_set (u ∷ us) es rise one all apart =
      let x : Entry = u.0 in
      let es' : List Entry = set_entry es x.part x.key u.1 false in
      let n : PlainMap = insert (content es) x.key u.1 in
      let there : find es x.part x.key ≡ Some (x.value, false) = all.0.live.there in
      let change : IsChangedAt es es' x.part x.key (Some (u.1, false)) =
      (edit_laws es rise).change.reset x.part x.key u.1 false (ap is_some there) in
      let first : AreChanged t d may n es es' (note_of_entry (Some x)) =
      one_changed es rise one x u.1 false n all.0.mark all.0.live all.0.may_write
      ((content_laws es rise one).sets.replaced x.part x.key x.value u.1 all.0.live) in
      then_changed es es' (updated us es') n (insert_all (rows_of us) n) (note_of_entry (Some x))
      (notes_of_updates us) first
      (subst (λ (m : PlainMap). AreChanged t d may (insert_all (rows_of us) m) es' (updated us es')
      (notes_of_updates us)) first.has.same
      (all_set us es' first.has.rising first.has.one_place (still x change us all.1 apart.0) apart.1))
    where
      still : {es es' : List Entry} (x : Entry) {s : Option Slot} → IsChangedAt es es' x.part x.key s →
          (us : List Update) → AllByRecursion (IsAllowed may es) us → AllByRecursion (λ (w : Update). w.0.key ≢ x.key)
          us →
          AllByRecursion (IsAllowed may es') us
      still x c [] all apart = tt
      still x c (w ∷ ws) all apart = (
        record {
          may_write = all.0.may_write;
          mark = all.0.mark;
          live = record {
            there = c.elsewhere w.0.part w.0.key (apart_places (w.0.part, w.0.key) (x.part, x.key)
                (λ h. apart.0 (ap (λ (a : Place). a.1) h))) ∙ all.0.live.there;
          };
        },
        still x c ws all.1 apart.1,
      )
