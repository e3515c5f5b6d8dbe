-- Values that live entries get, one after another, once there is room for them.
use Rattle.std.proofs.Common.{◌≡◌, ◌≢◌, ◌<◌, ◌+◌, ℕ, List, [], ◌∷◌, ◌++◌, length, drop, Bool, true, false, cond}
use Rattle.std.proofs.Common.{refl, sym, ap, ◌∙◌, ⊎_elim, Option, Some, None, arith}
use Rattle.std.specs.Prelude.{get_or, is_some, IsSome, nat_lt, not}
use Rattle.std.specs.List.{AllByRecursion, cons_option}
use Rattle.std.specs.Option.{option_map}
use Rattle.std.specs.Ordering.{eq_by_cmp}
use Rattle.std.specs.FinMap.{get, contains_key, is_sorted}
use Rattle.std.specs.FinMap.Entries.{is_sorted-where_key}
use Rattle.std.proofs.lemmas.Bool.{cases_Bool, cond_both, false≢true, ne_eqb, lt-ltb}
use Rattle.std.proofs.lemmas.Float.{T_from_true}
use Rattle.std.proofs.lemmas.Option.{none-some}
use Rattle.std.proofs.lemmas.List.{append_assoc, drop_more}
use Rattle.am_record.specs.OrderedKey.{OrderedKey, key_cmp}
use Rattle.am_record.specs.EntryOrder.{Place, place_cmp}
use Rattle.am_record.specs.Plain.{Records, PlainMap, has_new, is_rising}
use Rattle.am_record.specs.declared.entry.Entry.{Entry}
use Rattle.am_record.proofs.Lists.{AllByRecursion-map}
use Rattle.am_record.proofs.Outcomes.{is_true}
use Rattle.am_record.proofs.RisingRecords.{run_sorted}
use Rattle.am_index_parts.specs.Partitions.{AreAllAbsent}
use Rattle.am_index.specs.Entries.{slot_of, find, set_entry, IsRising}
use Rattle.am_index.specs.Content.{content, OnePlace}
use Rattle.am_index.specs.Rooms.{HaveRoom, KeepRoom}
use Rattle.am_index.specs.Runs.{NothingAbove, with_run}
use Rattle.am_index.proofs.Edits.{one_place, find_reset, entry_at_beside_reset}
use Rattle.am_index.proofs.Rooms.{room_kept}
use Rattle.am_index.proofs.RunLaws.{run_laws}
use Rattle.am_store_undo.specs.declared.note.Note.{Note}
use Rattle.am_store_undo.specs.declared.note.Note.TheVariants.{Before}
use Rattle.am_law_effect.specs.Operations.{new_records, Update, updates, updated, notes_of_updates}
use Rattle.am_law_effect.proofs.Puts.{IsUpdate, updates_live, has_new_records, are_any}
use Rattle.am_store_operations.specs.Updates.{IsPlaced, HasRoomAtPlace}
use Rattle.am_store_operations.proofs.Ghosts.{stood_set}

-- ---- places

pub stands_placed : (es : List Entry) (u : Update) → IsPlaced es u → is_some (find es u.0.part u.0.key) ≡ true
stands_placed es u placed = ap is_some placed.live.there

-- the entries that are found are where their keys are live
pub found_placed : (es : List Entry) → IsRising es → OnePlace es → (records : Records) →
    AllByRecursion (IsPlaced es) (updates records es)
found_placed es rise one records = AllByRecursion-map (IsUpdate es rise one records) (IsPlaced es)
    (λ u is. record { value = u.0.value; live = is.live }) (updates records es) (updates_live es rise one records)

-- a key stays live where it is when an entry gets another value
pub set_placed : (es : List Entry) (part : ℕ) (key : OrderedKey) (value : List ℕ) (u : Update) → IsPlaced es u →
    IsPlaced (set_entry es part key value false) u
set_placed es part key value u placed = ⊎_elim
    (λ yes.
    let here : ◌≡◌ {A = Place} (part, key) (u.0.part, u.0.key) = one_place (part, key) (u.0.part, u.0.key) yes in
    let stands : is_some (find es part key) ≡ true =
    ap (λ (a : Place). is_some (find es a.0 a.1)) here ∙ stands_placed es u placed in
    record {
      value = value;
      live = record {
        there = ap (λ (a : Place). find (set_entry es part key value false) a.0 a.1) (sym here) ∙
            find_reset es part key value false stands;
      };
    })
    (λ no. record {
      value = placed.value;
      live = record {
        there = ap (option_map slot_of) (entry_at_beside_reset es part key value false u.0.part u.0.key no) ∙
            placed.live.there;
      };
    })
    (cases_Bool (eq_by_cmp place_cmp (part, key) (u.0.part, u.0.key)))

-- and when a run is made
pub run_placed : (es : List Entry) (runs : ℕ) (new : Records) → IsRising es → NothingAbove runs es → (u : Update) →
    IsPlaced es u → IsPlaced (with_run (runs + 1) new es) u
run_placed es runs new rise above u placed = record {
  value = placed.value;
  live = record {
    there = (run_laws es rise).other_parts (runs + 1) new u.0.part u.0.key (ne_eqb u.0.part (runs + 1) old) ∙
        placed.live.there;
  };
}
  where
    old : u.0.part ≢ runs + 1
    old h = none-some (placed.value, false)
        (sym ((run_laws es rise).none_above runs above u.0.part u.0.key (omega arith)) ∙ placed.live.there)

-- room that was got stays where keys stay live
pub all_keep_place : (es es' : List Entry) (roomy roomy' : List Place) → KeepRoom roomy roomy' es' →
    ((u : Update) → IsPlaced es u → IsPlaced es' u) → (us : List Update) →
    AllByRecursion (HasRoomAtPlace es roomy) us → AllByRecursion (HasRoomAtPlace es' roomy') us
all_keep_place es es' roomy roomy' keep stay us all = AllByRecursion-map (HasRoomAtPlace es roomy)
    (HasRoomAtPlace es' roomy')
    (λ u has. let placed = stay u has.placed in record {
      placed = placed;
      room = room_kept roomy roomy' es' u.0.part u.0.key (length u.1) keep (stands_placed es' u placed) has.room;
    }) us all

-- values make no place and take none
pub stood_updated : (us : List Update) (es : List Entry) (p : ℕ) (k : OrderedKey) →
    is_some (find (updated us es) p k) ≡ is_some (find es p k)
stood_updated [] es p k = refl
stood_updated (u ∷ us) es p k = stood_updated us (set_entry es u.0.part u.0.key u.1 false) p k ∙
    stood_set es u.0.part u.0.key u.1 false p k

-- room that was there before is kept, where the last change makes no place
pub keep_through : (a b c d : List Place) (es es' es'' : List Entry) → HaveRoom es a → KeepRoom a b es →
    KeepRoom b c es' → KeepRoom c d es'' → ((part : ℕ) (key : OrderedKey) → IsSome (find es'' part key) →
    IsSome (find es' part key)) → KeepRoom a d es''
keep_through a b c d es es' es'' have first second third stood = record {
  kept = λ part key among stands. third.kept part key
      (second.kept part key (first.kept part key among (have.places part key among)) (stood part key stands)) stands;
  have = third.have;
}

-- ---- those that are new

pub new_sorted : (records : Records) (m : PlainMap) → is_rising records ≡ true →
    is_sorted key_cmp (new_records records m) ≡ true
new_sorted records m up = is_true (is_sorted key_cmp (new_records records m))
    (is_sorted-where_key key_cmp (λ k. not (contains_key m k)) records
    (T_from_true (is_sorted key_cmp records) (run_sorted records up)))

pub new_absent : (records : Records) (es : List Entry) → AreAllAbsent es (new_records records (content es))
new_absent [] es = tt
new_absent (r ∷ rs) es =
    let rest = new_records rs (content es) in
    cond_both (not (contains_key (content es) r.0)) (r ∷ rest) rest (AreAllAbsent es)
    (λ yes. (none (get (content es) r.0) yes, new_absent rs es)) (λ no. new_absent rs es)
  where
    none : (o : Option (List ℕ)) → not (is_some o) ≡ true → o ≡ None
    none None h = refl
    none (Some v) h = absurd (false≢true h)

-- ---- one pair more

pub push_option : {X : Type 0} (xs : List X) (o : Option X) (ys : List X) →
    (xs ++ cons_option o []) ++ ys ≡ xs ++ cons_option o ys
push_option xs None ys = append_assoc xs [] ys
push_option xs (Some x) ys = append_assoc xs (x ∷ []) ys

-- ---- one value more

module _ (us : List Update) (at : ℕ) (u : Update) (more : at < length us) (is : u ≡ get_or us at u) where
  pub whole : drop at us ≡ u ∷ drop (at + 1) us
  whole = drop_more us at u more ∙ ap (λ r. r ∷ drop (at + 1) us) (sym is)

  pub updated_on : (es es' : List Entry) → es' ≡ set_entry es u.0.part u.0.key u.1 false →
      updated (drop (at + 1) us) es' ≡ updated (drop at us) es
  updated_on es es' now = ap (updated (drop (at + 1) us)) now ∙ sym (ap (λ l. updated l es) whole)

  pub notes_on : (notes notes' : List Note) →
      notes' ≡ Before u.0.part u.0.key u.0.value u.0.is_ghost ∷ notes →
      notes_of_updates (drop (at + 1) us) ++ notes' ≡ notes_of_updates (drop at us) ++ notes
  notes_on notes notes' noted =
      let rest = notes_of_updates (drop (at + 1) us) in
      ap (λ l. rest ++ l) noted
      ∙ sym (append_assoc rest (Before u.0.part u.0.key u.0.value u.0.is_ghost ∷ []) notes)
      ∙ ap (λ l. notes_of_updates l ++ notes) (sym whole)

-- ---- how many runs are made

abbrev one_if : Bool → ℕ
one_if b = cond b 1 0

pub made_of_new : (records : Records) (m : PlainMap) → one_if (nat_lt 0 (length (new_records records m))) ≡ one_if
    (has_new records m)
made_of_new records m = ap one_if (by_list (new_records records m) ∙ sym (has_new_records m records))
  where
    by_list : (rs : Records) → nat_lt 0 (length rs) ≡ are_any rs
    by_list [] = refl
    by_list (r ∷ rs) = lt-ltb 0 (length (r ∷ rs)) (omega arith)
