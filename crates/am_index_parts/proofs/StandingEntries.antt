-- What stands at a place, before changes and after them.
use Rattle.std.proofs.Common.{◌≡◌, ◌∷◌, ◌++◌, ⊎_elim, ℕ, zero, suc, Bool, true, false, cond, List, [], drop, Some, sym}
use Rattle.std.proofs.Common.{refl, ap, ◌∙◌}
use Rattle.std.proofs.Common.{subst}
use Rattle.std.specs.Prelude.{IsSome, is_some}
use Rattle.std.proofs.lemmas.Bool.{cases_Bool, false≢true}
use Rattle.std.specs.Option.{option_map}
use Rattle.std.specs.Ordering.{is_lt}
use Rattle.am_record.specs.OrderedKey.{OrderedKey}
use Rattle.am_record.specs.EntryOrder.{place_of, place_cmp}
use Rattle.am_record.specs.declared.entry.Entry.{Entry}
use Rattle.am_index.specs.Edits.{same_place}
use Rattle.am_index.specs.Entries.{slot_of, entry_at, find, insert_entry, set_entry, remove_entry}
use Rattle.am_index.specs.Entries.{remove_from}
use Rattle.am_index.proofs.Edits.{find-hit, find-miss, set-hit, set-miss, insert-later, insert-here, remove-hit}
use Rattle.am_index.proofs.Edits.{remove-miss}
use Rattle.am_index_parts.specs.Partitions.{settled, settled_too, all_settled}

module _ (part : ℕ) (key : OrderedKey) where
  abbrev Stands : List Entry → Type 0
  Stands es = IsSome (find es part key)

  -- with one more in front of others
  past : (e : Entry) (es : List Entry) → Stands es → Stands (e ∷ es)
  past e es stands = ⊎_elim
      (λ hit. ap is_some (find-hit part key e es hit))
      (λ miss. ap is_some (find-miss part key e es miss) ∙ stands)
      (cases_Bool (same_place e.part e.key part key))

  -- with the same one in front of both
  behind : (e : Entry) (xs ys : List Entry) → (Stands xs → Stands ys) → Stands (e ∷ xs) → Stands (e ∷ ys)
  behind e xs ys on stands = ⊎_elim
      (λ hit. ap is_some (find-hit part key e ys hit))
      (λ miss. ap is_some (find-miss part key e ys miss) ∙
      on (sym (ap is_some (find-miss part key e xs miss)) ∙ stands))
      (cases_Bool (same_place e.part e.key part key))

  past_all : (ms es : List Entry) → Stands es → Stands (ms ++ es)
  past_all [] es stands = stands
  past_all (m ∷ ms) es stands = past m (ms ++ es) (past_all ms es stands)

  -- what stands without some of the entries stands with them
  pub between : (front ms back : List Entry) → Stands (front ++ back) → Stands (front ++ (ms ++ back))
  between [] ms back stands = past_all ms back stands
  between (e ∷ front) ms back stands = behind e (front ++ back) (front ++ (ms ++ back)) (between front ms back) stands

  pub before_removal : (es : List Entry) (part' : ℕ) (key' : OrderedKey) → Stands (remove_entry es part' key') →
      Stands es
  before_removal [] part' key' stands = stands
  before_removal (e ∷ es) part' key' stands = ⊎_elim
      (λ hit. past e es (subst Stands (remove-hit part' key' e es hit) stands))
      (λ miss. behind e (remove_entry es part' key') es (before_removal es part' key')
      (subst Stands (remove-miss part' key' e es miss) stands))
      (cases_Bool (same_place e.part e.key part' key'))

  -- the same of several at once
  back_behind : (n : ℕ) (es : List Entry) → Stands (drop n es) → Stands es
  back_behind zero es stands = stands
  back_behind (suc n) [] stands = stands
  back_behind (suc n) (e ∷ es) stands = past e es (back_behind n es stands)

  pub before_removals : (es : List Entry) (part' : ℕ) (key' : OrderedKey) (n : ℕ) →
      Stands (remove_from es part' key' n) → Stands es
  before_removals [] part' key' n = λ stands. stands
  before_removals (e ∷ es) part' key' n = elim (same_place e.part e.key part' key') as
      (λ b. Stands (cond b (drop n (e ∷ es)) (e ∷ remove_from es part' key' n)) → Stands (e ∷ es)) [
        | true ↦ back_behind n (e ∷ es)
        | false ↦ behind e (remove_from es part' key' n) es (before_removals es part' key' n)
      ]

  pub with_insertion : (es : List Entry) (x : Entry) → Stands es → Stands (insert_entry es x)
  with_insertion [] x stands = absurd (false≢true stands)
  with_insertion (e ∷ es) x stands = ⊎_elim
      (λ later. subst Stands (sym (insert-later x e es later))
      (behind e es (insert_entry es x) (with_insertion es x) stands))
      (λ here. subst Stands (sym (insert-here x e es here)) (past x (e ∷ es) stands))
      (cases_Bool (is_lt (place_cmp (place_of e) (place_of x))))

  -- another value and mark changes nothing of where entries stand
  module _ (part' : ℕ) (key' : OrderedKey) (value : List ℕ) (is_ghost : Bool) where
    pub same_when_set : (es : List Entry) → is_some (find (set_entry es part' key' value is_ghost) part key) ≡
        is_some (find es part key)
    same_when_set [] = refl
    same_when_set (e ∷ es) = ⊎_elim
        (λ hit. ap (λ (l : List Entry). is_some (find l part key)) (set-hit part' key' e es value is_ghost hit) ∙
        one_reset)
        (λ miss. ap (λ (l : List Entry). is_some (find l part key)) (set-miss part' key' e es value is_ghost miss) ∙
        one_passed (same_when_set es))
        (cases_Bool (same_place e.part e.key part' key'))
      where
        reset : Entry
        reset = record e { value = value; is_ghost = is_ghost }

        one_reset : is_some (find (reset ∷ es) part key) ≡ is_some (find (e ∷ es) part key)
        one_reset = elim (same_place e.part e.key part key) as
            (λ b. is_some (option_map slot_of (cond b (Some reset) (entry_at es part key))) ≡
            is_some (option_map slot_of (cond b (Some e) (entry_at es part key)))) [ true ↦ refl | false ↦ refl ]

        one_passed : is_some (find (set_entry es part' key' value is_ghost) part key) ≡ is_some (find es part key) →
            is_some (find (e ∷ set_entry es part' key' value is_ghost) part key) ≡ is_some (find (e ∷ es) part key)
        one_passed rest = elim (same_place e.part e.key part key) as
            (λ b. is_some (option_map slot_of (cond b (Some e)
            (entry_at (set_entry es part' key' value is_ghost) part key))) ≡
            is_some (option_map slot_of (cond b (Some e) (entry_at es part key)))) [ true ↦ refl | false ↦ rest ]

  -- nothing that stands goes where entries of a run settle
  with_settled : (m : Entry) (es : List Entry) → Stands es → Stands (settled m es)
  with_settled m es stands = elim (is_some (find es 0 m.key)) as
      (λ b. Stands (cond b (set_entry es 0 m.key m.value false)
      (insert_entry es (record m { part = 0; is_ghost = false })))) [
        | true ↦ same_when_set 0 m.key m.value false es ∙ stands
        | false ↦ with_insertion es (record m { part = 0; is_ghost = false }) stands
      ]

  with_settled_too : (m : Entry) (es : List Entry) → Stands es → Stands (settled_too m es)
  with_settled_too m es stands = elim m.is_ghost as (λ b. Stands (cond b es (settled m es)))
      [ true ↦ stands | false ↦ with_settled m es stands ]

  pub with_all_settled : (ms es : List Entry) → Stands es → Stands (all_settled ms es)
  with_all_settled [] es stands = stands
  with_all_settled (m ∷ ms) es stands = with_all_settled ms (settled_too m es) (with_settled_too m es stands)
