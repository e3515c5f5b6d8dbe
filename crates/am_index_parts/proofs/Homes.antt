-- A live entry of a run on its way to the final partition.
use Rattle.std.proofs.Common.{◌≡◌, ◌≢◌, List, true, false, cond, Option, Some, None, refl, sym, ap, ◌∙◌, subst}
use Rattle.std.specs.Prelude.{is_some}
use Rattle.std.proofs.lemmas.Bool.{cond-false}
use Rattle.am_record.specs.declared.entry.Entry.{Entry}
use Rattle.am_index.specs.Entries.{Slot, slot_of, find, insert_entry, set_entry, remove_entry, IsRising}
use Rattle.am_index.specs.Edits.{same_place}
use Rattle.am_index.specs.Content.{content, HasContent, IsLiveAt}
use Rattle.am_index.proofs.Edits.{other_part}
use Rattle.am_index.proofs.EditLaws.{edit_laws}
use Rattle.am_index_parts.specs.Partitions.{AreWellFormed, settled, brought_home}
use Rattle.am_index_parts.proofs.Lives.{laws_of}

module _ (e : Entry) (es : List Entry) (in_run : e.part ≢ 0) where
  apart : same_place e.part e.key 0 e.key ≡ false
  apart = other_part e.part 0 e.key e.key in_run

  abbrev final : Entry
  final = record e { part = 0; is_ghost = false }

  -- the entry of the run stands as before
  pub stands_as_before : IsRising es → find (settled e es) e.part e.key ≡ find es e.part e.key
  stands_as_before rises = by_cases (find es 0 e.key) refl
    where
      by_cases : (o : Option Slot) → find es 0 e.key ≡ o → find (settled e es) e.part e.key ≡ find es e.part e.key
      by_cases None h =
          ap (λ (o : Option Slot). find (cond (is_some o) (set_entry es 0 e.key e.value false)
          (insert_entry es final)) e.part e.key) h
          ∙ (edit_laws es rises).finds.inserted final e.part e.key ∙
          cond-false (same_place e.part e.key 0 e.key) (Some (e.value, false)) (find es e.part e.key) apart
      by_cases (Some s) h =
          ap (λ (o : Option Slot). find (cond (is_some o) (set_entry es 0 e.key e.value false)
          (insert_entry es final)) e.part e.key) h
          ∙ (edit_laws es rises).finds.reset 0 e.key e.value false (ap is_some h) e.part e.key ∙
          cond-false (same_place e.part e.key 0 e.key) (Some (e.value, false)) (find es e.part e.key) apart

  -- at home, the content is as it was
  pub content_at_home : AreWellFormed es → find es e.part e.key ≡ Some (slot_of e) → e.is_ghost ≡ false →
      HasContent (brought_home e es) (content es)
  content_at_home sound stands live = by_cases (find es 0 e.key) refl
    where
      lives : IsLiveAt es e.part e.key e.value
      lives = record { there = stands ∙ (λ i. Some (e.value, live i)) }

      by_cases : (o : Option Slot) → find es 0 e.key ≡ o → HasContent (brought_home e es) (content es)
      by_cases None h =
          subst (λ (l : List Entry). HasContent l (content es))
          (ap (λ (o : Option Slot). remove_entry (cond (is_some o) (set_entry es 0 e.key e.value false)
          (insert_entry es final)) e.part e.key) (sym h))
          ((laws_of sound).moves.moved final e.part lives in_run refl h)
      by_cases (Some (old, true)) h =
          subst (λ (l : List Entry). HasContent l (content es))
          (ap (λ (o : Option Slot). remove_entry (cond (is_some o) (set_entry es 0 e.key e.value false)
          (insert_entry es final)) e.part e.key) (sym h))
          ((laws_of sound).moves.moved_over_ghost e.part 0 e.key e.value old lives h)
      by_cases (Some (old, false)) h = absurd (in_run (sound.one_place.one e.key e.part 0 e.value old lives
          (record { there = h })))
