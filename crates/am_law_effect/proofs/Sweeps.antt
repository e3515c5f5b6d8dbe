-- Notes of several places that one event changes.
use Rattle.std.proofs.Common.{◌≡◌, ℕ, List, [], ◌∷◌, ◌++◌, true, false, ◌||◌, refl, sym, ap, ◌∙◌, ⊎_elim, Some}
use Rattle.std.specs.Ordering.{eq_by_cmp}
use Rattle.std.proofs.lemmas.Bool.{cases_Bool, cond-true, cond-false, both_ways}
use Rattle.std.proofs.lemmas.List.Folds.{list_any-append}
use Rattle.am_record.specs.OrderedKey.{OrderedKey}
use Rattle.am_record.specs.EntryOrder.{Place, place_cmp}
use Rattle.am_record.specs.declared.entry.Entry.{Entry}
use Rattle.am_record.proofs.Lists.{AllByRecursion-append}
use Rattle.am_index.specs.Entries.{Slot}
use Rattle.am_index.proofs.Edits.{one_place}
use Rattle.am_store_undo.specs.declared.note.Note.{Note}
use Rattle.am_store_undo.specs.declared.note.Note.TheVariants.{Before}
use Rattle.am_store_undo.specs.Undo.{is_noted_run}
use Rattle.am_law_serial.specs.Trace.{Effect}
use Rattle.am_law_effect.specs.Places.{look}
use Rattle.am_law_effect.specs.History.{wrote_by}
use Rattle.am_law_effect.specs.Laws.{DifferAt, IsOfKey, Sweeps}
use Rattle.am_law_effect.proofs.Lists.{tied_place}
use Rattle.am_law_effect.proofs.NotesAtPlaces.{some_none, back, back-append}

module _ (t : ℕ) (d : Effect) where
  pub sweeps_none : (es : List Entry) → Sweeps t d es es []
  sweeps_none es = record {
    taken_back = λ a. refl;
    stands = λ a none. none;
    others = λ q not p. refl;
    owns = tt;
    no_run = λ p. refl;
  }

  -- some places, and then more
  pub sweeps_both : (es es' es'' : List Entry) (xs ys : List Note) → Sweeps t d es es' xs → Sweeps t d es' es'' ys →
      Sweeps t d es es'' (ys ++ xs)
  sweeps_both es es' es'' xs ys v w = record {
    taken_back = λ a. back-append ys xs a (look es'' a) ∙ ap (back xs a) (w.taken_back a) ∙ v.taken_back a;
    stands = λ a none. v.stands a (w.stands a none);
    others = λ q not p. w.others q not p ∙ v.others q not p;
    owns = AllByRecursion-append (IsOfKey (λ q. wrote_by t q d)) ys xs w.owns v.owns;
    no_run = λ p. list_any-append _ ys xs ∙ ap (λ b. b || is_noted_run xs p) (w.no_run p) ∙ v.no_run p;
  }

  -- one place
  pub sweeps_one : (es es' : List Entry) (p : ℕ) (k : OrderedKey) (s s' : Slot) → wrote_by t k d ≡ true →
      look es (p, k) ≡ Some s → look es' (p, k) ≡ Some s' → DifferAt (p, k) es es' →
      Sweeps t d es es' (Before p k s.0 s.1 ∷ [])
  sweeps_one es es' p k s s' w there there' differ = record {
    taken_back = λ a. ⊎_elim
        (λ tie. cond-true _ (Some (s.0, s.1)) (look es' a) tie ∙ sym there ∙
        ap (look es) (sym (one_place a (p, k) tie)))
        (λ apart. cond-false _ (Some (s.0, s.1)) (look es' a) apart ∙ elsewhere a apart)
        (cases_Bool (eq_by_cmp place_cmp a (p, k)));
    stands = λ a none. ⊎_elim
        (λ tie. absurd (some_none s' (sym there' ∙ ap (look es') (sym (one_place a (p, k) tie)) ∙ none)))
        (λ apart. sym (elsewhere a apart) ∙ none)
        (cases_Bool (eq_by_cmp place_cmp a (p, k)));
    others = λ q not r. differ (r, q)
        (λ h. both_ways (wrote_by t q d) not (ap (λ (b : Place). wrote_by t b.1 d) h ∙ w));
    owns = (w, tt);
    no_run = λ r. refl;
  }
    where
      elsewhere : (a : Place) → eq_by_cmp place_cmp a (p, k) ≡ false → look es' a ≡ look es a
      elsewhere a apart = differ a (λ h. both_ways (eq_by_cmp place_cmp a (p, k)) apart
          (ap (λ (b : Place). eq_by_cmp place_cmp b (p, k)) h ∙ tied_place (p, k)))
