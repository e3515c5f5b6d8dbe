-- Records of a run, put after all entries one after another and taken out again.
use Rattle.std.proofs.Common.{◌≡◌, ℕ, zero, suc, ◌<◌, List, [], ◌∷◌, ◌++◌, length, get_or, take, None, refl, sym, ap}
use Rattle.std.proofs.Common.{◌∙◌, subst, arith}
use Rattle.std.specs.Prelude.{IsSome, is_some}
use Rattle.std.specs.Option.{option_map}
use Rattle.std.specs.declared.cmp.Ordering.TheVariants.{Less}
use Rattle.std.specs.List.{AllByRecursion}
use Rattle.am_record.specs.Plain.{Records}
use Rattle.am_record.specs.EntryOrder.{place_of, place_cmp}
use Rattle.am_record.specs.declared.entry.Entry.{Entry}
use Rattle.am_record.proofs.Lists.{AllByRecursion-map, AllByRecursion-append}
use Rattle.am_record.proofs.PlaceOrder.{lower_part}
use Rattle.am_record.proofs.FirstRows.{Record}
use Rattle.am_index.specs.Entries.{slot_of, entry_at, find, insert_entry, remove_entry, IsRising}
use Rattle.am_index.specs.Places.{AllBelow}
use Rattle.am_index.specs.Runs.{live_entry, run_entries}
use Rattle.am_index.proofs.Edits.{entry_at_inserted, insert_back}
use Rattle.am_index.proofs.Lists.{entry_at-append, insert_entry-append}
use Rattle.am_index.proofs.Runs.{one_more_pushed}

nil_behind : (es : List Entry) → es ++ [] ≡ es
nil_behind [] = refl
nil_behind (e ∷ es) = ap (λ l. e ∷ l) (nil_behind es)

-- the records before one of a rising run are below it
pub under_at : (part : ℕ) (e : Entry) (rs : Records) (i : ℕ) (r : Record) → i < length rs → r ≡ get_or rs i r →
    AllByRecursion (λ f. place_cmp (place_of e) (place_of f) ≡ Less) (run_entries part rs) →
    place_cmp (place_of e) (part, r.0) ≡ Less
under_at part e [] i r lt h a = absurd (omega arith)
under_at part e (q ∷ rs) zero r lt h a = subst (λ (x : Record). place_cmp (place_of e) (part, x.0) ≡ Less) (sym h) a.0
under_at part e (q ∷ rs) (suc i) r lt h a = under_at part e rs i r (omega arith) h a.1

pub run_below : (part : ℕ) (rs : Records) (i : ℕ) (r : Record) → i < length rs → r ≡ get_or rs i r →
    IsRising (run_entries part rs) → AllBelow (part, r.0) (run_entries part (take i rs))
run_below part [] i r lt h up = absurd (omega arith)
run_below part (q ∷ rs) zero r lt h up = tt
run_below part (q ∷ rs) (suc i) r lt h up = (
  under_at part (live_entry part q) rs i r (omega arith) h up.0,
  run_below part rs i r (omega arith) h up.1,
)

module _ (part : ℕ) (es : List Entry) (rs : Records) (above : AllByRecursion (λ e. e.part < part) es)
    (rising : IsRising (run_entries part rs)) (i : ℕ) (r : Record) (lt : i < length rs) (here : r ≡ get_or rs i r) where
  abbrev so_far : List Entry
  so_far = es ++ run_entries part (take i rs)

  all_below : AllBelow (part, r.0) so_far
  all_below = AllByRecursion-append (λ e. place_cmp (place_of e) (part, r.0) ≡ Less) es (run_entries part (take i rs))
      (AllByRecursion-map (λ e. e.part < part) (λ e. place_cmp (place_of e) (part, r.0) ≡ Less)
      (λ e low. lower_part (place_of e) (part, r.0) low) es above)
      (run_below part rs i r lt here rising)

  at_end : insert_entry so_far (live_entry part r) ≡ so_far ++ live_entry part r ∷ []
  at_end = ap (λ l. insert_entry l (live_entry part r)) (sym (nil_behind so_far)) ∙
      insert_entry-append (live_entry part r) so_far [] all_below tt

  next_is : insert_entry so_far (live_entry part r) ≡ es ++ run_entries part (take (suc i) rs)
  next_is = at_end ∙ one_more_pushed part es rs i r lt here

  pub free : find so_far part r.0 ≡ None
  free = ap (option_map slot_of) (ap (λ l. entry_at l part r.0) (sym (nil_behind so_far)) ∙
      entry_at-append part r.0 so_far [] all_below)

  pub put : {now after : List Entry} → now ≡ so_far → after ≡ insert_entry now (live_entry part r) → after ≡ es ++
      run_entries part (take (suc i) rs)
  put was is = is ∙ ap (λ l. insert_entry l (live_entry part r)) was ∙ next_is

  pub stands : {now : List Entry} → now ≡ es ++ run_entries part (take (suc i) rs) → IsSome (find now part r.0)
  stands was = ap is_some (ap (λ l. find l part r.0) (was ∙ sym next_is) ∙
      ap (option_map slot_of) (entry_at_inserted so_far (live_entry part r)))

  pub out : {now after : List Entry} → now ≡ es ++ run_entries part (take (suc i) rs) →
      after ≡ remove_entry now part r.0 → after ≡ so_far
  out was is = is ∙ ap (λ l. remove_entry l part r.0) (was ∙ sym next_is) ∙ insert_back so_far (live_entry part r)
