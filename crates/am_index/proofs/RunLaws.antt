-- Where the records of a run stand, and where nothing stands.
use Rattle.std.proofs.Common.{◌≡◌, ◌≢◌, ℕ, ◌<◌, ◌≤◌, List, [], ◌∷◌, false, None, Some, sym, ap, ◌∙◌, refl, arith}
use Rattle.std.specs.Prelude.{◌==◌}
use Rattle.std.proofs.lemmas.Bool.{true≢false, or_parts}
use Rattle.std.proofs.lemmas.Option.{none-some}
use Rattle.std.specs.List.{AllByRecursion}
use Rattle.std.specs.Ordering.{is_eq, eq_by_cmp}
use Rattle.std.specs.Option.{option_map}
use Rattle.std.proofs.lemmas.Cmp.{nat_eq_equiv}
use Rattle.am_record.specs.OrderedKey.{OrderedKey, key_cmp, key_cmp-itself}
use Rattle.am_record.specs.Plain.{Records, is_key_of}
use Rattle.am_record.specs.declared.entry.Entry.{Entry}
use Rattle.am_record.proofs.Lists.{AllByRecursion-map}
use Rattle.am_index.specs.Entries.{slot_of, entry_at, find, insert_entry, IsRising}
use Rattle.am_index.proofs.Edits.{find-miss, other_part, other_key, entry_at_slot, entry_at_beside_inserted}
use Rattle.am_index.proofs.Content.{all_found}
use Rattle.am_index.specs.Runs.{live_entry, with_run, NothingAbove, RunLaws}

module _ (run : ℕ) where
  other_parts : (records : Records) (es : List Entry) (part : ℕ) (key : OrderedKey) → (part == run) ≡ false →
      find (with_run run records es) part key ≡ find es part key
  other_parts [] es part key other = refl
  other_parts (r ∷ rs) es part key other =
      other_parts rs (insert_entry es (live_entry run r)) part key other
      ∙ ap (option_map slot_of) (entry_at_beside_inserted es (live_entry run r) part key
      (other_part run part r.0 key (λ same. true≢false
      (sym (ap (λ n. n == run) (sym same) ∙ nat_eq_equiv.refl run) ∙ other))))

  apart : (key key' : OrderedKey) → eq_by_cmp key_cmp key key' ≡ false → key' ≢ key
  apart key key' h same = true≢false (sym (ap is_eq (ap (key_cmp key) same ∙ key_cmp-itself key)) ∙ h)

  other_keys : (records : Records) (es : List Entry) (key : OrderedKey) → is_key_of records key ≡ false →
      find (with_run run records es) run key ≡ find es run key
  other_keys [] es key none = refl
  other_keys (r ∷ rs) es key none =
      let both = or_parts (eq_by_cmp key_cmp key r.0) (is_key_of rs key) none in
      other_keys rs (insert_entry es (live_entry run r)) key both.1
      ∙ ap (option_map slot_of) (entry_at_beside_inserted es (live_entry run r) run key
      (other_key run run r.0 key (apart key r.0 both.0)))

pub none_above : {part : ℕ} {es : List Entry} → NothingAbove part es → (part' : ℕ) (key : OrderedKey) → part < part' →
    find es part' key ≡ None
none_above {part} {es} h part' key above = absent es h.all
  where
    absent : (es : List Entry) → AllByRecursion (λ e. e.part ≤ part) es → find es part' key ≡ None
    absent [] h = refl
    absent (e ∷ es) h =
        let other : e.part ≢ part' = λ same. let low : e.part ≤ part = h.0 in
        absurd (omega (arith, low, above, same)) in
        find-miss part' key e es (other_part e.part part' e.key key other) ∙ absent es h.1

nothing_above : (es : List Entry) → IsRising es → (part : ℕ) →
    ((part' : ℕ) (key : OrderedKey) → part < part' → find es part' key ≡ None) → NothingAbove part es
nothing_above es rising part none = record {
  all = AllByRecursion-map (λ e. entry_at es e.part e.key ≡ Some e)
      (λ e. e.part ≤ part) low es (all_found es rising);
}
  where
    low : (e : Entry) → entry_at es e.part e.key ≡ Some e → e.part ≤ part
    low e found = omega (arith, high)
      where
        high : part < e.part → ⊥
        high above = none-some (slot_of e) (sym (none e.part e.key above) ∙ entry_at_slot es e.part e.key e found)

pub run_laws : (es : List Entry) → IsRising es → RunLaws es
run_laws es rising = record {
  other_parts = λ run records part key other. other_parts run records es part key other;
  other_keys = λ run records key none. other_keys run records es key none;
  none_above = λ part h part' key above. none_above h part' key above;
  nothing_above = λ part none. nothing_above es rising part none;
}
