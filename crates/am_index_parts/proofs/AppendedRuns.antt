-- A run that is appended is the run that goes in record by record.
use Rattle.std.proofs.Common.{◌≡◌, ℕ, ◌<◌, true, List, [], ◌∷◌, ◌++◌, refl, sym, ap, ◌∙◌}
use Rattle.std.proofs.lemmas.Bool.{and_parts}
use Rattle.std.proofs.lemmas.List.{append_assoc}
use Rattle.std.specs.declared.cmp.Ordering.TheVariants.{Less}
use Rattle.std.specs.Ordering.{is_lt}
use Rattle.std.specs.List.{AllByRecursion}
use Rattle.std.specs.FinMap.{is_sorted}
use Rattle.std.specs.FinMap.Entries.{below_all}
use Rattle.am_record.specs.OrderedKey.{OrderedKey, key_cmp}
use Rattle.am_record.specs.Plain.{Records}
use Rattle.am_record.specs.EntryOrder.{place_of, place_cmp, place_cmp-same}
use Rattle.am_record.specs.declared.entry.Entry.{Entry}
use Rattle.am_record.proofs.Lists.{AllByRecursion-map, AllByRecursion-append}
use Rattle.am_record.proofs.PlaceOrder.{lower_part}
use Rattle.am_record.proofs.Orderings.{is_less}
use Rattle.am_record.proofs.FirstRows.{Record}
use Rattle.am_index.specs.Entries.{insert_entry, IsRising}
use Rattle.am_index.specs.Runs.{live_entry, run_entries, with_run}
use Rattle.am_index.proofs.Lists.{insert_entry-append}

module _ (part : ℕ) where
  -- the entry is below those of the records
  abbrev IsUnder : Records → Entry → Type 0
  IsUnder rs e = AllByRecursion (λ (r : Record). place_cmp (place_of e) (part, r.0) ≡ Less) rs

  under_later : (k : OrderedKey) (rs : Records) → below_all key_cmp k rs ≡ true →
      AllByRecursion (λ f. place_cmp (part, k) (place_of f) ≡ Less) (run_entries part rs)
  under_later k [] h = tt
  under_later k (r ∷ rs) h = let p = and_parts (is_lt (key_cmp k r.0)) (below_all key_cmp k rs) h in
      (place_cmp-same part k r.0 ∙ is_less (key_cmp k r.0) p.0, under_later k rs p.1)

  -- the entries of records that rise do
  pub run_rises : (rs : Records) → is_sorted key_cmp rs ≡ true → IsRising (run_entries part rs)
  run_rises [] h = tt
  run_rises (r ∷ rs) h = let p = and_parts (below_all key_cmp r.0 rs) (is_sorted key_cmp rs) h in
      (under_later r.0 rs p.0, run_rises rs p.1)

  under_records : (k : OrderedKey) (rs : Records) → below_all key_cmp k rs ≡ true →
      AllByRecursion (λ (r : Record). place_cmp (part, k) (part, r.0) ≡ Less) rs
  under_records k [] h = tt
  under_records k (r ∷ rs) h = let p = and_parts (is_lt (key_cmp k r.0)) (below_all key_cmp k rs) h in
      (place_cmp-same part k r.0 ∙ is_less (key_cmp k r.0) p.0, under_records k rs p.1)

  nil_behind : (es : List Entry) → es ++ [] ≡ es
  nil_behind [] = refl
  nil_behind (e ∷ es) = ap (λ l. e ∷ l) (nil_behind es)

  behind : (rs : Records) (es : List Entry) → is_sorted key_cmp rs ≡ true → AllByRecursion (IsUnder rs) es →
      with_run part rs es ≡ es ++ run_entries part rs
  behind [] es h under = sym (nil_behind es)
  behind (r ∷ rs) es h under =
      let p = and_parts (below_all key_cmp r.0 rs) (is_sorted key_cmp rs) h in
      let below : AllByRecursion (λ e. place_cmp (place_of e) (part, r.0) ≡ Less) es =
      AllByRecursion-map (IsUnder (r ∷ rs)) (λ e. place_cmp (place_of e) (part, r.0) ≡ Less) (λ e u. u.0) es
      under in
      let put : insert_entry es (live_entry part r) ≡ es ++ live_entry part r ∷ [] =
      ap (λ l. insert_entry l (live_entry part r)) (sym (nil_behind es)) ∙ insert_entry-append (live_entry part r) es []
      below tt in
      let next : AllByRecursion (IsUnder rs) (es ++ live_entry part r ∷ []) =
      AllByRecursion-append (IsUnder rs) es (live_entry part r ∷ [])
      (AllByRecursion-map (IsUnder (r ∷ rs)) (IsUnder rs) (λ e u. u.1) es under) (under_records r.0 rs p.0, tt) in
      ap (λ l. with_run part rs l) put ∙ behind rs (es ++ live_entry part r ∷ []) p.1 next ∙
      append_assoc es (live_entry part r ∷ []) (run_entries part rs)

  all_under : (e : Entry) (rs : Records) → e.part < part → IsUnder rs e
  all_under e [] lt = tt
  all_under e (r ∷ rs) lt = (lower_part (place_of e) (part, r.0) lt, all_under e rs lt)

  -- after entries of lower partitions
  pub with_run_appends : (rs : Records) (es : List Entry) → is_sorted key_cmp rs ≡ true →
      AllByRecursion (λ e. e.part < part) es → with_run part rs es ≡ es ++ run_entries part rs
  with_run_appends rs es h below = behind rs es h
      (AllByRecursion-map (λ e. e.part < part) (IsUnder rs) (λ e lt. all_under e rs lt) es below)
