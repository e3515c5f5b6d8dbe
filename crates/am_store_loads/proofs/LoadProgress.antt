-- The entries and the content while the records of a run go in, and while they are taken out again.
use Rattle.std.proofs.Common.{◌≡◌, ℕ, ◌+◌, ◌<◌, ◌≤◌, true, false, List, [], ◌∷◌, ◌++◌, Result, sym}
use Rattle.std.proofs.Common.{◌∙◌, subst, arith}
use Rattle.std.specs.Prelude.{is_err, OnOk}
use Rattle.am_record.specs.Plain.{Records, insert_all}
use Rattle.am_record.specs.declared.entry.Entry.{Entry}
use Rattle.am_index.specs.Entries.{insert_entry}
use Rattle.am_index.specs.Content.{content, HasContent}
use Rattle.am_index.proofs.Edits.{all_inserted}
use Rattle.am_index_parts.specs.Partitions.{Partitions}
use Rattle.am_record.specs.Plain.{is_rising}
use Rattle.am_record.proofs.Lists.{AllByRecursion-map}
use Rattle.am_record.proofs.RisingRecords.{run_sorted}
use Rattle.am_record.proofs.Outcomes.{on_ok}
use Rattle.am_index.specs.Runs.{live_entry, run_entries, with_run, NothingAbove}
use Rattle.am_index_parts.proofs.AppendedRuns.{with_run_appends}
use Rattle.am_store_loads.specs.Loads.{IsLoaded}

-- ---- nothing above

-- an entry of the partition or of an earlier one was added
pub nothing_above-inserted : {part : ℕ} {es : List Entry} → NothingAbove part es → (x : Entry) → x.part ≤ part →
    NothingAbove part (insert_entry es x)
nothing_above-inserted {part} {es} h x low = record { all = all_inserted (λ e. e.part ≤ part) es x low h.all }

pub nothing_above-later : {part : ℕ} {es : List Entry} → NothingAbove part es → NothingAbove (part + 1) es
nothing_above-later {part} {es} h = record {
  all = AllByRecursion-map (λ e. e.part ≤ part) (λ e. e.part ≤ part + 1)
      (λ e low. omega (arith, low)) es h.all;
}

pub nothing_above-with_run : (part : ℕ) (rs : Records) (es : List Entry) → NothingAbove part es →
    NothingAbove part (with_run part rs es)
nothing_above-with_run part [] es h = h
nothing_above-with_run part (r ∷ rs) es h = nothing_above-with_run part rs (insert_entry es (live_entry part r))
    (nothing_above-inserted h (live_entry part r) (omega arith))

-- ---- what a load leaves

-- a run that was appended went in record by record
pub as_with_run : {part : ℕ} (rs : Records) {es after : List Entry} → NothingAbove part es → is_rising rs ≡ true →
    after ≡ es ++ run_entries (part + 1) rs → after ≡ with_run (part + 1) rs es
as_with_run {part} rs {es} {after} above rising is =
    is ∙ sym (with_run_appends (part + 1) rs es (run_sorted rs rising)
    (AllByRecursion-map (λ e. e.part ≤ part) (λ e. e.part < part + 1) (λ e low. omega (arith, low)) es above.all))

-- what was added and counted is a run more; nothing stands above it
module _ {T E : Type 0} (before after : Partitions) (records : Records) (r : Result T E) (ok : is_err r ≡ false)
    (above : NothingAbove before.runs before.entries) (rising : is_rising records ≡ true)
    (added : OnOk r (after.entries ≡ before.entries ++ run_entries (before.runs + 1) records))
    (counted : OnOk r (after.runs ≡ before.runs + 1)) where
  new_entries : after.entries ≡ with_run (before.runs + 1) records before.entries
  new_entries = as_with_run records above rising (on_ok r ok added)

  pub loaded : OnOk r (HasContent after.entries (insert_all records (content before.entries))) →
      IsLoaded before records after
  loaded has = record {
    entries = new_entries;
    runs = on_ok r ok counted;
    has = on_ok r ok has;
  }

  pub nothing_above-loaded : NothingAbove after.runs after.entries
  nothing_above-loaded =
      subst (λ n. NothingAbove n after.entries) (sym (on_ok r ok counted))
      (subst (NothingAbove (before.runs + 1)) (sym new_entries)
      (nothing_above-with_run (before.runs + 1) records before.entries (nothing_above-later above)))

pub ruleset above_lemmas = (nothing_above-inserted, nothing_above-later)
