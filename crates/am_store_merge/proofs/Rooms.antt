-- Room for values while entries are taken out, and worked off.
use Rattle.std.proofs.Common.{◌≡◌, ◌≢◌, ℕ, List, [], ◌∷◌, Bool, true, false, cond, Option, Some, None, refl, sym, ap}
use Rattle.std.proofs.Common.{◌∙◌}
use Rattle.std.specs.Prelude.{IsSome, is_some}
use Rattle.std.proofs.lemmas.Bool.{cond-false, false≢true}
use Rattle.am_record.specs.OrderedKey.{OrderedKey}
use Rattle.am_record.specs.EntryOrder.{Place}
use Rattle.am_record.specs.declared.entry.Entry.{Entry}
use Rattle.am_index.specs.Entries.{Slot, slot_of, find, remove_entry, IsRising}
use Rattle.am_index.specs.Edits.{same_place}
use Rattle.am_index.specs.Rooms.{KeepRoom}
use Rattle.am_index.proofs.Edits.{other_part}
use Rattle.am_index.proofs.Rooms.{keep_on}
use Rattle.am_law_effect.specs.MergeAnswers.{worked_off, all_worked_off}
use Rattle.am_law_effect.specs.Places.{look, put}
use Rattle.am_law_effect.proofs.Lists.{look-put, look-removed}
use Rattle.am_law_effect.proofs.Merges.{rising-worked_off}
use Rattle.am_store_merge.proofs.EntriesGoHome.{ghost_goes}

less_stands : (b : Bool) (o : Option Slot) → IsSome (cond b None o) → IsSome o
less_stands true o there = absurd (false≢true there)
less_stands false o there = there

-- what stands without an entry stood with it
removed_stood : (es : List Entry) (part : ℕ) (key : OrderedKey) → IsRising es → (p : ℕ) (k : OrderedKey) →
    IsSome (find (remove_entry es part key) p k) → IsSome (find es p k)
removed_stood es part key rise p k there = less_stands (same_place p k part key) (find es p k)
    (sym (ap is_some (look-removed (part, key) es rise (p, k))) ∙ there)

-- what was kept before an entry is taken out is kept then
pub keep_removed : (a b c : List Place) (es : List Entry) (part : ℕ) (key : OrderedKey) → IsRising es →
    KeepRoom a b es → (es' : List Entry) → es' ≡ remove_entry es part key → KeepRoom b c es' → KeepRoom a c es'
keep_removed a b c es part key rise first es' taken second = keep_on a b c es es' first second
    (λ p k among stands. removed_stood es part key rise p k (ap (λ l. is_some (find l p k)) (sym taken) ∙ stands))

-- nothing comes into a run
run_stood : (e : Entry) (es : List Entry) → IsRising es → (p : ℕ) → p ≢ 0 → (k : OrderedKey) →
    IsSome (find (worked_off e es) p k) → IsSome (find es p k)
run_stood e es rise p run k there = removed_stood es e.part e.key rise p k (by_mark e.is_ghost refl)
  where
    less : List Entry
    less = remove_entry es e.part e.key

    by_mark : (g : Bool) → e.is_ghost ≡ g → IsSome (find less p k)
    by_mark true g = ap (λ l. is_some (find l p k)) (ghost_goes e es g) ∙ there
    by_mark false g =
        let final : Entry = record e { part = 0 } in
        ap is_some (sym (look-put final less (p, k) ∙
        cond-false (same_place p k 0 e.key) (Some (slot_of e)) (look less (p, k)) (other_part p 0 k e.key run))) ∙
        ap (λ l. is_some (find l p k)) (sym (cond-false e.is_ghost less (put final less) g)) ∙ there

pub runs_stood : (m es : List Entry) → IsRising es → (p : ℕ) → p ≢ 0 → (k : OrderedKey) →
    IsSome (find (all_worked_off m es) p k) → IsSome (find es p k)
runs_stood [] es rise p run k there = there
runs_stood (e ∷ m) es rise p run k there = run_stood e es rise p run k
    (runs_stood m (worked_off e es) (rising-worked_off e es rise) p run k there)
