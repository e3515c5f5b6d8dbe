-- Several live entries of the final partition, counted at once.
use Rattle.std.proofs.Common.{◌≡◌, ℕ, ◌+◌, List, [], ◌∷◌, Bool, length, not, ap, subst, arith}
use Rattle.std.specs.List.{AllByRecursion}
use Rattle.am_record.specs.declared.entry.Entry.{Entry}
use Rattle.am_index.specs.Entries.{insert_entry, all_inserted}
use Rattle.am_index_parts.specs.declared.catalog.OpenRun.{OpenRun}
use Rattle.am_index_parts.specs.Catalogs.{live_in, AreListed}
use Rattle.am_index_parts.specs.GoingHome.{IsHome}
use Rattle.am_index_parts.proofs.Alive.{one, length_inserted, live_inserted}
use Rattle.am_index_parts.proofs.ListedRuns.{final_more}

pub homes_listed : (xs es : List Entry) (n : ℕ) (runs : List OpenRun) → AllByRecursion IsHome xs → AreListed es n runs →
    AreListed (all_inserted xs es) (n + length xs) runs
homes_listed [] es n runs homes h = subst (λ (m : ℕ). AreListed es m runs) {x = n} {y = n + 0} (omega arith) h
homes_listed (x ∷ xs) es n runs homes h =
    subst (λ (m : ℕ). AreListed (all_inserted xs (insert_entry es x)) m runs) {x = n + 1 + length xs}
    {y = n + length (x ∷ xs)} (omega arith)
    (homes_listed xs (insert_entry es x) (n + 1) runs homes.1 (final_more h x homes.0.0))

pub homes_long : (xs es : List Entry) → length (all_inserted xs es) ≡ length es + length xs
homes_long [] es = omega arith
homes_long (x ∷ xs) es = omega (arith, homes_long xs (insert_entry es x), length_inserted es x)

pub homes_live : (xs es : List Entry) → AllByRecursion IsHome xs → live_in (all_inserted xs es) ≡ live_in es + length xs
homes_live [] es homes = omega arith
homes_live (x ∷ xs) es homes =
    let its : one (not x.is_ghost) ≡ 1 = ap (λ (b : Bool). one (not b)) homes.0.1 in
    omega (arith, its, homes_live xs (insert_entry es x) homes.1, live_inserted es x)
