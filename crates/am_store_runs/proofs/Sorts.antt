-- Records that rise.
use Rattle.std.proofs.Common.{◌≡◌, ◌≤◌, true, [], ◌∷◌, None, refl, sym, ap, subst, arith, ⊎_elim}
use Rattle.std.proofs.lemmas.Bool.{cases_Bool}
use Rattle.std.specs.Ordering.{is_eq, eq_by_cmp}
use Rattle.std.specs.List.Sorted.{IsPermutation}
use Rattle.std.proofs.lemmas.List.Sorted.{IsPermutation-map}
use Rattle.std.specs.FinMap.{is_sorted}
use Rattle.am_record.specs.OrderedKey.{OrderedKey, key_cmp, key_eq-exact}
use Rattle.am_record.specs.Plain.{Records, is_rising}
use Rattle.am_store_runs.specs.Cuts.{keys_of, times_among, NoneTwice}
use Rattle.am_record.proofs.FirstRows.{Record}
use Rattle.am_record.proofs.RisingRecords.{Below, sorted_parts, run_sorted}
use Rattle.am_store_runs.proofs.Twice.{one_at, none_at, times_among-cons, found_permuted}

-- ---- no key of rising records stands twice

below_none : (k : OrderedKey) (rs : Records) → Below k rs → times_among k (keys_of rs) ≡ 0
below_none k [] below = refl
below_none k (r ∷ rs) below = omega (
  arith,
  times_among-cons k r.0 (keys_of rs),
  none_at k r.0 (ap is_eq below.0),
  below_none k rs below.1,
)

rises_once : (rs : Records) → is_sorted key_cmp rs ≡ true → (key : OrderedKey) → times_among key (keys_of rs) ≤ 1
rises_once [] sorted key = omega arith
rises_once (r ∷ rs) sorted key =
    let parts = sorted_parts r rs sorted in
    ⊎_elim
    (λ tie.
    let none : times_among key (keys_of rs) ≡ 0 = subst (λ k. times_among k (keys_of rs) ≡ 0)
    (sym (key_eq-exact key r.0 tie)) (below_none r.0 rs parts.0) in
    omega (arith, times_among-cons key r.0 (keys_of rs), one_at key r.0 tie, none))
    (λ apart. omega (arith, times_among-cons key r.0 (keys_of rs), none_at key r.0 apart, rises_once rs parts.1 key))
    (cases_Bool (eq_by_cmp key_cmp key r.0))

-- nor of records that they are
pub rising_apart : (records run : Records) → IsPermutation records run → is_rising run ≡ true →
    NoneTwice (keys_of records)
rising_apart records run p rising = found_permuted None (keys_of records) (keys_of run)
    (IsPermutation-map (λ (r : Record). r.0) records run p) (record { once = rises_once run (run_sorted run rising) })
