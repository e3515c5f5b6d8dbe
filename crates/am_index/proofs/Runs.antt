-- A run after entries of lower partitions.
use Rattle.std.proofs.Common.{◌≡◌, ℕ, zero, suc, ◌<◌, ◌≤◌, false, cond, List, [], ◌∷◌, ◌++◌, length, get_or, take}
use Rattle.std.proofs.Common.{Result, Ok, Err, refl, sym, ap, subst, arith}
use Rattle.std.specs.Prelude.{is_ok, is_err, OnOk, OnErr}
use Rattle.std.specs.declared.cmp.Ordering.TheVariants.{Less}
use Rattle.std.specs.List.{AllByRecursion}
use Rattle.am_record.specs.OrderedKey.{OrderedKey}
use Rattle.am_record.specs.Plain.{Records}
use Rattle.am_record.specs.EntryOrder.{place_of, place_cmp}
use Rattle.am_record.specs.declared.entry.Entry.{Entry}
use Rattle.am_record.proofs.Lists.{AllByRecursion-append}
use Rattle.am_record.proofs.PlaceOrder.{lower_part}
use Rattle.am_index.specs.Entries.{IsRising}
use Rattle.am_index.specs.Runs.{live_entry, run_entries}

-- ---- one record more

pub one_more_pushed : (part : ℕ) (es : List Entry) (rs : Records) (i : ℕ) (r : OrderedKey × List ℕ) → i < length rs →
    r ≡ get_or rs i r
    → (es ++ run_entries part (take i rs)) ++ live_entry part r ∷ [] ≡ es ++ run_entries part (take (suc i) rs)
one_more_pushed part (e ∷ es) rs i r lt h = ap (λ l. e ∷ l) (one_more_pushed part es rs i r lt h)
one_more_pushed part [] [] i r lt h = absurd (omega arith)
one_more_pushed part [] (q ∷ rs) zero r lt h = ap (λ (x : OrderedKey × List ℕ). live_entry part x ∷ []) h
one_more_pushed part [] (q ∷ rs) (suc i) r lt h =
    ap (λ l. live_entry part q ∷ l) (one_more_pushed part [] rs i r (omega arith) h)

pub length-front : (part : ℕ) (rs : Records) (i : ℕ) → i ≤ length rs → length (run_entries part (take i rs)) ≡ i
length-front part rs zero le = refl
length-front part [] (suc i) le = absurd (omega arith)
length-front part (r ∷ rs) (suc i) le = ap suc (length-front part rs i (omega arith))

pub taken_back : (es fs : List Entry) → take (length es) (es ++ fs) ≡ es
taken_back [] fs = refl
taken_back (e ∷ es) fs = ap (λ l. e ∷ l) (taken_back es fs)

-- ---- the order

all_of_run : (part : ℕ) (e : Entry) (rs : Records) → e.part < part →
    AllByRecursion (λ f. place_cmp (place_of e) (place_of f) ≡ Less) (run_entries part rs)
all_of_run part e [] lt = tt
all_of_run part e (r ∷ rs) lt = (lower_part (place_of e) (part, r.0) lt, all_of_run part e rs lt)

pub rising_with_run : (part : ℕ) (es : List Entry) (rs : Records) → IsRising es → AllByRecursion (λ e. e.part < part)
    es → IsRising (run_entries part rs) → IsRising (es ++ run_entries part rs)
rising_with_run part [] rs rising above run = run
rising_with_run part (e ∷ es) rs rising above run = (
  AllByRecursion-append (λ f. place_cmp (place_of e) (place_of f) ≡ Less) es (run_entries part rs) rising.0
      (all_of_run part e rs above.0),
  rising_with_run part es rs rising.1 above.1 run,
)

-- ---- with or without an error

pub pushed : {T E : Type 0} (r : Result T E) (xs ys : List Entry) → is_err r ≡ false → cond (is_ok r) xs ys ≡ xs
pushed (Ok v) xs ys h = refl
pushed (Err e) xs ys h = absurd (cc h)

pub rising_either : {T E : Type 0} (r : Result T E) (part : ℕ) (es : List Entry) (rs : Records) (fs : List Entry) →
    IsRising es → AllByRecursion (λ e. e.part < part) es → IsRising (run_entries part rs)
    → OnOk r (fs ≡ es ++ run_entries part rs) → OnErr r (fs ≡ es) → IsRising fs
rising_either (Ok v) part es rs fs rising above run ok err =
    subst IsRising (sym ok) (rising_with_run part es rs rising above run)
rising_either (Err e) part es rs fs rising above run ok err = subst IsRising (sym err) rising
