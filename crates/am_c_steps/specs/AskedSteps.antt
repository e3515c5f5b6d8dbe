-- Which step a call asks the store for, or what is wrong with what was given.
use Rattle.std.specs.Prelude.{◌≡◌, ◌⊎◌, ℕ, ◌==◌, cond, List, [], ◌∷◌, Result, Ok, Err}
use Rattle.am_record.specs.OrderedKey.{OrderedKey}
use Rattle.am_record.specs.declared.lock.Mode.{Mode}
use Rattle.am_record.specs.declared.lock.Mode.TheVariants.{Shared, Exclusive}
use Rattle.am_record.specs.declared.step.Op.TheVariants.{Get, Scan, ScanBack, Insert, Replace, Set, Delete}
use Rattle.am_record.specs.declared.step.Op.TheVariants.{DeleteRange, Lock}
use Rattle.am_record.specs.declared.step.Step.{Step}
use Rattle.am_record.specs.declared.step.Step.TheVariants.{Do, Clean}
use Rattle.am_c_steps.specs.declared.bringing.Bringing.{Bringing}
use Rattle.am_c_steps.specs.declared.status.Status.{Status}
use Rattle.am_c_steps.specs.declared.status.Status.TheVariants.{BadMode, NoMemory}
use Rattle.am_c_steps.specs.declared.text.Record.{Record}
use Rattle.am_c_steps.specs.Bringings.{brings}
use Rattle.am_c_steps.specs.Texts.{of_both, key_given, value_given, range_given, pair_given}

abbrev pub of_one : {X Z : Type 0} → (X → Z) → Result X Status → Result Z Status
of_one f (Ok x) = Ok (f x)
of_one f (Err why) = Err why

abbrev pub get_asked : ℕ → List ℕ → Result Step Status
get_asked tx key = of_one (λ k. Do tx (Get k)) (key_given key)

abbrev pub insert_asked : ℕ → List ℕ → List ℕ → Result Step Status
insert_asked tx key value = of_both (λ k v. Ok (Do tx (Insert k v))) (key_given key) (value_given value)

abbrev pub replace_asked : ℕ → List ℕ → List ℕ → Result Step Status
replace_asked tx key value = of_both (λ k v. Ok (Do tx (Replace k v))) (key_given key) (value_given value)

abbrev pub set_asked : ℕ → List ℕ → List ℕ → Result Step Status
set_asked tx key value = of_both (λ k v. Ok (Do tx (Set k v))) (key_given key) (value_given value)

abbrev pub delete_asked : ℕ → List ℕ → Result Step Status
delete_asked tx key = of_one (λ k. Do tx (Delete k)) (key_given key)

abbrev pub scan_asked : ℕ → List ℕ → List ℕ → ℕ → Result Step Status
scan_asked tx lo hi max = of_one (λ range. Do tx (Scan range max)) (range_given lo hi)

abbrev pub scan_back_asked : ℕ → List ℕ → List ℕ → ℕ → Result Step Status
scan_back_asked tx lo hi max = of_one (λ range. Do tx (ScanBack range max)) (range_given lo hi)

abbrev pub delete_range_asked : ℕ → List ℕ → List ℕ → ℕ → Result Step Status
delete_range_asked tx lo hi max = of_one (λ range. Do tx (DeleteRange range max)) (range_given lo hi)

-- 0 is shared, 1 exclusive
abbrev pub mode_given : ℕ → Result Mode Status
mode_given m = cond (m == 0) (Ok Shared) (cond (m == 1) (Ok Exclusive) (Err BadMode))

abbrev pub lock_asked : ℕ → ℕ → List ℕ → List ℕ → Result Step Status
lock_asked tx mode lo hi =
    of_both (λ m range. Ok (Do tx (Lock (record { mode = m; range = range })))) (mode_given mode) (range_given lo hi)

-- all of the records, or what is wrong with the first that isn't one
abbrev pub pairs_given : List Record → Result (List (OrderedKey × List ℕ)) Status
pairs_given [] = Ok []
pairs_given (r ∷ rs) = of_both (λ pair pairs. Ok (pair ∷ pairs)) (pair_given r) (pairs_given rs)

-- what was given, or memory was refused for a copy of it
abbrev pub IsCopied : Result (List (OrderedKey × List ℕ)) Status → Result (List (OrderedKey × List ℕ)) Status → Type 0
IsCopied given copied = (copied ≡ given) ⊎ (copied ≡ Err NoMemory)

abbrev pub clean_asked : List ℕ → List ℕ → ℕ → Result Step Status
clean_asked lo hi limit = of_one (λ range. Clean range limit) (range_given lo hi)

-- all of the records are brought in, or what is wrong with them, or memory is refused for them
abbrev pub AreRecordsAsked : ℕ → Bringing → List Record → Result Step Status → Type 0
AreRecordsAsked tx bringing records asked =
    (asked ≡ of_one (λ pairs. Do tx (brings bringing pairs)) (pairs_given records)) ⊎ (asked ≡ Err NoMemory)

-- the pairs of all records were made, or what is wrong was told, or memory was refused
abbrev pub IsAdded : List Record → Result (Unit {0}) Status → List (OrderedKey × List ℕ) → Type 0
IsAdded records (Ok done) pairs = pairs_given records ≡ Ok pairs
IsAdded records (Err why) pairs = (pairs_given records ≡ Err why) ⊎ (why ≡ NoMemory)
