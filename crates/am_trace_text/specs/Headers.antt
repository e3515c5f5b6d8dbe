-- The first line of a trace's text: in which version the lines after it are, and which limits the store has.
use Rattle.std.specs.Prelude.{◌≡◌, ℕ, ◌&&◌, ◌==◌, nat_le, Bool, true, List, [], ◌∷◌, ◌++◌, codes, decimal}
use Rattle.std.specs.Prelude.{Option, Some, None, option_and_then, if◌then◌else◌}
use Rattle.std.specs.Option.{option_zip}
use Rattle.std.specs.List.{join_with_byte}
use Rattle.am_record.specs.Limits.{max_key_bytes, max_value_bytes, max_locks, max_ops, max_runs, last_run}
use Rattle.am_trace_text.specs.FieldReadings.{number_in, run_in}
use Rattle.am_trace_text.specs.declared.version.Version.{Version}
use Rattle.am_trace_text.specs.declared.version.Version.TheVariants.{One, Two, Three}
use Rattle.am_trace_text.specs.declared.store_limits.StoreLimits.{StoreLimits}
use Rattle.am_trace_text.specs.declared.header.Header.{Header}
use Rattle.am_trace_text.specs.declared.header.Header.TheVariants.{Profile, Limits}

-- ---- limits

-- the profile's, which a store has that is told none, but for the runs
abbrev pub limits_with : ℕ → StoreLimits
limits_with runs = record {
  runs = runs;
  key_bytes = max_key_bytes;
  value_bytes = max_value_bytes;
  locks = max_locks;
  operations = max_ops;
}

-- a store can be given them: any number of runs that have numbers, one at least, and of the others the profile's
abbrev pub can_be_given : StoreLimits → Bool
can_be_given l = (nat_le 1 l.runs && nat_le l.runs last_run) && ((l.key_bytes == max_key_bytes &&
    l.value_bytes == max_value_bytes) && (l.locks == max_locks && l.operations == max_ops))

-- ---- the first line

-- the version of the lines after it
abbrev pub line_version : Header → Version
line_version (Profile version) = version
line_version (Limits limits) = Three

-- the limits of the store
abbrev pub store_limits : Header → StoreLimits
store_limits (Profile version) = limits_with max_runs
store_limits (Limits limits) = limits

-- how many runs the store makes at most
abbrev pub most_runs_of : Header → ℕ
most_runs_of header = (store_limits header).runs

-- it may stand in a text
abbrev pub IsHeader : Header → Type 0
IsHeader (Profile version) = Unit {0}
IsHeader (Limits limits) = can_be_given limits ≡ true

abbrev pub limit_fields : StoreLimits → List (List ℕ)
limit_fields l = decimal l.runs ∷ decimal l.key_bytes ∷ decimal l.value_bytes ∷ decimal l.locks ∷
    decimal l.operations ∷ []

-- its words: a version, or all limits in figures
abbrev pub header_words : Header → List ℕ
header_words (Profile One) = codes "TRACE 1"
header_words (Profile Two) = codes "TRACE 2"
header_words (Profile Three) = codes "TRACE 3"
header_words (Limits limits) = codes "TRACE 4 " ++ join_with_byte 32 (limit_fields limits)

-- ---- what five fields are read as

abbrev pub limits_of : ℕ × ((ℕ × ℕ) × (ℕ × ℕ)) → StoreLimits
limits_of p = record {
  runs = p.0;
  key_bytes = p.1.0.0;
  value_bytes = p.1.0.1;
  locks = p.1.1.0;
  operations = p.1.1.1;
}

abbrev pub limits_for : ℕ × ((ℕ × ℕ) × (ℕ × ℕ)) → Option StoreLimits
limits_for p = if can_be_given (limits_of p) then Some (limits_of p) else None

abbrev pub two_numbers_in : List ℕ → List ℕ → Option (ℕ × ℕ)
two_numbers_in first second = option_zip (number_in first) (number_in second)

abbrev pub limits_in : List (List ℕ) → Option StoreLimits
limits_in (runs ∷ key_bytes ∷ value_bytes ∷ locks ∷ operations ∷ []) =
    option_and_then limits_for (option_zip (run_in runs)
    (option_zip (two_numbers_in key_bytes value_bytes) (two_numbers_in locks operations)))
limits_in fs = None
