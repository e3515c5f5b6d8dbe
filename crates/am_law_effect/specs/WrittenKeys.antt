-- What all keys that operations write satisfy.
use Rattle.std.specs.Prelude.{ℕ, List}
use Rattle.std.specs.List.{AllByRecursion}
use Rattle.am_record.specs.OrderedKey.{OrderedKey}
use Rattle.am_record.specs.declared.entry.Entry.{Entry}
use Rattle.am_record.specs.declared.step.Op.{Op}
use Rattle.am_record.specs.declared.step.Op.TheVariants.{Insert, Set, Load, Put}
use Rattle.am_record.specs.declared.step.Step.{Step}
use Rattle.am_record.specs.declared.step.Step.TheVariants.{Do}
use Rattle.am_record.specs.Events.{Event}
use Rattle.am_law_serial.specs.Trace.{Trace}

-- the keys under which the operation may make entries
abbrev pub WritesKeys : (OrderedKey → Type 0) → Op → Type 0
WritesKeys P (Insert k v) = P k
WritesKeys P (Set k v) = P k
WritesKeys P (Load records) = AllByRecursion (λ (r : OrderedKey × List ℕ). P r.0) records
WritesKeys P (Put records) = AllByRecursion (λ (r : OrderedKey × List ℕ). P r.0) records
WritesKeys P op = Unit {0}

abbrev pub StepWritesKeys : (OrderedKey → Type 0) → Step → Type 0
StepWritesKeys P (Do t op) = WritesKeys P op
StepWritesKeys P step = Unit {0}

abbrev pub TraceWritesKeys : (OrderedKey → Type 0) → Trace → Type 0
TraceWritesKeys P trace = AllByRecursion (λ (e : Event). StepWritesKeys P e.0) trace

-- the keys of the entries
abbrev pub HaveKeys : (OrderedKey → Type 0) → List Entry → Type 0
HaveKeys P es = AllByRecursion (λ (e : Entry). P e.key) es
