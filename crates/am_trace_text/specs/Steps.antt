-- A step as a stored trace writes it: its fields, which a space parts, and what they are read as.
use Rattle.std.specs.Prelude.{ℕ, List, [], ◌∷◌, map, decimal, Option, Some, None, option_map}
use Rattle.std.specs.Option.{option_zip}
use Rattle.am_record.specs.OrderedKey.{OrderedKey}
use Rattle.am_record.specs.Interval.{Interval}
use Rattle.am_record.specs.declared.step.Op.{Op}
use Rattle.am_record.specs.declared.step.Op.TheVariants.{Get, Scan, ScanBack, Insert, Replace, Set, Delete}
use Rattle.am_record.specs.declared.step.Op.TheVariants.{DeleteRange, Load, Put, Lock, Mark, Back}
use Rattle.am_record.specs.declared.step.Step.{Step}
use Rattle.am_record.specs.declared.step.Step.TheVariants.{Begin, Do, Commit, Abort, Merge, Clean}
use Rattle.am_line_text.specs.Verbs.{word_of, verb_for}
use Rattle.am_line_text.specs.Locks.{mode_word}
use Rattle.am_line_text.specs.declared.verb.Verb.{Verb}
use Rattle.am_line_text.specs.declared.verb.Verb.TheVariants as verb
use Rattle.am_trace_text.specs.Words.{key_word, record_word, hex}
use Rattle.am_trace_text.specs.Bounds.{IsNumber, IsKey, IsRecord, AreRecords, IsRange}
use Rattle.am_trace_text.specs.FieldReadings.{number_in, one_number_in, nothing_in, one_key_in, key_and_value_in}
use Rattle.am_trace_text.specs.FieldReadings.{range_and_number_in, lock_fields_in, records_of_fields, savepoint_in}
use Rattle.am_trace_text.specs.FieldReadings.{in_three}
use Rattle.am_trace_text.specs.declared.version.Version.{Version}
use Rattle.am_trace_text.specs.declared.version.Version.TheVariants.{One, Three}

abbrev pub verb_of : Op → Verb
verb_of (Get k) = verb.Get
verb_of (Scan r max) = verb.Scan
verb_of (ScanBack r max) = verb.ScanBack
verb_of (Insert k w) = verb.Insert
verb_of (Replace k w) = verb.Replace
verb_of (Set k w) = verb.Set
verb_of (Delete k) = verb.Delete
verb_of (DeleteRange r max) = verb.DeleteRange
verb_of (Load rs) = verb.Load
verb_of (Put rs) = verb.Put
verb_of (Lock lock) = verb.Lock
verb_of Mark = verb.Mark
verb_of Back = verb.Back

-- what an operation names
abbrev pub argument_fields : Version → Op → List (List ℕ)
argument_fields v (Get k) = key_word v k ∷ []
argument_fields v (Scan r max) = key_word v r.lo ∷ key_word v r.hi ∷ decimal max ∷ []
argument_fields v (ScanBack r max) = key_word v r.lo ∷ key_word v r.hi ∷ decimal max ∷ []
argument_fields v (Insert k w) = key_word v k ∷ hex w ∷ []
argument_fields v (Replace k w) = key_word v k ∷ hex w ∷ []
argument_fields v (Set k w) = key_word v k ∷ hex w ∷ []
argument_fields v (Delete k) = key_word v k ∷ []
argument_fields v (DeleteRange r max) = key_word v r.lo ∷ key_word v r.hi ∷ decimal max ∷ []
argument_fields v (Load rs) = map (record_word v) rs
argument_fields v (Put rs) = map (record_word v) rs
argument_fields v (Lock lock) = mode_word lock.mode ∷ key_word v lock.range.lo ∷ key_word v lock.range.hi ∷ []
argument_fields v Mark = []
argument_fields v Back = []

-- the word of its line in a session, the number of its transaction, and what it names
abbrev pub op_fields : Version → ℕ → Op → List (List ℕ)
op_fields v t op = word_of (verb_of op) ∷ decimal t ∷ argument_fields v op

abbrev pub step_fields : Version → Step → List (List ℕ)
step_fields v Begin = word_of verb.Begin ∷ []
step_fields v (Do t op) = op_fields v t op
step_fields v (Commit t) = word_of verb.Commit ∷ decimal t ∷ []
step_fields v (Abort t) = word_of verb.Abort ∷ decimal t ∷ []
step_fields v (Merge limit) = word_of verb.Merge ∷ decimal limit ∷ []
step_fields v (Clean r limit) = word_of verb.Clean ∷ key_word v r.lo ∷ key_word v r.hi ∷ decimal limit ∷ []

-- version 1 knows no savepoints
abbrev pub HasSavepoints : Version → Type 0
HasSavepoints One = ⊥
HasSavepoints _ = Unit {0}

-- version 3 alone knows Set, ScanBack, DeleteRange and Put
abbrev pub KnowsAllOps : Version → Type 0
KnowsAllOps Three = Unit {0}
KnowsAllOps _ = ⊥

-- what the version can write of operations
abbrev pub IsOp : Version → Op → Type 0
IsOp v (Get k) = IsKey v k
IsOp v (Scan r max) = IsRange v r × IsNumber max
IsOp v (ScanBack r max) = KnowsAllOps v × (IsRange v r × IsNumber max)
IsOp v (Insert k w) = IsRecord v (k, w)
IsOp v (Replace k w) = IsRecord v (k, w)
IsOp v (Set k w) = KnowsAllOps v × IsRecord v (k, w)
IsOp v (Delete k) = IsKey v k
IsOp v (DeleteRange r max) = KnowsAllOps v × (IsRange v r × IsNumber max)
IsOp v (Load rs) = AreRecords v rs
IsOp v (Put rs) = KnowsAllOps v × AreRecords v rs
IsOp v (Lock lock) = IsRange v lock.range
IsOp v Mark = HasSavepoints v
IsOp v Back = HasSavepoints v

-- and of steps
abbrev pub IsStep : Version → Step → Type 0
IsStep v Begin = Unit {0}
IsStep v (Do t op) = IsNumber t × IsOp v op
IsStep v (Commit t) = IsNumber t
IsStep v (Abort t) = IsNumber t
IsStep v (Merge limit) = IsNumber limit
IsStep v (Clean r limit) = IsRange v r × IsNumber limit

-- ---- what the fields are read as

-- an operation, but for a load and a put, which take memory
abbrev pub small_op_in : Version → Verb → List (List ℕ) → Option Op
small_op_in v verb.Get fs = option_map Get (one_key_in v fs)
small_op_in v verb.Delete fs = option_map Delete (one_key_in v fs)
small_op_in v verb.Scan fs = option_map (λ (p : Interval × ℕ). Scan p.0 p.1) (range_and_number_in v fs)
small_op_in v verb.Insert fs = option_map (λ (r : OrderedKey × List ℕ). Insert r.0 r.1) (key_and_value_in v fs)
small_op_in v verb.Replace fs = option_map (λ (r : OrderedKey × List ℕ). Replace r.0 r.1) (key_and_value_in v fs)
small_op_in v verb.ScanBack fs =
    option_map (λ (p : Interval × ℕ). ScanBack p.0 p.1) (in_three v (range_and_number_in v fs))
small_op_in v verb.Set fs = option_map (λ (r : OrderedKey × List ℕ). Set r.0 r.1) (in_three v (key_and_value_in v fs))
small_op_in v verb.DeleteRange fs =
    option_map (λ (p : Interval × ℕ). DeleteRange p.0 p.1) (in_three v (range_and_number_in v fs))
small_op_in v verb.Lock fs = option_map Lock (lock_fields_in v fs)
small_op_in v verb.Mark fs = option_map (λ _. Mark) (savepoint_in v fs)
small_op_in v verb.Back fs = option_map (λ _. Back) (savepoint_in v fs)
small_op_in v _ fs = None

abbrev pub op_in : Version → Verb → List (List ℕ) → Option Op
op_in v verb.Load fs = option_map Load (records_of_fields v fs)
op_in v verb.Put fs = option_map Put (in_three v (records_of_fields v fs))
op_in v verb fs = small_op_in v verb fs

abbrev pub do_in : Version → Verb → List (List ℕ) → Option Step
do_in v verb [] = None
do_in v verb (t ∷ fs) = option_map (λ (p : ℕ × Op). Do p.0 p.1) (option_zip (number_in t) (op_in v verb fs))

abbrev pub step_of : Version → Verb → List (List ℕ) → Option Step
step_of v verb.Begin fs = option_map (λ _. Begin) (nothing_in fs)
step_of v verb.Commit fs = option_map Commit (one_number_in fs)
step_of v verb.Abort fs = option_map Abort (one_number_in fs)
step_of v verb.Merge fs = option_map Merge (one_number_in fs)
step_of v verb.Clean fs = option_map (λ (p : Interval × ℕ). Clean p.0 p.1) (range_and_number_in v fs)
step_of v verb fs = do_in v verb fs

abbrev pub step_with : Version → Option Verb → List (List ℕ) → Option Step
step_with v None fs = None
step_with v (Some verb) fs = step_of v verb fs

abbrev pub step_in : Version → List (List ℕ) → Option Step
step_in v [] = None
step_in v (f ∷ fs) = step_with v (verb_for f) fs
