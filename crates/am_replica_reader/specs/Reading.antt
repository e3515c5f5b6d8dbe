-- Where a reader stands between two changes, and what a change comes to.
use Rattle.std.specs.Prelude.{◌≡◌, ℕ, ◌∷◌, ◌≤◌, List, [], true, false, Option, Some, None, Result, Ok, Err, refl}
use Rattle.std.specs.Result.{result_map_both}
use Rattle.std.specs.Coded.{Coded, code_by, coded×, coded_ℕ, coded_list, coded_result}
use Rattle.am_replica_log.specs.declared.pieces.Entry.{Entry}
use Rattle.am_replica_log.specs.declared.log.LogFault.{LogFault}
use Rattle.am_replica_log.specs.declared.log.LogFault.TheVariants.{WentBack}
use Rattle.am_replica_log.specs.contracts.log.Log as log
use Rattle.am_replica_log.specs.contracts.log.LogFault as fault
use Rattle.am_replica_log.specs.History.{History, Change, Told, shown, revision_of}
use Rattle.am_replica_log.specs.LogState.{LogState}
use Rattle.am_replica_log.specs.Readers.{IsAt, counted_for, is_known, is_stray}
use Rattle.am_replica_reader.specs.declared.came.Came.{Came}
use Rattle.am_replica_reader.specs.declared.came.Came.TheVariants.{Nothing, Whole, PartsMissing}

-- the log, or why the reader is over; and the text of the entry that the last change ended
pub record ReaderState : Type 0 where
  pub log : Result LogState LogFault
  pub text : List ℕ

abbrev pub reader_code : Coded ReaderState
reader_code = code_by (Result LogState LogFault × List ℕ)
    (coded× (coded_result log.the_row.coded fault.the_row.coded) (coded_list coded_ℕ))
    (λ r. (r.log, r.text)) (λ p. record { log = p.0; text = p.1 }) (λ _. refl)

-- one that was told of no change yet
abbrev pub reader_at : LogState → ReaderState
reader_at log = record { log = Ok log; text = [] }

-- one that is over, for this reason
abbrev pub over_by : LogFault → ReaderState
over_by why = record { log = Err why; text = [] }

-- what an entry that counts comes to, and the text that stands then: none where pieces of it are missing
abbrev pub came_with : Option (List ℕ) → Came
came_with (Some text) = Whole
came_with None = PartsMissing

abbrev pub came_of : Option Entry → Came
came_of None = Nothing
came_of (Some entry) = came_with entry.text

abbrev pub bytes_or_none : Option (List ℕ) → List ℕ
bytes_or_none (Some text) = text
bytes_or_none None = []

abbrev pub text_left : Option Entry → List ℕ
text_left None = []
text_left (Some entry) = bytes_or_none entry.text

-- what the log of a reader that isn't over says
abbrev pub of_log : {X : Type 0} → (LogState → X) → ReaderState → Result X LogFault
of_log says r = result_map_both says (λ why. why) r.log

-- a reader that began after the revision, and took all that it was told up to here
abbrev pub StandsBehind : ℕ → ReaderState → History → Type 0
StandsBehind from r history = (log : LogState) × ((r.log ≡ Ok log) × IsAt from log history)

-- the log took what it was told of, and this entry came: in every history the one that counts there for this reader
pub record ReadsOn (told : Told) (old : LogState) (entry : Option Entry) (new : LogState) : Type 0 where
  pub goes_on : (from : ℕ) (before : History) (change : Change) → from ≤ revision_of before → IsAt from old before →
      shown change before ≡ Some told → IsAt from new (change ∷ before) × (entry ≡ counted_for from change before)
  pub known : is_known old told.revision told.event ≡ true → (new ≡ old) × (entry ≡ None)
  pub followed : is_stray old told.revision told.event ≡ false

-- a log that can't go on: memory was refused, or the floor, which isn't known, doesn't follow the one that is
pub record CannotRead (told : Told) (old : LogState) (why : LogFault) : Type 0 where
  pub unknown : is_known old told.revision told.event ≡ false
  pub stray : why ≡ WentBack → is_stray old told.revision told.event ≡ true

-- a reader's log, or why there is none
abbrev pub ReadsFrom : Told → Result LogState LogFault → Result (Option Entry) LogFault → Result LogState LogFault →
    Type 0
ReadsFrom told (Ok log) (Ok entry) new = (log' : LogState) × ((new ≡ Ok log') × ReadsOn told log entry log')
ReadsFrom told (Ok log) (Err why) new = CannotRead told log why
ReadsFrom told (Err over) result new = result ≡ Err over

-- the same of the reader, which says what the entry came to and has its text
pub record HasCome (told : Told) (old : LogState) (came : Came) (new : ReaderState) : Type 0 where
  pub log : LogState
  pub entry : Option Entry
  pub reads : ReadsOn told old entry log
  pub stands : new ≡ record { log = Ok log; text = text_left entry }
  pub says : came ≡ came_of entry

abbrev pub TakesFrom : Told → Result LogState LogFault → Result Came LogFault → ReaderState → Type 0
TakesFrom told (Ok log) (Ok came) new = HasCome told log came new
TakesFrom told (Ok log) (Err why) new = CannotRead told log why × (new ≡ over_by why)
TakesFrom told (Err over) result new = (result ≡ Err over) × (new ≡ over_by over)

-- what a change comes to; one that is over stays so
abbrev pub TakesChange : Told → ReaderState → Result Came LogFault → ReaderState → Type 0
TakesChange told old result new = TakesFrom told old.log result new
