-- What is said of a text: of the trace that it is the text of, or that it is none.
use Rattle.std.specs.Prelude.{◌≡◌, ◌≢◌, ◌⊎◌, ℕ, List, [], ◌∷◌, ◌++◌, codes, decimal, length, Option}
use Rattle.std.specs.FinMap.{entries}
use Rattle.am_record.specs.OrderedKey.{OrderedKey, bytes_of}
use Rattle.am_record.specs.Records.{Records}
use Rattle.am_law_serial.specs.Trace.{Trace, effects, committers, committed}
use Rattle.am_line_sink.specs.SinkWrites.{Gave, GaveBeginning}
use Rattle.am_trace_text.specs.Lines.{IsTextOf, IsBadLine}
use Rattle.am_trace_text.specs.Headers.{most_runs_of}
use Rattle.am_law_serial.specs.Legal.{IsLegal}
use Rattle.am_audit.specs.Faults.{IsFirstFault}
use Rattle.am_audit.specs.AuditStates.{HasJudged}
use Rattle.am_audit.specs.declared.trace_audit.Audit.{Audit}
use Rattle.am_audit.specs.declared.fault.FaultKind.{FaultKind}
use Rattle.am_audit.specs.declared.fault.FaultKind.TheVariants.{Form, Busy, Answer}
use Rattle.am_program_audit.specs.declared.judgement.Judgement.{Judgement}
use Rattle.am_program_audit.specs.declared.judgement.Judgement.TheVariants.{Legal, Wrong, Bad, NoFile, NoMemory}

-- Of a legal trace its number of commits, of another its first fault, of what is no trace its first bad line; want of
-- memory says nothing. The text's first line says how many runs the store makes at most.
abbrev pub IsTrueOf : List ℕ → Judgement → Type 0
IsTrueOf text (Legal commits) = (trace : Trace) × (it : IsTextOf text trace) ×
    IsLegal (most_runs_of it.header) trace ×
    (commits ≡ length (committers (effects trace)))
IsTrueOf text (Wrong line kind) = (trace : Trace) × (it : IsTextOf text trace) ×
    IsFirstFault (most_runs_of it.header) trace line kind
IsTrueOf text (Bad line) = IsBadLine text line
IsTrueOf text NoFile = ⊥
IsTrueOf text NoMemory = Unit {0}

-- the text is that of a trace, all events of which were judged
abbrev pub HasText : List ℕ → Audit → Type 0
HasText text audit = (trace : Trace) × (it : IsTextOf text trace) × HasJudged (most_runs_of it.header) audit trace

abbrev pub kind_word : FaultKind → List ℕ
kind_word Form = codes " FORM\n"
kind_word Busy = codes " BUSY\n"
kind_word Answer = codes " ANSWER\n"

abbrev pub judgement_line : Judgement → List ℕ
judgement_line (Legal commits) = codes "LEGAL " ++ decimal commits ++ codes "\n"
judgement_line (Wrong line kind) = codes "WRONG " ++ decimal line ++ kind_word kind
judgement_line (Bad line) = codes "BAD " ++ decimal line ++ codes "\n"
judgement_line NoFile = codes "NO FILE\n"
judgement_line NoMemory = codes "NO MEMORY\n"

abbrev pub judgement_status : Judgement → ℕ
judgement_status (Legal commits) = 0
judgement_status (Wrong line kind) = 1
judgement_status (Bad line) = 3
judgement_status NoFile = 4
judgement_status NoMemory = 5

-- ---- records

-- a record's line
abbrev pub record_line : OrderedKey × List ℕ → List ℕ
record_line r = bytes_of r.0 ++ 9 ∷ r.1 ++ 10 ∷ []

abbrev pub records_text : Records → List ℕ
records_text [] = []
records_text (r ∷ rs) = record_line r ++ records_text rs

-- the text is that of a legal trace, and the lines are the records that its committed transactions leave, by rising key
pub record HasRecords (text lines : List ℕ) : Type 0 where
  pub trace : Trace
  pub is_text : IsTextOf text trace
  pub legal : IsLegal (most_runs_of is_text.header) trace
  pub are : lines ≡ records_text (entries (committed (effects trace)))

-- a true judgement that isn't Legal
abbrev pub IsAgainst : List ℕ → Judgement → Type 0
IsAgainst text judgement = IsTrueOf text judgement × (judgement_status judgement ≢ 0)

-- the records were told, or why there are none, and this is the status
abbrev pub PrintsRecords : {S : Type 0} → (S → Option (List ℕ)) → List ℕ → S → S → ℕ → Type 0
PrintsRecords holds text old new status =
    ((lines : List ℕ) × HasRecords text lines × Gave holds old lines new × (status ≡ 0)) ⊎
    ((judgement : Judgement) × IsAgainst text judgement × Gave holds old (judgement_line judgement) new ×
    (status ≡ judgement_status judgement))

-- a beginning of that went out
abbrev pub HasBegunRecords : {S : Type 0} → (S → Option (List ℕ)) → List ℕ → S → S → Type 0
HasBegunRecords holds text old new =
    ((lines : List ℕ) × HasRecords text lines × GaveBeginning holds old lines new) ⊎
    ((judgement : Judgement) × IsAgainst text judgement × GaveBeginning holds old (judgement_line judgement) new)

-- a true judgement of the text was said, and this is its status
pub record SaysJudgement {S : Type 0} (holds : S → Option (List ℕ)) (text : List ℕ) (old new : S)
    (status : ℕ) : Type 0 where
  pub judgement : Judgement
  pub true_of : IsTrueOf text judgement
  pub said : Gave holds old (judgement_line judgement) new
  pub status_is : status ≡ judgement_status judgement

-- a beginning of the line that says a true judgement of the text went out
pub record IsBegun {S : Type 0} (holds : S → Option (List ℕ)) (text : List ℕ) (old new : S) : Type 0 where
  pub judgement : Judgement
  pub true_of : IsTrueOf text judgement
  pub begun : GaveBeginning holds old (judgement_line judgement) new
