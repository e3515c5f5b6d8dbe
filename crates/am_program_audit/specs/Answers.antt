-- What is answered to the words.
use Rattle.std.specs.Prelude.{ℕ, List, [], ◌∷◌, Bool, true, false, ◌==◌, cond, Option}
use Rattle.am_program_start.specs.declared.choice.Audited.{Audited}
use Rattle.am_trace_text.specs.Lines.{header_line}
use Rattle.am_trace_text.specs.declared.version.Version.TheVariants.{Two}
use Rattle.am_trace_text.specs.declared.header.Header.TheVariants.{Profile}
use Rattle.am_program_audit.specs.Judgements.{SaysJudgement, IsBegun, PrintsRecords, HasBegunRecords}

-- whether an LF stands in the text
abbrev pub holds_lf : List ℕ → Bool
holds_lf [] = false
holds_lf (b ∷ text) = cond (b == 10) true (holds_lf text)

-- the text up to its last LF, and with it
abbrev pub whole_lines : List ℕ → List ℕ
whole_lines [] = []
whole_lines (b ∷ text) = cond (holds_lf (b ∷ text)) (b ∷ whole_lines text) []

-- the text of a run that isn't ended: its whole lines; where none has come yet, the text of a run without steps
abbrev pub whole_run : List ℕ → List ℕ
whole_run text = cond (holds_lf text) (whole_lines text) (header_line (Profile Two))

-- what is judged of the text
abbrev pub text_judged : Audited → List ℕ → List ℕ
text_judged asked text = cond asked.is_open (whole_run text) text

-- what is asked for of the text was said, and this is the status
abbrev pub AnswersWords : {S : Type 0} → (S → Option (List ℕ)) → Audited → List ℕ → S → S → ℕ → Type 0
AnswersWords holds asked text old new status =
    cond asked.tells_records (PrintsRecords holds (text_judged asked text) old new status)
    (SaysJudgement holds (text_judged asked text) old new status)

-- a beginning of that went out
abbrev pub HasBegunAnswer : {S : Type 0} → (S → Option (List ℕ)) → Audited → List ℕ → S → S → Type 0
HasBegunAnswer holds asked text old new =
    cond asked.tells_records (HasBegunRecords holds (text_judged asked text) old new)
    (IsBegun holds (text_judged asked text) old new)
