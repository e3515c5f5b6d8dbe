-- A transaction over texts, in trials.
use Rattle.std.specs.Prelude.{◌≡◌, ◌⊎◌, ◌≤◌, ℕ, ◌+◌, ◌-◌, ◌*◌, nat_le, cond, length, take, List, [], ◌∷◌, ◌++◌}
use Rattle.std.specs.Prelude.{is_some, ◌&&◌, Bool, true, false, Option, Some, None, refl}
use Rattle.std.specs.List.{flat_map}
use Rattle.std.specs.Coded.{Coded, code_by, coded×, coded_ℕ, coded_bool, coded_list}
use Rattle.am_record.specs.Plain.{PlainMap}
use Rattle.am_record.specs.Records.{Records}
use Rattle.am_record.specs.Refusals.{is_bounded}
use Rattle.am_record.specs.declared.step.Op.{Op}
use Rattle.am_record.specs.declared.step.Op.TheVariants.{Scan, ScanBack}
use Rattle.am_record.specs.declared.step.Reply.{Reply}
use Rattle.am_line_source.specs.Lines.{line_of, lines_of}
use Rattle.am_line_wire.specs.Replies.{text_of}
use Rattle.am_line_wire.specs.declared.request.Request.TheVariants.{Do, Stage}
use Rattle.am_line_dialogue.specs.Actions.{some_wait, with_staged, stage_response}
use Rattle.am_line_dialogue.specs.ParsedLine.{parsed}
use Rattle.am_line_dialogue.specs.Session.{SessionState, session_code}
use Rattle.am_line_dialogue.specs.declared.lines.ParsedLine.{ParsedLine}
use Rattle.am_line_dialogue.specs.declared.lines.ParsedLine.TheVariants.{Asked, Faulty, TooLong}
use Rattle.am_line_dialogue.specs.declared.response.Response.{Response}
use Rattle.am_line_dialogue.specs.declared.response.Response.TheVariants as response
use Rattle.am_replica.specs.Bodies.{kept_ops}
use Rattle.am_replica.specs.Ordered.{Sum}
use Rattle.am_replica.specs.Told.{TransactionState, transaction_code, still_stands, behind_lines, untold}
use Rattle.am_replica_blocks.specs.Blocks.{BlockLine, Asks, Stages, waiting, asked_ops}
use Rattle.am_replica_lines.specs.Lines.{said, asked_by, is_own, at_work}
use Rattle.am_replica_trials.specs.declared.answer.TrialAnswer.{TrialAnswer}
use Rattle.am_replica_trials.specs.declared.answer.TrialAnswer.TheVariants as answer

-- what a transaction was told, what waits, the lines that were answered, how many bytes further answers may have, and
-- whether an earlier answer no longer came
pub record TrialState : Type 0 where
  pub transaction : TransactionState
  pub session : SessionState
  pub lines : List ℕ
  pub answered : ℕ
  pub answers_left : ℕ
  pub is_over : Bool

abbrev pub trial_code : Coded TrialState
trial_code = code_by (TransactionState × (SessionState × (List ℕ × (ℕ × (ℕ × Bool)))))
    (coded× transaction_code (coded× session_code (coded× (coded_list coded_ℕ) (coded× coded_ℕ (coded× coded_ℕ
    coded_bool)))))
    (λ t. (t.transaction, (t.session, (t.lines, (t.answered, (t.answers_left, t.is_over))))))
    (λ p. record {
      transaction = p.0;
      session = p.1.0;
      lines = p.1.1.0;
      answered = p.1.1.1.0;
      answers_left = p.1.1.1.1.0;
      is_over = p.1.1.1.1.1;
    }) (λ _. refl)

-- the most bytes of a block's lines, each counted with 100 more, and of the answers to its operations
abbrev pub max_lines_len : ℕ
max_lines_len = 64000000

abbrev pub max_answers_len : ℕ
max_answers_len = 64000000

-- one that has no lines, and was told nothing
abbrev pub first_trial : (List Reply → Sum) → TrialState
first_trial digest = record {
  transaction = record { ops = []; digest = digest []; is_over = false };
  session = at_work [];
  lines = [];
  answered = 0;
  answers_left = max_answers_len;
  is_over = false;
}

-- the most bytes of a row, and of any answer beside its rows
abbrev pub max_row_len : ℕ
max_row_len = 98

abbrev pub max_short_len : ℕ
max_short_len = 110

-- how many rows an operation asks for, and bytes that no answer to it goes beyond: one of too many rows is refused
abbrev pub most_rows : Op → ℕ
most_rows (Scan range most) = most
most_rows (ScanBack range most) = most
most_rows op = 0

abbrev pub longest_answer : Op → ℕ
longest_answer op = max_short_len + cond (is_bounded op) (max_row_len * most_rows op) 0

-- these are its lines: whole ones, which asked for its operations, and have these records wait
pub record HasLines (own : List BlockLine) (s : TrialState) : Type 0 where
  pub asks : said s.lines ≡ asked_by own
  pub whole : (more : List ℕ) → lines_of (s.lines ++ more) ≡ lines_of s.lines ++ lines_of more
  pub each : s.answered ≡ length own
  pub ops : s.transaction.ops ≡ kept_ops (asked_ops [] own)
  pub waits : s.session ≡ at_work (waiting [] own)
  pub few : length s.lines + 99 * s.answered ≤ max_lines_len
  pub over : s.is_over ≡ s.transaction.is_over

-- whether records wait in a session's transaction
abbrev pub records_wait : SessionState → Bool
records_wait s = is_some s.active && some_wait s.staged

-- the lines of a block that a text has
abbrev pub line_in : ParsedLine → List BlockLine
line_in (Asked (Do op)) = Asks op ∷ []
line_in (Asked (Stage records)) = Stages records ∷ []
line_in parsed = []

-- the operations that a text's lines ask for, but for those that are refused
abbrev pub kept_in : List ℕ → List Op
kept_in text = kept_ops (asked_ops [] (flat_map line_in (said text)))

-- the transaction's first bytes are the lines that asked for its operations: none that did comes after them
pub record WereTried (tried : ℕ) (own : List BlockLine) (s : TrialState) : Type 0 where
  pub has : HasLines own s
  pub within : tried ≤ length s.lines
  pub first : kept_in (take tried s.lines) ≡ s.transaction.ops

-- so it is unless it is over
abbrev pub IsInOrder : ℕ → TrialState → Type 0
IsInOrder tried s = s.is_over ≡ false → (own : List BlockLine) × WereTried tried own s

-- what a faulty line is answered
abbrev pub fault_response : ParsedLine → Option Response
fault_response (Faulty fault) = Some (response.Faulty fault)
fault_response TooLong = Some response.TooLong
fault_response (Asked request) = None

-- whether the block has room for one more
abbrev pub has_room : TrialState → List ℕ → Bool
has_room s line = nat_le (length s.lines + 99 * s.answered + length line + 100) max_lines_len

-- whether there is room for any answer to the operation
abbrev pub has_answer_room : TrialState → Op → Bool
has_answer_room s op = nat_le (longest_answer op) s.answers_left

-- the operation that a line asks for, with what waits
abbrev pub whole_op : List BlockLine → Op → List Op
whole_op own op = with_staged (waiting [] own) op ∷ []

-- an operation is answered by the state of the moment, where all earlier answers come again
pub record IsOwnReply (digest : List Reply → Sum) (own : List BlockLine) (s : TrialState) (line : List ℕ) (m : PlainMap)
    (reply : Reply) (s' : TrialState) : Type 0 where
  pub op : Op
  pub asks : parsed (line_of line) ≡ Asked (Do op)
  pub room : has_room s line ≡ true
  pub answer_room : has_answer_room s op ≡ true
  pub not_over : s.is_over ≡ false
  pub stands : still_stands digest s.transaction (whole_op own op) m ≡ true
  pub tells : untold s.transaction (whole_op own op) m ≡ reply ∷ []
  pub goes_on : s'.transaction ≡ behind_lines digest s.transaction (whole_op own op) m
  pub left : s'.answers_left ≡ s.answers_left - length (text_of reply)
  pub has : HasLines (own ++ Asks op ∷ []) s'

-- records wait, or more would than may
pub record IsStage (own : List BlockLine) (s : TrialState) (line : List ℕ) (response : Response)
    (s' : TrialState) : Type 0 where
  pub records : Records
  pub asks : parsed (line_of line) ≡ Asked (Stage records)
  pub room : has_room s line ≡ true
  pub not_over : s.is_over ≡ false
  pub says : response ≡ stage_response (waiting [] own) records
  pub goes_on : s'.transaction ≡ s.transaction
  pub left : s'.answers_left ≡ s.answers_left
  pub has : HasLines (own ++ Stages records ∷ []) s'

-- an earlier answer doesn't come again, now or once before; what the transaction was told stays
pub record IsConflict (digest : List Reply → Sum) (own : List BlockLine) (s : TrialState) (line : List ℕ) (m : PlainMap)
    (s' : TrialState) : Type 0 where
  pub asks : is_own (parsed (line_of line)) ≡ true
  pub why : (s.is_over ≡ true) ⊎ ((op : Op) × (parsed (line_of line) ≡ Asked (Do op)) × (has_room s line ≡ true)
      × (has_answer_room s op ≡ true) × (still_stands digest s.transaction (whole_op own op) m ≡ false))
  pub over : s'.is_over ≡ true
  pub lines : s'.lines ≡ s.lines
  pub answered : s'.answered ≡ s.answered
  pub ops : s'.transaction.ops ≡ s.transaction.ops
  pub sum : s'.transaction.digest ≡ s.transaction.digest

-- the block would have too many bytes, or its answers might
pub record IsBeyondLimit (s : TrialState) (line : List ℕ) (s' : TrialState) : Type 0 where
  pub asks : is_own (parsed (line_of line)) ≡ true
  pub not_over : s.is_over ≡ false
  pub why : (has_room s line ≡ false)
      ⊎ ((op : Op) × (parsed (line_of line) ≡ Asked (Do op)) × (has_answer_room s op ≡ false))
  pub same : s' ≡ s

-- what a line is answered, and where the transaction stands then
abbrev pub IsLineAnswered : (List Reply → Sum) → List BlockLine → TrialState → List ℕ → PlainMap → TrialAnswer →
    TrialState → Type 0
IsLineAnswered digest own s line m (answer.Reply reply) s' = IsOwnReply digest own s line m reply s'
IsLineAnswered digest own s line m (answer.Stage response) s' = IsStage own s line response s'
IsLineAnswered digest own s line m answer.Conflict s' = IsConflict digest own s line m s'
IsLineAnswered digest own s line m answer.Limit s' = IsBeyondLimit s line s'
IsLineAnswered digest own s line m (answer.Faulty response) s' =
    (fault_response (parsed (line_of line)) ≡ Some response) × (s' ≡ s)
IsLineAnswered digest own s line m answer.Other s' =
    (is_own (parsed (line_of line)) ≡ false) × (fault_response (parsed (line_of line)) ≡ None) × (s' ≡ s)
