-- The text of a stored trace: a line that says its version or its store's limits, and one for each step with its reply.
use Rattle.std.specs.Prelude.{◌≡◌, ◌≢◌, ◌⊎◌, ℕ, ◌+◌, List, [], ◌∷◌, ◌++◌, codes, length, Option}
use Rattle.std.specs.Option.{option_zip}
use Rattle.std.specs.List.{join_with_byte, flat_map, AllByRecursion}
use Rattle.am_record.specs.declared.step.Step.{Step}
use Rattle.am_record.specs.declared.step.Reply.{Reply}
use Rattle.am_record.specs.declared.step.Reply.TheVariants.{Refused}
use Rattle.am_record.specs.declared.step.Refusal.TheVariants.{SeatFull}
use Rattle.am_record.specs.Events.{Event}
use Rattle.am_line_text.specs.Fields.{line_fields}
use Rattle.am_trace_text.specs.Steps.{step_fields, IsStep, step_in}
use Rattle.am_trace_text.specs.Replies.{reply_fields, IsReply}
use Rattle.am_trace_text.specs.FieldReadings.{reply_in}
use Rattle.am_trace_text.specs.Headers.{IsHeader, header_words, line_version}
use Rattle.am_trace_text.specs.declared.version.Version.{Version}
use Rattle.am_trace_text.specs.declared.header.Header.{Header}

-- what the version can write of events
abbrev pub IsEvent : Version → Event → Type 0
IsEvent v e = IsStep v e.0 × IsReply v e.1

abbrev pub AreEvents : Version → List Event → Type 0
AreEvents v trace = AllByRecursion (IsEvent v) trace

-- no reply says that a seat is full: the store itself never does
abbrev pub CanBeStored : List Event → Type 0
CanBeStored trace = AllByRecursion (λ (e : Event). e.1 ≢ Refused SeatFull) trace

abbrev pub step_words : Version → Step → List ℕ
step_words v step = join_with_byte 32 (step_fields v step)

abbrev pub reply_words : Version → Reply → List ℕ
reply_words v reply = join_with_byte 32 (reply_fields v reply)

-- step and reply, parted by a space, a bar and a space
abbrev pub event_words : Version → Event → List ℕ
event_words v e = step_words v e.0 ++ codes " | " ++ reply_words v e.1

-- the step and the reply of the two parts of a line
abbrev pub parts_in : Version → List ℕ → List ℕ → Option Event
parts_in v step reply = option_zip (step_in v (line_fields step)) (reply_in v (line_fields reply))

-- each line is ended by an LF
abbrev pub with_lf : List ℕ → List ℕ
with_lf words = words ++ 10 ∷ []

abbrev pub header_line : Header → List ℕ
header_line h = with_lf (header_words h)

abbrev pub event_lines : Version → List Event → List ℕ
event_lines v trace = flat_map (λ e. with_lf (event_words v e)) trace

abbrev pub trace_text : Header → List Event → List ℕ
trace_text h trace = header_line h ++ event_lines (line_version h) trace

-- the text is that of the trace, under one of the headers
pub record IsTextOf (text : List ℕ) (trace : List Event) : Type 0 where
  pub header : Header
  pub fits : IsHeader header
  pub events : AreEvents (line_version header) trace
  pub spelled : text ≡ trace_text header trace

-- the text begins with no line of an event
abbrev pub BeginsNoEvent : Version → List ℕ → Type 0
BeginsNoEvent v text = (e : Event) (more : List ℕ) → IsEvent v e → text ≢ with_lf (event_words v e) ++ more

-- the text begins with the lines of these events under this header, and what stands after them begins with none
pub record EndsInBadLine (text : List ℕ) (trace : List Event) : Type 0 where
  pub header : Header
  pub fits : IsHeader header
  pub events : AreEvents (line_version header) trace
  pub rest : List ℕ
  pub spelled : text ≡ trace_text header trace ++ rest
  pub some : rest ≢ []
  pub bad : BeginsNoEvent (line_version header) rest

-- the text begins with no header
abbrev pub BeginsNoHeader : List ℕ → Type 0
BeginsNoHeader text = (h : Header) (more : List ℕ) → IsHeader h → text ≢ header_line h ++ more

-- the first line that isn't one of a trace is this one, the first line being 1
abbrev pub IsBadLine : List ℕ → ℕ → Type 0
IsBadLine text n = ((n ≡ 1) × BeginsNoHeader text) ⊎ ((trace : List Event) × (n ≡ length trace + 2) ×
    EndsInBadLine text trace)
