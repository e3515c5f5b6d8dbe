-- A text that is judged as it is read.
use Rattle.std.proofs.Common.{◌≡◌, ℕ, ◌+◌, ◌<◌, ◌≤◌, ◌^◌, List, [], ◌∷◌, ◌++◌, length, refl, ap, ◌∙◌, arith, append-nil}
use Rattle.std.proofs.Common.{append_assoc, length-append}
use Rattle.am_record.specs.declared.step.Step.{Step}
use Rattle.am_record.specs.declared.step.Reply.{Reply}
use Rattle.am_law_serial.specs.Trace.{Trace}
use Rattle.am_audit.specs.declared.trace_audit.Audit.{Audit}
use Rattle.am_audit.specs.AuditStates.{HasJudged, CanJudge}
use Rattle.am_trace_text.specs.Lines.{IsEvent, AreEvents, header_line, with_lf, event_lines, event_words}
use Rattle.am_trace_text.specs.Lines.{trace_text}
use Rattle.am_trace_text.specs.Headers.{IsHeader, line_version, most_runs_of}
use Rattle.am_trace_text.specs.declared.version.Version.{Version}
use Rattle.am_trace_text.specs.declared.version.Version.TheVariants.{One, Two, Three}
use Rattle.am_trace_text.specs.declared.header.Header.{Header}
use Rattle.am_trace_text.specs.declared.header.Header.TheVariants.{Profile, Limits}
use Rattle.am_trace_text.proofs.WrittenLines.{all_behind, read_line}
use Rattle.am_program_audit.specs.Judgements.{HasText}

-- the lines before the rest are those of events that were judged
pub record IsReadTo (text : List ℕ) (h : Header) (rest : List ℕ) (line : ℕ) (audit : Audit) : Type 0 where
  pub seen : Trace
  pub fits : IsHeader h
  pub events : AreEvents (line_version h) seen
  pub spelled : text ≡ trace_text h seen ++ rest
  pub count : line ≡ length seen + 2
  pub judged : HasJudged (most_runs_of h) audit seen

lines_long : (v : Version) (trace : Trace) → length trace ≤ length (event_lines v trace)
lines_long v [] = omega arith
lines_long v (e ∷ trace) =
    let rest = lines_long v trace in
    let all = length-append (with_lf (event_words v e)) (event_lines v trace) in
    let one = length-append (event_words v e) (10 ∷ []) in
    omega arith

header_long : (h : Header) → 8 ≤ length (header_line h)
header_long (Profile One) = omega arith
header_long (Profile Two) = omega arith
header_long (Profile Three) = omega arith
header_long (Limits l) = omega arith

-- a text has more bytes than lines
pub is_short : (text : List ℕ) (h : Header) (rest : List ℕ) (line : ℕ) (audit : Audit) →
    IsReadTo text h rest line audit → line + 6 ≤ length text
is_short text h rest line audit read =
    let first = header_long h in
    let lines = lines_long (line_version h) read.seen in
    let all = ap length read.spelled ∙ length-append (trace_text h read.seen) rest in
    let two = length-append (header_line h) (event_lines (line_version h) read.seen) in
    let count = read.count in
    omega arith

pub can_judge : (text : List ℕ) (h : Header) (rest : List ℕ) (line : ℕ) (audit : Audit) → length text < 2 ^ 63 →
    IsReadTo text h rest line audit → CanJudge audit
can_judge text h rest line audit long read = record {
  most_runs = most_runs_of h;
  seen = read.seen;
  judged = read.judged;
  room =
      let short = is_short text h rest line audit read in
      let count = read.count in
      omega arith;
}

pub one_more : (text : List ℕ) (h : Header) (rest further : List ℕ) (line : ℕ) (step : Step) (reply : Reply)
    (audit now : Audit) → IsReadTo text h rest line audit → IsEvent (line_version h) (step, reply) →
    rest ≡ with_lf (event_words (line_version h) (step, reply)) ++ further →
    ((seen : Trace) → HasJudged (most_runs_of h) audit seen →
    HasJudged (most_runs_of h) now (seen ++ (step, reply) ∷ [])) →
    IsReadTo text h further (line + 1) now
one_more text h rest further line step reply audit now read event is goes = record {
  seen = read.seen ++ (step, reply) ∷ [];
  fits = read.fits;
  events = all_behind (IsEvent (line_version h)) read.seen (step, reply) read.events event;
  spelled = read_line h text rest (event_words (line_version h) (step, reply)) further read.seen (step, reply)
      read.spelled (is ∙ append_assoc (event_words (line_version h) (step, reply)) (10 ∷ []) further) refl;
  count =
      let count = read.count in
      let long = length-append read.seen ((step, reply) ∷ []) in
      omega arith;
  judged = goes read.seen read.judged;
}

pub is_whole : (text : List ℕ) (h : Header) (rest : List ℕ) (line : ℕ) (audit : Audit)
    (read : IsReadTo text h rest line audit) → rest ≡ [] → HasText text audit
is_whole text h rest line audit read none = (
  read.seen,
  record {
    header = h;
    fits = read.fits;
    events = read.events;
    spelled = read.spelled ∙ ap (λ l. trace_text h read.seen ++ l) none ∙ append-nil (trace_text h read.seen);
  },
  read.judged,
)
