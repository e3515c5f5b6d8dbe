-- All versions but the first write events alike, and the third writes more of them.
use Rattle.std.proofs.Common.{◌≡◌, ◌≢◌, ◌↔◌, ◌++◌, ℕ, true, false, List, [], ◌∷◌, codes, decimal, refl, sym, ap}
use Rattle.std.specs.List.{join_with_byte, list_any}
use Rattle.std.proofs.lemmas.Bool.{cond_both, cond-false, or_from, or_parts, true≢false}
use Rattle.am_record.specs.Events.{Event}
use Rattle.am_record.specs.declared.step.Op.{Op}
use Rattle.am_record.specs.declared.step.Op.TheVariants.{Get, ScanBack, Set, DeleteRange, Put}
use Rattle.am_record.specs.declared.step.Step.{Step}
use Rattle.am_record.specs.declared.step.Step.TheVariants.{Do}
use Rattle.am_record.specs.declared.step.Reply.{Reply}
use Rattle.am_record.specs.declared.step.Reply.TheVariants.{Begun, Deleted}
use Rattle.am_line_text.specs.Verbs.{word_of}
use Rattle.am_trace_text.specs.Lines.{IsEvent, AreEvents, event_words, with_lf, event_lines, trace_text, IsTextOf}
use Rattle.am_trace_text.specs.Replies.{reply_fields, IsReply}
use Rattle.am_trace_text.specs.Steps.{argument_fields, step_fields, verb_of, IsOp, IsStep}
use Rattle.am_trace_text.specs.Versions.{op_needs_three, step_needs_three, reply_needs_three, needs_three}
use Rattle.am_trace_text.specs.Versions.{version_needed}
use Rattle.am_trace_text.specs.Headers.{can_be_given}
use Rattle.am_trace_text.specs.declared.version.Version.{Version}
use Rattle.am_trace_text.specs.declared.version.Version.TheVariants.{One, Two, Three}
use Rattle.am_trace_text.specs.declared.store_limits.StoreLimits.{StoreLimits}
use Rattle.am_trace_text.specs.declared.header.Header.TheVariants.{Profile, Limits}

-- ---- their words

arguments : (op : Op) → argument_fields Three op ≡ argument_fields Two op
arguments (Get k) = refl
arguments op = refl

steps : (st : Step) → step_fields Three st ≡ step_fields Two st
steps (Do t op) = ap (λ (fs : List (List ℕ)). word_of (verb_of op) ∷ decimal t ∷ fs) (arguments op)
steps st = refl

replies : (r : Reply) → reply_fields Three r ≡ reply_fields Two r
replies (Begun t) = refl
replies r = refl

pub words_alike : (v : Version) (e : Event) → v ≢ One → event_words v e ≡ event_words Two e
words_alike One e other = absurd (other refl)
words_alike Two e other = refl
words_alike Three e other = λ i. join_with_byte 32 (steps e.0 i) ++ codes " | " ++ join_with_byte 32 (replies e.1 i)

pub lines_alike : (v : Version) (trace : List Event) → v ≢ One → event_lines v trace ≡ event_lines Two trace
lines_alike v [] other = refl
lines_alike v (e ∷ trace) other = λ i. with_lf (words_alike v e other i) ++ lines_alike v trace other i

-- ---- which events they write

ops : (op : Op) → IsOp Two op ↔ (IsOp Three op × (op_needs_three op ≡ false))
ops (ScanBack range max) = (λ h. absurd h.0, λ h. absurd (true≢false h.1))
ops (Set k w) = (λ h. absurd h.0, λ h. absurd (true≢false h.1))
ops (DeleteRange range max) = (λ h. absurd h.0, λ h. absurd (true≢false h.1))
ops (Put records) = (λ h. absurd h.0, λ h. absurd (true≢false h.1))
ops op = (λ h. (h, refl), λ h. h.0)

are_steps : (st : Step) → IsStep Two st ↔ (IsStep Three st × (step_needs_three st ≡ false))
are_steps (Do t op) = (
  λ h. let o = (ops op).0 h.1 in ((h.0, o.0), o.1),
  λ h. (h.0.0, (ops op).1 (h.0.1, h.1)),
)
are_steps st = (λ h. (h, refl), λ h. h.0)

are_replies : (r : Reply) → IsReply Two r ↔ (IsReply Three r × (reply_needs_three r ≡ false))
are_replies (Deleted n) = (λ h. absurd h.0, λ h. absurd (true≢false h.1))
are_replies r = (λ h. (h, refl), λ h. h.0)

-- version 2 writes what version 3 writes, but for what needs that
pub events_of_two : (e : Event) → IsEvent Two e ↔ (IsEvent Three e × (needs_three e ≡ false))
events_of_two e = (
  λ h. let s = (are_steps e.0).0 h.0 in let r = (are_replies e.1).0 h.1 in
      ((s.0, r.0), or_from (step_needs_three e.0) (reply_needs_three e.1) s.1 r.1),
  λ h. let p = or_parts (step_needs_three e.0) (reply_needs_three e.1) h.1 in
      ((are_steps e.0).1 (h.0.0, p.0), (are_replies e.1).1 (h.0.1, p.1)),
)

pub events_more : (v : Version) (e : Event) → v ≢ One → IsEvent Two e → IsEvent v e
events_more One e other h = absurd (other refl)
events_more Two e other h = h
events_more Three e other h = ((events_of_two e).0 h).0

-- ---- the version that a trace needs

none_needs : (trace : List Event) → AreEvents Two trace → list_any needs_three trace ≡ false
none_needs [] h = refl
none_needs (e ∷ trace) h = or_from (needs_three e) (list_any needs_three trace) ((events_of_two e).0 h.0).1
    (none_needs trace h.1)

all_of_two : (trace : List Event) → AreEvents Three trace → list_any needs_three trace ≡ false → AreEvents Two trace
all_of_two [] h none = tt
all_of_two (e ∷ trace) h none =
    let p = or_parts (needs_three e) (list_any needs_three trace) none in
    ((events_of_two e).1 (h.0, p.0), all_of_two trace h.1 p.1)

pub needed : (trace : List Event) → AreEvents Three trace → AreEvents (version_needed trace) trace
needed trace h = cond_both (list_any needs_three trace) Three Two (λ v. AreEvents v trace) (λ _. h)
    (λ none. all_of_two trace h none)

pub second : (trace : List Event) → AreEvents Two trace → version_needed trace ≡ Two
second trace h = cond-false (list_any needs_three trace) Three Two (none_needs trace h)

pub is_text : (trace : List Event) → AreEvents Three trace →
    IsTextOf (trace_text (Profile (version_needed trace)) trace) trace
is_text trace h = record {
  header = Profile (version_needed trace);
  fits = tt;
  events = needed trace h;
  spelled = refl;
}

pub is_text_with_limits : (limits : StoreLimits) (trace : List Event) → can_be_given limits ≡ true →
    AreEvents Three trace → IsTextOf (trace_text (Limits limits) trace) trace
is_text_with_limits limits trace given h =
    record { header = Limits limits; fits = given; events = h; spelled = refl }

pub lines_needed : (trace : List Event) → event_lines (version_needed trace) trace ≡ event_lines Three trace
lines_needed trace = cond_both (list_any needs_three trace) Three Two
    (λ v. event_lines v trace ≡ event_lines Three trace) (λ _. refl) (λ _. sym (lines_alike Three trace (λ e. cc)))
