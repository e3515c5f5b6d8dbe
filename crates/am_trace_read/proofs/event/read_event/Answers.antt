use Rattle.am_trace_text.proofs.EventTexts.{LineLaws, event_parted, given_event, given_bad}
use Rattle.std.proofs.Common.{sym, subst, List, ℕ}
use Rattle.am_trace_text.specs.Cuts.{IsParted}
use Rattle.am_trace_text.specs.Lines.{step_words, reply_words}
use Rattle.am_trace_read.proofs.event.read_event.Goals as goal

pub returns-in-Some-clause-event : goal.returns-in-Some-clause-event
returns-in-Some-clause-event c =
    let k = c.words_are_fields.ensures in
    let laws : LineLaws = record {
      words = record {
        numbers = record { number = k.number; decimal = k.decimal };
        verb = k.verb;
        verb_word = k.verb_word;
        mode = k.mode;
        mode_word = k.mode_word;
      };
      fields = k.fields;
      line = k.line;
    } in
    given_event laws c.args.version c.args.line.now c.in-Some.step.now c.in-Some.reply.now c.read_parts.result
    c.in-Some.ensures.some c.read_parts.ensures

pub returns-in-Some-clause-bad : goal.returns-in-Some-clause-bad
returns-in-Some-clause-bad c =
    let k = c.words_are_fields.ensures in
    let laws : LineLaws = record {
      words = record {
        numbers = record { number = k.number; decimal = k.decimal };
        verb = k.verb;
        verb_word = k.verb_word;
        mode = k.mode;
        mode_word = k.mode_word;
      };
      fields = k.fields;
      line = k.line;
    } in
    given_bad laws c.args.version c.args.line.now c.in-Some.step.now c.in-Some.reply.now c.read_parts.result
    c.in-Some.ensures.some c.read_parts.ensures

pub returns-in-None-clause-bad : goal.returns-in-None-clause-bad
returns-in-None-clause-bad c =
    let k = c.words_are_fields.ensures in
    let laws : LineLaws = record {
      words = record {
        numbers = record { number = k.number; decimal = k.decimal };
        verb = k.verb;
        verb_word = k.verb_word;
        mode = k.mode;
        mode_word = k.mode_word;
      };
      fields = k.fields;
      line = k.line;
    } in
    λ _ e is same. c.in-None.ensures.none (step_words c.args.version e.0) (reply_words c.args.version e.1)
    (subst (λ (x : List ℕ). IsParted x (step_words c.args.version e.0) (reply_words c.args.version e.1)) (sym same)
    (event_parted laws c.args.version e is))
