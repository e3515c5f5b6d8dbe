use Rattle.std.proofs.Common.{◌≡◌, Err, sym, ap, ◌∙◌, subst}
use Rattle.am_trace_text.specs.Lines.{BeginsNoEvent}
use Rattle.am_trace_text.specs.declared.read.ReadFault.TheVariants.{Bad}
use Rattle.am_trace_text.proofs.EventTexts.{LineLaws, no_event}
use Rattle.am_trace_read.proofs.line.read_by_fields.Goals as goal

pub returns-in-Err-clause-bad : goal.returns-in-Err-clause-bad
returns-in-Err-clause-bad c = λ h.
    let k = c.words_are_fields.ensures in
    let laws : LineLaws = record {
      words = record {
        numbers = record { number = k.number; decimal = k.decimal };
        verb = k.verb;
        verb_word = k.verb_word;
        mode = k.mode;
        mode_word = k.mode_word;
      };
      fields = k.fields;
      line = k.line;
    } in
    let bad : c.in-Err.fault ≡ Bad = cc in
    subst (BeginsNoEvent c.args.version) (sym c.in-Some.ensures.cut)
    (no_event laws c.args.version c.in-Some.line.now c.in-Some.further.now c.in-Some.ensures.first
    (c.read_event.ensures.bad (c.in-Err.is ∙ ap Err bad)))
