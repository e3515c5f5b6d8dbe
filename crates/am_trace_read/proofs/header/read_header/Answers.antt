use Rattle.std.proofs.Common.{sym, subst}
use Rattle.am_trace_text.specs.Lines.{BeginsNoHeader}
use Rattle.am_trace_text.proofs.EventTexts.{LineLaws}
use Rattle.am_trace_text.proofs.HeaderTexts.{no_header}
use Rattle.am_trace_read.proofs.header.read_header.Goals as goal

pub returns-in_err-header-clause-none : goal.returns-in_err-header-clause-none
returns-in_err-header-clause-none c =
    let k = c.words_are_fields.ensures in
    let laws : LineLaws = record {
      words = record {
        numbers = record { number = k.number; decimal = k.decimal };
        verb = k.verb;
        verb_word = k.verb_word;
        mode = k.mode;
        mode_word = k.mode_word;
      };
      fields = k.fields;
      line = k.line;
    } in
    rw c.from_residual-in_err-header.ensures (subst BeginsNoHeader (sym c.in_ok-line.ensures.cut)
    (no_header laws c.in_ok-line.line.now c.in_ok-line.further.now c.in_ok-line.ensures.first
    c.in_err-header.ensures.none))
