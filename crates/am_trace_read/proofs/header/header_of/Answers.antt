use Rattle.std.proofs.Common.{◌≡◌, ◌++◌, None, Some, rules}
use Rattle.std.specs.Prelude.{codes}
use Rattle.std.proofs.lemmas.Bool.Decides.{Decides-eqb}
use Rattle.std.proofs.lemmas.Slice.Eq.{strip_prefix_is}
use Rattle.am_line_text.specs.Fields.{line_fields}
use Rattle.am_trace_text.specs.Headers.{limits_in}
use Rattle.am_trace_text.proofs.EventTexts.{LineLaws}
use Rattle.am_trace_text.proofs.HeaderTexts.{limits_spelled, no_limits}
use Rattle.am_trace_read.proofs.header.header_of.Goals as goal

pub returns-in_err-limits-clause-none : goal.returns-in_err-limits-clause-none
returns-in_err-limits-clause-none c =
    let k = c.words_are_fields.ensures in
    let laws : LineLaws = record {
      words = record {
        numbers = record { number = k.number; decimal = k.decimal };
        verb = k.verb;
        verb_word = k.verb_word;
        mode = k.mode;
        mode_word = k.mode_word;
      };
      fields = k.fields;
      line = k.line;
    } in
    let numbers = c.in_ok-numbers.numbers.now in
    let is : c.args.line.now ≡ codes "TRACE 4 " ++ numbers = strip_prefix_is Decides-eqb c.args.line.now
    (codes "TRACE 4 ") (Some c.in_ok-numbers.numbers) c.in_ok-numbers.ensures.cases in
    let none : limits_in (line_fields numbers) ≡ None = search rules in
    rw c.from_residual-in_err-limits.ensures (no_limits laws c.args.line.now numbers is none)

pub returns-clause-some : goal.returns-clause-some
returns-clause-some c =
    let k = c.words_are_fields.ensures in
    let laws : LineLaws = record {
      words = record {
        numbers = record { number = k.number; decimal = k.decimal };
        verb = k.verb;
        verb_word = k.verb_word;
        mode = k.mode;
        mode_word = k.mode_word;
      };
      fields = k.fields;
      line = k.line;
    } in
    let numbers = c.in_ok-numbers.numbers.now in
    let is : c.args.line.now ≡ codes "TRACE 4 " ++ numbers = strip_prefix_is Decides-eqb c.args.line.now
    (codes "TRACE 4 ") (Some c.in_ok-numbers.numbers) c.in_ok-numbers.ensures.cases in
    let read : limits_in (line_fields numbers) ≡ Some c.in_ok-limits.limits = search rules in
    limits_spelled laws c.args.line.now numbers c.in_ok-limits.limits is read
