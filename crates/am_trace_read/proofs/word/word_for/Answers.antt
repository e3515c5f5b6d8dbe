use Rattle.std.proofs.Common.{◌≡◌, Some, None, cond, sym, ap, ◌∙◌}
use Rattle.std.specs.Prelude.{bytes_eq}
use Rattle.std.specs.Option.{option_copied}
use Rattle.am_line_text.specs.ReplyWords.{word_text}
use Rattle.am_line_text.specs.declared.reply_word.ReplyWord.TheVariants.{Done, Found}
use Rattle.am_line_text.proofs.VerbWords.{with_letter}
use Rattle.am_trace_text.specs.FieldReadings.{word_for}
use Rattle.am_trace_text.proofs.WordTexts.{done_by_letter, found_by_letter}
use Rattle.am_trace_read.proofs.word.word_for.Goals as goal

pub returns-in-Some-eq79 : goal.returns-in-Some-eq79
returns-in-Some-eq79 c =
    c.told.ensures
    ∙ with_letter c.args.text.now 79 (λ w. cond (bytes_eq (word_text Done) w) (Some Done) None ≡ word_for w)
    (sym c.first.ensures.value ∙ ap option_copied c.in-Some-eq79.is ∙ ap Some c.in-Some-eq79.field-0-test)
    (λ rest. sym (done_by_letter rest))

pub returns-in-Some-eq86 : goal.returns-in-Some-eq86
returns-in-Some-eq86 c =
    c.told-in-Some-eq86.ensures
    ∙ with_letter c.args.text.now 86 (λ w. cond (bytes_eq (word_text Found) w) (Some Found) None ≡ word_for w)
    (sym c.first.ensures.value ∙ ap option_copied c.in-Some-eq86.is ∙ ap Some c.in-Some-eq86.field-0-test)
    (λ rest. sym (found_by_letter rest))
