use Rattle.std.proofs.Common.{sym, ◌∙◌, rules, tests}
use Rattle.std.specs.Prelude.{bytes_eq}
use Rattle.std.proofs.lemmas.Iterator.{YieldsList-from_slice}
use Rattle.std.proofs.lemmas.Iterator.Consumers.{YieldsList-from_copied}
use Rattle.std.proofs.lemmas.Iterator.Search.{find_from_yields_List}
use Rattle.am_line_text.specs.ReplyWords.{word_text}
use Rattle.am_trace_text.specs.FieldReadings.{all_words, word_for}
use Rattle.am_trace_text.proofs.WordTexts.{option_map-itself}
use Rattle.am_trace_read.proofs.word.find.Goals as goal

pub returns : goal.returns
unfolding word_for
returns c =
    let text = c.args.text.now in
    sym (option_map-itself c.find.result) ∙ find_from_yields_List (λ w. bytes_eq (word_text w) text) _ _ c.find.result
    c.find.ensures.ran (YieldsList-from_copied (YieldsList-from_slice all_words cc))
    (λ x b q k. search (rules, tests))
