use Rattle.std.proofs.Common.{sym, ◌∙◌, rules, tests}
use Rattle.std.specs.Prelude.{bytes_eq}
use Rattle.std.proofs.lemmas.Iterator.{YieldsList-from_slice}
use Rattle.std.proofs.lemmas.Iterator.Consumers.{YieldsList-from_copied}
use Rattle.std.proofs.lemmas.Iterator.Search.{find_from_yields_List}
use Rattle.am_line_text.specs.ReplyWords.{refusal_code}
use Rattle.am_trace_text.specs.FieldReadings.{coded_refusals, refusal_for}
use Rattle.am_trace_text.proofs.WordTexts.{option_map-itself}
use Rattle.am_trace_read.proofs.word.refusal_for.Goals as goal

pub returns : goal.returns
unfolding refusal_for
returns c =
    let code = c.args.code.now in
    sym (option_map-itself c.find.result) ∙ find_from_yields_List (λ r. bytes_eq (refusal_code r) code) _ _
    c.find.result c.find.ensures.ran (YieldsList-from_copied (YieldsList-from_slice coded_refusals cc))
    (λ x b q k. search (rules, tests))
