use Rattle.std.proofs.Common.{◌≡◌, Option, Some, None, option_map, refl, sym, ◌∙◌, rules, tests}
use Rattle.std.specs.Prelude.{bytes_eq}
use Rattle.std.proofs.lemmas.Iterator.{YieldsList-from_slice}
use Rattle.std.proofs.lemmas.Iterator.Consumers.{YieldsList-from_copied}
use Rattle.std.proofs.lemmas.Iterator.Search.{find_from_yields_List}
use Rattle.am_line_text.specs.Verbs.{word_of}
use Rattle.am_line_text.specs.declared.verb.Verb.{Verb}
use Rattle.am_line_text.proofs.verb.find.Goals as goal

itself : (o : Option Verb) → option_map (λ v. v) o ≡ o
itself None = refl
itself (Some v) = refl

pub returns : goal.returns
returns c =
    let word = c.args.word.now in
    sym (itself c.find.result) ∙ find_from_yields_List (λ v. bytes_eq (word_of v) word) _ _ c.find.result
    c.find.ensures.ran (YieldsList-from_copied (YieldsList-from_slice c.args.verbs.now cc))
    (λ x b q k. search (rules, tests))
