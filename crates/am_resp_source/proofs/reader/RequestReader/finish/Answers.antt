use Rattle.std.proofs.Common.{◌∙◌, refl}
use Rattle.am_resp_source.proofs.Steps.{whole_request, begins_anew}
use Rattle.am_resp_source.proofs.reader.RequestReader.finish.Goals as goal

pub returns-then-self-clause-heard : goal.returns-then-self-clause-heard
returns-then-self-clause-heard c = λ came rest at.
    let whole = whole_request c.args.self.now came rest at c.requires.due c.requires.line in
    let empty = c.replace-words.ensures.after ∙ c.new.ensures in
    let anew = begins_anew c.args.self.now.line c.replace-words.new.dest c.requires.line empty in
    (whole.0, whole.1, whole.2, ((anew.0, anew.1, anew.2, refl), tt))

pub returns-clause-heard : goal.returns-clause-heard
returns-clause-heard c = λ came rest at.
    let whole = whole_request c.args.self.now came rest at c.requires.due c.requires.line in
    let empty = c.replace-words.ensures.after ∙ c.new.ensures in
    let anew = begins_anew c.args.self.now.line c.replace-words.new.dest c.requires.line empty in (
      whole.0,
      whole.1,
      whole.2,
      c.replace-words.ensures.value ∙ whole.3 c.if-self.false,
      ((anew.0, anew.1, anew.2, c.if-self.false), tt),
    )
