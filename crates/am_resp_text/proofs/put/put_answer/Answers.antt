use Rattle.std.proofs.lemmas.List.Elements.{All-from_recursion}
use Rattle.am_resp_text.specs.Answers.{IsPlainPart}
use Rattle.am_resp_text.proofs.AnswerTexts.{plain_parts}
use Rattle.am_resp_text.proofs.put.put_answer.Goals as goal

pub put_parts-requires-clause-plain : goal.put_parts-requires-clause-plain
put_parts-requires-clause-plain g c =
    All-from_recursion IsPlainPart c.args.parts.now (plain_parts 1 c.args.parts.now c.requires.answer)
