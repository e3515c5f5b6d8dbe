use Rattle.am_resp_text.proofs.AnswerTexts.{answers_in_array}
use Rattle.am_resp_text.proofs.laws.arrays_are_answers.Goals as goal

pub returns : goal.returns
returns c = λ answers h. (tt, answers_in_array answers h)
