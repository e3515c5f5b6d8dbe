use Rattle.am_resp_text.proofs.AnswerTexts.{cut_answers}
use Rattle.am_resp_text.proofs.laws.answers_are_cut_in_one_way.Goals as goal

pub returns : goal.returns
returns c = cut_answers 1
