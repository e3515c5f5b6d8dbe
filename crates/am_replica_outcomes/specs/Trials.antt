-- What a line of a transaction is answered.
use Rattle.std.specs.Prelude.{ℕ, List, [], codes}
use Rattle.am_line_wire.specs.Replies.{text_of}
use Rattle.am_line_dialogue.specs.Responses.{line, response_text}
use Rattle.am_replica_trials.specs.declared.answer.TrialAnswer.{TrialAnswer}
use Rattle.am_replica_trials.specs.declared.answer.TrialAnswer.TheVariants.{Reply, Stage, Conflict}
use Rattle.am_replica_trials.specs.declared.answer.TrialAnswer.TheVariants.{Limit, Faulty, Other}
use Rattle.am_replica_outcomes.specs.Outcomes.{conflict}

-- nothing, where the session answers it
abbrev pub trial_text : TrialAnswer → List ℕ
trial_text (Reply reply) = text_of reply
trial_text (Stage response) = response_text response
trial_text Conflict = conflict
trial_text Limit = line (codes "ERR LIMIT")
trial_text (Faulty response) = response_text response
trial_text Other = []
