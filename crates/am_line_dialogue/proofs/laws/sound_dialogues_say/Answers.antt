use Rattle.std.proofs.Common.{[], None, append-nil, subst, refl}
use Rattle.std.specs.FinMap.{empty}
use Rattle.am_law_serial.specs.Machine.{Runs}
use Rattle.am_line_dialogue.specs.Exchanges.{with_torn}
use Rattle.am_line_dialogue.specs.Alone.{alone_start, alone_meaning}
use Rattle.am_line_dialogue.specs.Say.{Says}
use Rattle.am_line_dialogue.proofs.Conversations.{conversation_so}
use Rattle.am_line_dialogue.proofs.Dialogues.{Where, machine_at, SaysSo, says_so}
use Rattle.am_line_dialogue.proofs.laws.sound_dialogues_say.Goals as goal

-- nothing was done yet
opened : Where
opened = record { begun = 0; commits = 0; runs = 0; committed = empty; own = None; staged = [] }

pub returns : goal.returns
unfolding opened
returns c = λ auto exchanges torn trace sound (_, a).
    let goes = conversation_so alone_meaning auto SaysSo (says_so auto) exchanges torn (alone_start, []) a.last a.own
    a.converses opened a.aborting refl
    (subst (Runs 65535 (machine_at opened)) a.are ((c.sound_traces_are_runs.ensures 65535 trace).0 sound)) in
    subst Says (append-nil (with_torn exchanges torn)) (goes.says [] tt)
