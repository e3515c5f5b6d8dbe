-- What is stored of a step.
use Rattle.am_record.specs.declared.step.Step.{Step}
use Rattle.am_record.specs.declared.step.Reply.{Reply}

-- a step with its reply
abbrev pub Event : Type 0
Event = Step × Reply
