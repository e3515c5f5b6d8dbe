use Rattle.am_trace_text.proofs.AlikeLines.{words_alike, lines_alike, events_more, events_of_two}
use Rattle.am_trace_text.proofs.laws.lines_are_alike.Goals as goal

pub returns-clause-words : goal.returns-clause-words
returns-clause-words c = words_alike

pub returns-clause-lines : goal.returns-clause-lines
returns-clause-lines c = lines_alike

pub returns-clause-events : goal.returns-clause-events
returns-clause-events c = events_more

pub returns-clause-of_two : goal.returns-clause-of_two
returns-clause-of_two c = events_of_two
