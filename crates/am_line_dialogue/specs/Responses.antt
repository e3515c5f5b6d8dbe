-- The texts that a session writes.
use Rattle.std.specs.Prelude.{ℕ, List, [], ◌∷◌, ◌++◌, length, Bool, true, false, cond, codes, decimal, Result, Ok, Err}
use Rattle.std.specs.Option.{unwrap_or}
use Rattle.am_line_wire.specs.Replies.{text_of}
use Rattle.am_line_text.specs.declared.fault.LineFault.{LineFault}
use Rattle.am_line_text.specs.declared.fault.LineFault.TheVariants.{Syntax, Range, NoMemory}
use Rattle.am_line_dialogue.specs.declared.response.Response.{Response}
use Rattle.am_line_dialogue.specs.declared.response.Response.TheVariants.{TooLong, Faulty, NoTransaction, Active}
use Rattle.am_line_dialogue.specs.declared.response.Response.TheVariants.{Staged}
use Rattle.am_line_dialogue.specs.declared.response.Response.TheVariants.{TooManyStaged, StillStaged, Replied, Seen}
use Rattle.am_line_dialogue.specs.declared.response.Response.TheVariants.{Hold, Who, End, Lapsed}
use Rattle.am_line_dialogue.specs.declared.response.HoldAnswer.{HoldAnswer}
use Rattle.am_line_dialogue.specs.declared.response.HoldAnswer.TheVariants.{Granted, OutOfBounds, HeldBy}
use Rattle.am_line_dialogue.specs.declared.response.EndAnswer.{EndAnswer}
use Rattle.am_line_dialogue.specs.declared.response.EndAnswer.TheVariants.{Ends, EndsItself, NoSession}
use Rattle.am_line_dialogue.specs.declared.told_sessions.Standing.{Standing}
use Rattle.am_line_dialogue.specs.declared.told_sessions.Standing.TheVariants.{Free, Holds, Waits}
use Rattle.am_line_dialogue.specs.declared.told_sessions.ToldSession.{ToldSession}

-- the text as a line
abbrev pub line : List ℕ → List ℕ
line text = text ++ 10 ∷ []

abbrev pub fault_text : LineFault → List ℕ
fault_text Syntax = line (codes "ERR SYNTAX")
fault_text Range = line (codes "ERR RANGE")
fault_text NoMemory = line (codes "ERR MEMORY")

-- the number of the session, and the commits that it sees
abbrev pub seen_text : ℕ → ℕ → List ℕ
seen_text session commits = line (((codes "SEEN " ++ decimal session) ++ codes " ") ++ decimal commits)

-- whether the session holds, and else why not
abbrev pub hold_text : HoldAnswer → List ℕ
hold_text Granted = line (codes "OK")
hold_text OutOfBounds = line (codes "ERR LIMIT")
hold_text (HeldBy session) = line (codes "ERR HELD " ++ decimal session)

-- what follows the seconds of a session: whether it holds, or waits
abbrev pub standing_mark : Standing → List ℕ
standing_mark Free = []
standing_mark Holds = codes ":h"
standing_mark Waits = codes ":w"

-- a session, with a space before it, as s:t:q, s:t:q:h or s:t:q:w; t is 0 where it has no transaction
abbrev pub told_words : ToldSession → List ℕ
told_words told = (((((codes " " ++ decimal told.session) ++ codes ":") ++ decimal (unwrap_or told.tx 0)) ++ codes ":")
    ++ decimal told.seconds) ++ standing_mark told.standing

abbrev pub sessions_words : List ToldSession → List ℕ
sessions_words [] = []
sessions_words (told ∷ sessions) = told_words told ++ sessions_words sessions

-- how many there are, and each of them
abbrev pub who_text : List ToldSession → List ℕ
who_text sessions = line ((codes "WHO " ++ decimal (length sessions)) ++ sessions_words sessions)

-- what WHO is answered, for which memory may be refused
abbrev pub who_response : {E : Type 0} → Result (List ToldSession) E → Response
who_response (Ok sessions) = Who sessions
who_response (Err refused) = Faulty NoMemory

-- whether a session ends
abbrev pub end_text : EndAnswer → List ℕ
end_text Ends = line (codes "OK")
end_text EndsItself = line (codes "OK")
end_text NoSession = line (codes "ERR SESSION")

-- whether the session that is answered so ended itself
abbrev pub ends_itself : Response → Bool
ends_itself (End EndsItself) = true
ends_itself response = false

abbrev pub response_text : Response → List ℕ
response_text TooLong = line (codes "ERR LONG")
response_text (Faulty fault) = fault_text fault
response_text NoTransaction = line (codes "ERR NOTX")
response_text Active = line (codes "ERR ACTIVE")
response_text Staged = line (codes "OK")
response_text TooManyStaged = line (codes "ERR LIMIT")
response_text StillStaged = line (codes "ERR STAGED")
response_text (Replied reply) = text_of reply
response_text (Seen session commits) = seen_text session commits
response_text (Hold answer) = hold_text answer
response_text (Who sessions) = who_text sessions
response_text (End answer) = end_text answer
response_text Lapsed = line (codes "ERR IDLE")

-- whether a line was answered that it came too late
abbrev pub is_lapsed : Response → Bool
is_lapsed Lapsed = true
is_lapsed response = false

-- the answer to QUIT
abbrev pub bye : List ℕ
bye = line (codes "BYE")

-- what is written at the end, by whether there was a QUIT
abbrev pub farewell : Bool → List ℕ
farewell quit = cond quit bye []
