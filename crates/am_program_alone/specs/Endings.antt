-- How the program ends, by how its session did.
use Rattle.std.specs.Prelude.{ℕ, List, [], codes}
use Rattle.am_line_session.specs.declared.end.End.{End}
use Rattle.am_line_session.specs.declared.end.End.TheVariants.{Quit, EndedItself, EndedByAnother, EndOfInput}
use Rattle.am_line_session.specs.declared.end.End.TheVariants.{ReadFailed, WriteFailed, NoMemory}

abbrev pub ending_status : End → ℕ
ending_status Quit = 0
ending_status EndedItself = 0
ending_status EndedByAnother = 0
ending_status EndOfInput = 0
ending_status ReadFailed = 6
ending_status WriteFailed = 6
ending_status NoMemory = 5

-- what is said on standard error
abbrev pub ending_words : End → List ℕ
ending_words Quit = []
ending_words EndedItself = []
ending_words EndedByAnother = []
ending_words EndOfInput = []
ending_words ReadFailed = codes "amserve: read failed"
ending_words WriteFailed = codes "amserve: write failed"
ending_words NoMemory = codes "amserve: no memory"
