-- Why the words of a command line ask for nothing that a program does.
use Rattle.std.specs.Prelude.{◌≡◌, ◌≢◌, ℕ, List, [], ◌++◌, Bool, codes, true, false}
use Rattle.std.specs.Str.{trim_end}
use Rattle.std.specs.String.{string_bytes}
use Rattle.clap.specs.Words.{App, Text, fault_of}
use Rattle.clap.specs.Kinds.{IsAmong}
use Rattle.clap.specs.declared.error.kind.ErrorKind.{ErrorKind}
use Rattle.clap.specs.declared.error.kind.ErrorKind.TheVariants.{DisplayHelp, DisplayVersion, OutOfMemory}
use Rattle.am_program_start.specs.declared.fault.OptionsFault.{OptionsFault}
use Rattle.am_program_start.specs.declared.fault.OptionsFault.TheVariants.{Asked, Wrong, Unserved, NotText}
use Rattle.am_program_start.specs.declared.fault.OptionsFault.TheVariants.{NoStack, NoMemory}

-- the program's status
abbrev pub status_of : OptionsFault → ℕ
status_of (Asked text) = 0
status_of (Wrong text) = 2
status_of (Unserved why) = 2
status_of NotText = 2
status_of NoStack = 5
status_of NoMemory = 5

-- what the program of that name says of it
abbrev pub message_of : Text → OptionsFault → Text
message_of program (Asked text) = trim_end (string_bytes text)
message_of program (Wrong text) = trim_end (string_bytes text)
message_of program (Unserved why) = program ++ codes ": " ++ why.now
message_of program NotText = program ++ codes ": a word is not UTF-8"
message_of program NoStack = program ++ codes ": the stack is limited to less than 512 KB (ulimit -s)"
message_of program NoMemory = program ++ codes ": no memory"

-- whether help or the version was asked for
abbrev pub is_request : ErrorKind → Bool
is_request DisplayHelp = true
is_request DisplayVersion = true
is_request _ = false

-- what is said where clap ends with this kind of error
abbrev pub IsFaultOf : ErrorKind → OptionsFault → Type 0
IsFaultOf kind (Asked text) = is_request kind ≡ true
IsFaultOf kind (Wrong text) = (is_request kind ≡ false) × (kind ≢ OutOfMemory)
IsFaultOf kind NoMemory = Unit {0}
IsFaultOf kind _ = ⊥

-- why words name nothing, by the program's rules for words and by what they may name: help or the version was asked
-- for, clap finds another fault, it finds none and they name nothing, or memory was refused
abbrev pub Refuses : {Named : Type 0} → App → (List Text → Named → Type 0) → List Text → OptionsFault → Type 0
Refuses app names words (Asked text) =
    (kind : ErrorKind) × IsAmong kind (fault_of app words) × (is_request kind ≡ true)
Refuses app names words (Wrong text) =
    (kind : ErrorKind) × IsAmong kind (fault_of app words) × (is_request kind ≡ false)
Refuses {Named} app names words (Unserved why) =
    (fault_of app words ≡ []) × ((named : Named) → names words named → ⊥)
Refuses app names words NotText = ⊥
Refuses app names words NoStack = ⊥
Refuses app names words NoMemory = Unit {0}
