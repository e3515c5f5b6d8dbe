-- What comes of a backend while its session waits for a line.
use Rattle.std.specs.Prelude.{◌≡◌, Bool, true, false, None}
use Rattle.am_law_serial.specs.Trace.{Trace}
use Rattle.am_line_dialogue.specs.Backends.{BackendMeaning}
use Rattle.am_line_dialogue.specs.Conversation.{SessionPoint, Stays, Lapses}

-- its transaction lapsed, and none is active, or nothing was done
abbrev pub Waits : {B : Type 0} → BackendMeaning B → Bool → SessionPoint B → Trace → SessionPoint B → Type 0
Waits means true old events new = (means.active new.0 ≡ None) × Lapses means old events new
Waits means false old events new = Stays means old events new

-- one of the two
abbrev pub MayWait : {B : Type 0} → BackendMeaning B → SessionPoint B → SessionPoint B → Type 0
MayWait means old new = (is_late : Bool) × (events : Trace) × Waits means is_late old events new
