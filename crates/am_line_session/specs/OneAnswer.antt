-- One line answered, or its answer torn.
use Rattle.std.specs.Prelude.{◌≡◌, ℕ, Bool, not, List, Option, take}
use Rattle.am_law_serial.specs.Trace.{Trace}
use Rattle.am_line_sink.specs.SinkWrites.{Gave}
use Rattle.am_line_dialogue.specs.Responses.{response_text, ends_itself}
use Rattle.am_line_dialogue.specs.Backends.{BackendMeaning}
use Rattle.am_line_dialogue.specs.Conversation.{SessionPoint, Stays, AnswersParsed}
use Rattle.am_line_dialogue.specs.declared.response.Response.{Response}
use Rattle.am_line_dialogue.specs.declared.response.Response.TheVariants.{Lapsed}
use Rattle.am_line_session.specs.declared.heard.Heard.{Heard}
use Rattle.am_line_session.specs.declared.heard.Heard.TheVariants.{Line, Late}

-- what was heard was answered; what came too late did nothing
abbrev pub RespondsTo : {B : Type 0} → BackendMeaning B → SessionPoint B → Heard → Response → Trace → SessionPoint B →
    Type 0
RespondsTo means old (Line parsed) response events new = AnswersParsed means old parsed response events new
RespondsTo means old Late response events new = (response ≡ Lapsed) × Stays means old events new

-- and the answer written; the session goes on, unless it ended itself
abbrev pub GivesAnswer : {K B : Type 0} → (K → Option (List ℕ)) → BackendMeaning B → K → SessionPoint B →
    Heard → Bool → K → SessionPoint B → Type 0
GivesAnswer holds means k b heard goes_on k' b' = (response : Response) × (events : Trace) ×
    Gave holds k (response_text response) k' × RespondsTo means b heard response events b' ×
    (goes_on ≡ not (ends_itself response))

-- and a beginning of the answer written
abbrev pub GivesTorn : {K B : Type 0} → (K → Option (List ℕ)) → BackendMeaning B → K → SessionPoint B → Heard → K →
    SessionPoint B → Type 0
GivesTorn holds means k b heard k' b' = (response : Response) × (events : Trace) × (n : ℕ) ×
    Gave holds k (take n (response_text response)) k' × RespondsTo means b heard response events b'
