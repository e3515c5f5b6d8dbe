-- What a session did, by its end: which bytes it read, which text it wrote, and where it left its backend.
use Rattle.std.specs.Prelude.{◌≡◌, ℕ, List, [], ◌∷◌, ◌++◌, Bool, true, cond, not, ◌&&◌, Option, Some, None, take, ◌⊎◌}
use Rattle.am_line_source.specs.Lines.{lines_of, HasNoLf}
use Rattle.am_line_source.specs.SourceReads.{Took}
use Rattle.am_line_sink.specs.SinkWrites.{Gave}
use Rattle.am_law_serial.specs.Trace.{Trace}
use Rattle.am_line_dialogue.specs.ParsedLine.{Line, parsed, is_quit}
use Rattle.am_line_dialogue.specs.Responses.{bye, response_text, is_lapsed, ends_itself}
use Rattle.am_line_dialogue.specs.Exchanges.{Exchange, asked, texts}
use Rattle.am_line_dialogue.specs.Backends.{BackendMeaning}
use Rattle.am_line_dialogue.specs.Conversation.{AnswersAll}
use Rattle.am_line_session.specs.declared.session.Stop.{Stop}
use Rattle.am_line_session.specs.declared.session.Stop.TheVariants as stop
use Rattle.am_line_session.specs.declared.end.End.{End}
use Rattle.am_line_session.specs.declared.end.End.TheVariants.{Quit, EndedItself, EndedByAnother, EndOfInput}
use Rattle.am_line_session.specs.declared.end.End.TheVariants.{ReadFailed, WriteFailed, NoMemory}

-- What follows these bytes begins a line of its own.
abbrev pub IsEnded : List ℕ → Type 0
IsEnded bytes = (more : List ℕ) → lines_of (bytes ++ more) ≡ lines_of bytes ++ lines_of more

-- whether a line is answered by a response: QUIT isn't, unless it came too late
abbrev pub is_answered : Exchange → Bool
is_answered e = cond (is_lapsed e.1) true (not (is_quit (parsed e.0)))

-- whether a session goes on after an exchange: it ends at QUIT, and where it ended itself
abbrev pub goes_on : Exchange → Bool
goes_on e = is_answered e && not (ends_itself e.1)

abbrev pub GoOn : List Exchange → Type 0
GoOn [] = Unit {0}
GoOn (e ∷ exchanges) = (goes_on e ≡ true) × GoOn exchanges

-- the lines of these bytes were answered, but for these at the end, and at none of them the session ended
pub record AsksFor (read : List ℕ) (exchanges : List Exchange) (rest : List Line) : Type 0 where
  pub are : lines_of read ≡ asked exchanges ++ rest
  pub on : GoOn exchanges

-- By these bytes were taken, by these given, after which BYE was said, and whether nothing more comes; by exchanges,
-- the one whose answer was torn, if one was, and their events; and by where a session is left that did nothing.
module _ (took gave parted : List ℕ → Type 0) (nothing_comes : Type 0)
    (answers : List Exchange → Option Exchange → Trace → Type 0) (untouched : Type 0) where
  -- the bytes are whole lines, or all that comes
  abbrev pub AreWhole : List ℕ → List ℕ → Type 0
  AreWhole read waiting = IsEnded read ⊎ ((waiting ≡ []) × nothing_comes)

  -- QUIT was read, and this was written for it; the bytes after it were not answered
  pub record QuitThere (farewell : List ℕ) : Type 0 where
    pub read : List ℕ
    pub waiting : List ℕ
    pub exchanges : List Exchange
    pub events : Trace
    pub takes : took (read ++ waiting)
    pub whole : AreWhole read waiting
    pub last : Line
    pub quit : is_quit (parsed last) ≡ true
    pub lines : AsksFor read exchanges (last ∷ [])
    pub gives : gave (texts exchanges ++ farewell)
    pub parts : parted (texts exchanges)
    pub does : answers exchanges None events

  -- by the last line that was read the session ended itself; the bytes after it were not answered
  pub record EndedItselfThere : Type 0 where
    pub read : List ℕ
    pub waiting : List ℕ
    pub exchanges : List Exchange
    pub events : Trace
    pub takes : took (read ++ waiting)
    pub whole : AreWhole read waiting
    pub last : Exchange
    pub not_quit : is_answered last ≡ true
    pub itself : ends_itself last.1 ≡ true
    pub lines : AsksFor read exchanges (last.0 ∷ [])
    pub gives : gave (texts (exchanges ++ last ∷ []))
    pub does : answers (exchanges ++ last ∷ []) None events

  -- another session ended it: the lines before were answered, and what else was taken did nothing
  pub record EndedByAnotherThere : Type 0 where
    pub read : List ℕ
    pub waiting : List ℕ
    pub exchanges : List Exchange
    pub events : Trace
    pub takes : took (read ++ waiting)
    pub ended : IsEnded read
    pub lines : AsksFor read exchanges []
    pub gives : gave (texts exchanges)
    pub does : answers exchanges None events

  -- every line was answered, and nothing more comes
  pub record EndedThere : Type 0 where
    pub read : List ℕ
    pub exchanges : List Exchange
    pub events : Trace
    pub takes : took read
    pub done : nothing_comes
    pub lines : AsksFor read exchanges []
    pub gives : gave (texts exchanges)
    pub does : answers exchanges None events

  -- every line that was ended was answered; what else was taken begins one line
  pub record ReadFailedThere : Type 0 where
    pub read : List ℕ
    pub part : List ℕ
    pub exchanges : List Exchange
    pub events : Trace
    pub takes : took (read ++ part)
    pub ended : IsEnded read
    pub begins : HasNoLf part
    pub lines : AsksFor read exchanges []
    pub gives : gave (texts exchanges)
    pub does : answers exchanges None events

  -- the answer to the last line that was read was torn, or couldn't be sent on; all others were given whole
  pub record AnswerTorn : Type 0 where
    pub read : List ℕ
    pub waiting : List ℕ
    pub exchanges : List Exchange
    pub last : Exchange
    pub events : Trace
    pub count : ℕ
    pub takes : took (read ++ waiting)
    pub whole : AreWhole read waiting
    pub not_quit : is_answered last ≡ true
    pub lines : AsksFor read exchanges (last.0 ∷ [])
    pub gives : gave (texts exchanges ++ take count (response_text last.1))
    pub does : answers exchanges (Some last) events

  pub record NothingDone : Type 0 where
    pub takes : took []
    pub gives : gave []
    pub same : untouched

  -- QUIT is answered by BYE, or that answer was torn
  abbrev pub EndsBy : End → Type 0
  EndsBy Quit = QuitThere bye
  EndsBy EndedItself = EndedItselfThere
  EndsBy EndedByAnother = EndedByAnotherThere
  EndsBy EndOfInput = EndedThere
  EndsBy ReadFailed = ReadFailedThere
  EndsBy WriteFailed = AnswerTorn ⊎ ((count : ℕ) × QuitThere (take count bye))
  EndsBy NoMemory = NothingDone

  -- and before that: nothing is written for QUIT yet
  abbrev pub StopsBy : Stop → Type 0
  StopsBy stop.Quit = QuitThere []
  StopsBy stop.EndedItself = EndedItselfThere
  StopsBy stop.EndedByAnother = EndedByAnotherThere
  StopsBy stop.EndOfInput = EndedThere
  StopsBy stop.ReadFailed = ReadFailedThere
  StopsBy stop.WriteFailed = AnswerTorn

-- the text was given, and then BYE said, or a beginning of it, with the backend as it is at the end
abbrev pub PartsBehind : {K B : Type 0} → (K → Option (List ℕ)) → (B → K → K → Type 0) → K → K → B → List ℕ → Type 0
PartsBehind {K} holds parts k k' b' text = (answered : K) × Gave holds k text answered × parts b' answered k'

-- the same over any source, sink and backend
abbrev pub Served : {S K B : Type 0} → (S → List ℕ → Type 0) → (K → Option (List ℕ)) → (B → K → K → Type 0) →
    BackendMeaning B → ℕ → S → K → B → S → K → B → End → Type 0
Served comes holds parts means auto s k b s' k' b' end =
    EndsBy (λ bytes. Took comes s bytes s') (λ text. Gave holds k text k') (PartsBehind holds parts k k' b')
    (comes s' [])
    (λ exchanges torn events. AnswersAll means auto b exchanges torn events b') (b' ≡ b) end

-- how often the source and the sink failed
abbrev pub read_failures : End → ℕ
read_failures ReadFailed = 1
read_failures _ = 0

abbrev pub write_failures : End → ℕ
write_failures WriteFailed = 1
write_failures _ = 0

-- all that was written was sent on, unless the sink failed, or another session ended this one
abbrev pub IsSentOn : End → Type 0 → Type 0
IsSentOn WriteFailed sent = Unit {0}
IsSentOn EndedByAnother sent = Unit {0}
IsSentOn end sent = sent
