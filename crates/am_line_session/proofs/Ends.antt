-- What an end says, by relations that follow from others.
use Rattle.std.proofs.Common.{◌≡◌, ◌⊎◌, inl, inr, ℕ, List, [], ◌∷◌, ◌++◌, Option, Some, None}
use Rattle.am_law_serial.specs.Trace.{Trace}
use Rattle.am_line_dialogue.specs.Exchanges.{Exchange}
use Rattle.am_line_session.specs.ServedSessions.{EndsBy, IsEnded}
use Rattle.am_line_session.specs.declared.end.End.{End}
use Rattle.am_line_session.specs.declared.end.End.TheVariants.{Quit, EndedItself, EndedByAnother, EndOfInput}
use Rattle.am_line_session.specs.declared.end.End.TheVariants.{ReadFailed, WriteFailed, NoMemory}

module _ (took took' gave gave' parted parted' : List ℕ → Type 0) (done done' : Type 0)
    (answers answers' : List Exchange → Option Exchange → Trace → Type 0) (untouched untouched' : Type 0)
    (takes : (bytes : List ℕ) → took bytes → took' bytes) (gives : (text : List ℕ) → gave text → gave' text)
    (parts : (text : List ℕ) → parted text → parted' text) (ends : done → done')
    (does : (exchanges : List Exchange) (torn : Option Exchange) (events : Trace) → answers exchanges torn events →
    answers' exchanges torn events) (same : untouched → untouched') where
  whole_there : (read waiting : List ℕ) → IsEnded read ⊎ ((waiting ≡ []) × done) →
      IsEnded read ⊎ ((waiting ≡ []) × done')
  whole_there read waiting (inl ended) = inl ended
  whole_there read waiting (inr all) = inr (all.0, ends all.1)

  pub ends_by : (end : End) → EndsBy took gave parted done answers untouched end →
      EndsBy took' gave' parted' done' answers' untouched' end
  ends_by Quit t = record {
    read = t.read;
    waiting = t.waiting;
    exchanges = t.exchanges;
    events = t.events;
    takes = takes _ t.takes;
    whole = whole_there t.read t.waiting t.whole;
    last = t.last;
    quit = t.quit;
    lines = t.lines;
    gives = gives _ t.gives;
    parts = parts _ t.parts;
    does = does t.exchanges None t.events t.does;
  }
  ends_by EndedItself t = record {
    read = t.read;
    waiting = t.waiting;
    exchanges = t.exchanges;
    events = t.events;
    takes = takes _ t.takes;
    whole = whole_there t.read t.waiting t.whole;
    last = t.last;
    not_quit = t.not_quit;
    itself = t.itself;
    lines = t.lines;
    gives = gives _ t.gives;
    does = does (t.exchanges ++ t.last ∷ []) None t.events t.does;
  }
  ends_by EndedByAnother t = record {
    read = t.read;
    waiting = t.waiting;
    exchanges = t.exchanges;
    events = t.events;
    takes = takes _ t.takes;
    ended = t.ended;
    lines = t.lines;
    gives = gives _ t.gives;
    does = does t.exchanges None t.events t.does;
  }
  ends_by EndOfInput t = record {
    read = t.read;
    exchanges = t.exchanges;
    events = t.events;
    takes = takes _ t.takes;
    done = ends t.done;
    lines = t.lines;
    gives = gives _ t.gives;
    does = does t.exchanges None t.events t.does;
  }
  ends_by ReadFailed t = record {
    read = t.read;
    part = t.part;
    exchanges = t.exchanges;
    events = t.events;
    takes = takes _ t.takes;
    ended = t.ended;
    begins = t.begins;
    lines = t.lines;
    gives = gives _ t.gives;
    does = does t.exchanges None t.events t.does;
  }
  ends_by WriteFailed (inl t) = inl (record {
    read = t.read;
    waiting = t.waiting;
    exchanges = t.exchanges;
    last = t.last;
    events = t.events;
    count = t.count;
    takes = takes _ t.takes;
    whole = whole_there t.read t.waiting t.whole;
    not_quit = t.not_quit;
    lines = t.lines;
    gives = gives _ t.gives;
    does = does t.exchanges (Some t.last) t.events t.does;
  })
  ends_by WriteFailed (inr t) = inr (
    t.0,
    record {
      read = t.1.read;
      waiting = t.1.waiting;
      exchanges = t.1.exchanges;
      events = t.1.events;
      takes = takes _ t.1.takes;
      whole = whole_there t.1.read t.1.waiting t.1.whole;
      last = t.1.last;
      quit = t.1.quit;
      lines = t.1.lines;
      gives = gives _ t.1.gives;
      parts = parts _ t.1.parts;
      does = does t.1.exchanges None t.1.events t.1.does;
    },
  )
  ends_by NoMemory t = record { takes = takes _ t.takes; gives = gives _ t.gives; same = same t.same }
