-- From where a line is awaited, with what was active aborted, to the end.
use Rattle.std.proofs.Common.{◌≡◌, inl, inr, ℕ, List, [], ◌∷◌, ◌++◌, take, Option, Some, None, subst, append-nil, true}
use Rattle.std.proofs.Common.{false}
use Rattle.std.proofs.Common.{sym, ap, ◌∙◌}
use Rattle.am_record.specs.declared.step.Step.TheVariants.{Abort}
use Rattle.am_record.specs.declared.step.Reply.TheVariants.{Aborted}
use Rattle.am_law_serial.specs.Trace.{Trace}
use Rattle.am_line_sink.specs.SinkWrites.{Gave}
use Rattle.am_line_sink.proofs.Writes.{gave_then}
use Rattle.am_line_dialogue.specs.Responses.{bye}
use Rattle.am_line_dialogue.specs.Exchanges.{Exchange, texts}
use Rattle.am_line_dialogue.specs.Backends.{BackendMeaning}
use Rattle.am_line_dialogue.specs.Conversation.{SessionPoint, Converses, Leaves, AnswersAll}
use Rattle.am_line_session.specs.Stops.{Rests, Talked}
use Rattle.am_line_session.specs.declared.session.Stop.TheVariants as stop
use Rattle.am_line_session.specs.ServedSessions.{Served}
use Rattle.am_line_session.specs.declared.end.End.TheVariants.{Quit, EndedItself, EndedByAnother, EndOfInput}
use Rattle.am_line_session.specs.declared.end.End.TheVariants.{ReadFailed, WriteFailed}

module _ {S K B : Type 0} (comes : S → List ℕ → Type 0) (holds : K → Option (List ℕ)) (parts : B → K → K → Type 0)
    (means : BackendMeaning B) (auto : ℕ) (s s' : S) (k k' : K) (b : B) (at : SessionPoint B) (b' : B)
    (active : Option ℕ) (known : active ≡ means.active at.0)
    (left : (events : Trace) × Leaves means active at.0 events b') where
  -- what lapsed while the session waited is what was aborted at its end
  answered : (exchanges : List Exchange) (torn : Option Exchange) (events : Trace) →
      Rests means auto (b, []) exchanges torn events at → AnswersAll means auto b exchanges torn (events ++ left.0) b'
  answered exchanges torn events (last, own, idle, false, c, (none, same), are) = record {
    last = at;
    own = own;
    aborting = left.0;
    converses = subst (λ (x : SessionPoint B). Converses means auto (b, []) exchanges torn own x) (sym same) c;
    leaves = subst (λ (tx : Option ℕ). Leaves means tx at.0 left.0 b') known left.1;
    are = ap (λ (es : Trace). es ++ left.0)
        (are ∙ ap (λ (es : Trace). own ++ es) none ∙ append-nil own);
  }
  answered exchanges torn events (last, own, idle, true, c, (gone, (lapses, (tx, its, (steps, is, staged)))), are) =
      let none : Leaves means None at.0 left.0 b' =
      subst (λ (a : Option ℕ). Leaves means a at.0 left.0 b') (known ∙ gone) left.1 in
      record {
        last = last;
        own = own;
        aborting = idle;
        converses = c;
        leaves = subst (λ (a : Option ℕ). Leaves means a last.0 idle b') (sym its)
            (subst (λ (x : B). means.steps last.0 (Abort tx) Aborted x) (sym none.1) steps, is);
        are = ap (λ (es : Trace). events ++ es) none.0 ∙ append-nil events ∙ are;
      }

  pub ended_whole : Talked comes holds means auto s k (b, []) s' k' at stop.EndOfInput →
      Served comes holds parts means auto s k b s' k' b' EndOfInput
  ended_whole t = record {
    exchanges = t.exchanges;
    events = t.events ++ left.0;
    read = t.read;
    takes = t.takes;
    done = t.done;
    lines = t.lines;
    gives = t.gives;
    does = answered t.exchanges None t.events t.does;
  }

  pub ended_itself : Talked comes holds means auto s k (b, []) s' k' at stop.EndedItself →
      Served comes holds parts means auto s k b s' k' b' EndedItself
  ended_itself t = record {
    exchanges = t.exchanges;
    last = t.last;
    events = t.events ++ left.0;
    read = t.read;
    waiting = t.waiting;
    takes = t.takes;
    whole = t.whole;
    not_quit = t.not_quit;
    itself = t.itself;
    lines = t.lines;
    gives = t.gives;
    does = answered (t.exchanges ++ t.last ∷ []) None t.events t.does;
  }

  pub ended_by_another : Talked comes holds means auto s k (b, []) s' k' at stop.EndedByAnother →
      Served comes holds parts means auto s k b s' k' b' EndedByAnother
  ended_by_another t = record {
    exchanges = t.exchanges;
    events = t.events ++ left.0;
    read = t.read;
    waiting = t.waiting;
    takes = t.takes;
    ended = t.ended;
    lines = t.lines;
    gives = t.gives;
    does = answered t.exchanges None t.events t.does;
  }

  pub ended_failed : Talked comes holds means auto s k (b, []) s' k' at stop.ReadFailed →
      Served comes holds parts means auto s k b s' k' b' ReadFailed
  ended_failed t = record {
    exchanges = t.exchanges;
    events = t.events ++ left.0;
    read = t.read;
    part = t.part;
    takes = t.takes;
    ended = t.ended;
    begins = t.begins;
    lines = t.lines;
    gives = t.gives;
    does = answered t.exchanges None t.events t.does;
  }

  pub ended_torn : Talked comes holds means auto s k (b, []) s' k' at stop.WriteFailed →
      Served comes holds parts means auto s k b s' k' b' WriteFailed
  ended_torn t = inl (record {
    exchanges = t.exchanges;
    last = t.last;
    events = t.events ++ left.0;
    read = t.read;
    waiting = t.waiting;
    count = t.count;
    takes = t.takes;
    whole = t.whole;
    not_quit = t.not_quit;
    lines = t.lines;
    gives = t.gives;
    does = answered t.exchanges (Some t.last) t.events t.does;
  })

  -- nothing was written for QUIT yet
  whole_texts : (exchanges : List Exchange) → Gave holds k (texts exchanges ++ []) k' →
      Gave holds k (texts exchanges) k'
  whole_texts exchanges g = subst (λ text. Gave holds k text k') (append-nil (texts exchanges)) g

  pub ended_quit : (k'' : K) → Talked comes holds means auto s k (b, []) s' k' at stop.Quit → Gave holds k' bye k'' →
      parts b' k' k'' → Served comes holds parts means auto s k b s' k'' b' Quit
  ended_quit k'' t a parted = record {
    exchanges = t.exchanges;
    events = t.events ++ left.0;
    read = t.read;
    waiting = t.waiting;
    takes = t.takes;
    whole = t.whole;
    last = t.last;
    quit = t.quit;
    lines = t.lines;
    gives = gave_then holds k k' k'' (texts t.exchanges) bye (whole_texts t.exchanges t.gives) a;
    parts = (k', whole_texts t.exchanges t.gives, parted);
    does = answered t.exchanges None t.events t.does;
  }

  pub ended_bye_torn : (k'' : K) → Talked comes holds means auto s k (b, []) s' k' at stop.Quit →
      ((n : ℕ) × Gave holds k' (take n bye) k'') → parts b' k' k'' → Served comes holds parts means auto s k b s' k'' b'
      WriteFailed
  ended_bye_torn k'' t a parted = inr (
    a.0,
    record {
      exchanges = t.exchanges;
      events = t.events ++ left.0;
      read = t.read;
      waiting = t.waiting;
      takes = t.takes;
      whole = t.whole;
      last = t.last;
      quit = t.quit;
      lines = t.lines;
      gives = gave_then holds k k' k'' (texts t.exchanges) (take a.0 bye) (whole_texts t.exchanges t.gives) a.1;
      parts = (k', whole_texts t.exchanges t.gives, parted);
      does = answered t.exchanges None t.events t.does;
    },
  )
