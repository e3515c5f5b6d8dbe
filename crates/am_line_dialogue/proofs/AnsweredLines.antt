-- Each answer of a dialogue is one line: what the store tells was read from lines.
use Rattle.std.proofs.Common.{◌≡◌, inl, inr, cond, ℕ, List, [], ◌∷◌, ◌++◌, Bool, true, false, Option, Some, None}
use Rattle.std.proofs.Common.{Result, Ok, Err, refl, sym, ap, subst, append_assoc}
use Rattle.std.specs.Prelude.{codes, decimal, length}
use Rattle.std.specs.List.{AllByRecursion}
use Rattle.std.specs.Option.{unwrap_or}
use Rattle.am_record.specs.Records.{Records}
use Rattle.am_record.specs.declared.step.Op.{Op}
use Rattle.am_record.specs.declared.step.Op.TheVariants as op
use Rattle.am_record.specs.declared.step.Step.{Step}
use Rattle.am_record.specs.declared.step.Step.TheVariants as step
use Rattle.am_record.specs.declared.step.Reply.{Reply}
use Rattle.am_record.specs.declared.step.Reply.TheVariants as reply
use Rattle.am_law_serial.specs.Trace.{Trace}
use Rattle.am_law_effect.specs.Store.{Store, IsRunOf, after_step}
use Rattle.am_line_wire.specs.Replies.{IsVisibleRow, TellsVisible, IsOneLine, words_of}
use Rattle.am_line_wire.specs.Visible.{WritesVisible, AsksVisible}
use Rattle.am_line_wire.specs.Grammar.{Reads}
use Rattle.am_line_wire.specs.declared.request.Request.{Request}
use Rattle.am_line_wire.specs.declared.request.Request.TheVariants as request
use Rattle.am_line_text.specs.declared.fault.LineFault.{LineFault}
use Rattle.am_line_text.specs.declared.fault.LineFault.TheVariants as fault
use Rattle.am_line_wire.proofs.GrammarReadings.{reads_what_may_be}
use Rattle.am_line_wire.proofs.VisibleRequests.{asks_visible}
use Rattle.am_line_wire.proofs.Texts.{HasNoLf-append, HasNoLf-decimal, HasNoLf-free, HasNoLf-words_of, is_free}
use Rattle.am_line_dialogue.specs.ParsedLine.{Line, MayParse, parsed_of}
use Rattle.am_line_dialogue.specs.Session.{SessionState, staged_after}
use Rattle.am_line_dialogue.specs.Actions.{may_wait, with_staged, staged_left, commit_action, request_action}
use Rattle.am_line_dialogue.specs.Actions.{action_for}
use Rattle.am_line_dialogue.specs.Actions.{no_room, staged_asked, session_behind_line, IsActionFor, is_hold_time}
use Rattle.am_line_source.specs.Lines.{HasNoLf}
use Rattle.am_line_dialogue.specs.Responses.{response_text, line, standing_mark, told_words, sessions_words}
use Rattle.am_line_dialogue.specs.Responses.{who_response}
use Rattle.am_line_dialogue.specs.declared.told_sessions.Standing.{Standing}
use Rattle.am_line_dialogue.specs.declared.told_sessions.Standing.TheVariants.{Free, Holds, Waits}
use Rattle.am_line_dialogue.specs.declared.told_sessions.ToldSession.{ToldSession}
use Rattle.am_line_dialogue.specs.Exchanges.{Exchange}
use Rattle.am_line_dialogue.specs.Backends.{BackendMeaning}
use Rattle.am_line_dialogue.specs.Conversation.{SessionPoint, session_at, TakesStep, AnswersAction, AnswersLine}
use Rattle.am_line_dialogue.specs.declared.lines.ParsedLine.{ParsedLine}
use Rattle.am_line_dialogue.specs.declared.lines.ParsedLine.TheVariants as said
use Rattle.am_line_dialogue.specs.declared.action.Action.{Action}
use Rattle.am_line_dialogue.specs.declared.action.Action.TheVariants.{Answer, Take, TellSeen, AskHold, TellWho, AskEnd}
use Rattle.am_line_dialogue.specs.declared.response.Response.{Response}
use Rattle.am_line_dialogue.specs.declared.response.Response.TheVariants.{TooLong, Faulty, NoTransaction, Active}
use Rattle.am_line_dialogue.specs.declared.response.Response.TheVariants.{Staged}
use Rattle.am_line_dialogue.specs.declared.response.Response.TheVariants.{TooManyStaged, StillStaged, Replied, Seen}
use Rattle.am_line_dialogue.specs.declared.response.Response.TheVariants.{Hold, Who, End, Lapsed}
use Rattle.am_line_dialogue.specs.declared.response.HoldAnswer.{HoldAnswer}
use Rattle.am_line_dialogue.specs.declared.response.HoldAnswer.TheVariants.{Granted, OutOfBounds, HeldBy}
use Rattle.am_line_dialogue.specs.declared.response.EndAnswer.{EndAnswer}
use Rattle.am_line_dialogue.specs.declared.response.EndAnswer.TheVariants.{Ends, EndsItself, NoSession}
use Rattle.am_line_dialogue.proofs.Conversations.{Between, HoldsOfLines}
use Rattle.am_line_dialogue.proofs.VisibleMaps.{all_append}
use Rattle.am_line_dialogue.proofs.VisibleStores.{IsVisibleStore, IsVisibleStep, after_visible, tells_visible}

-- ---- texts

abbrev IsLine : Response → Type 0
IsLine response = IsOneLine (response_text response)

-- a text that is written out
fixed : (text : List ℕ) → is_free text ≡ true → IsOneLine (line text)
fixed text free = (text, HasNoLf-free text free, refl)

fault_line : (f : LineFault) → IsLine (Faulty f)
unfolding is_free
fault_line fault.Syntax = fixed (codes "ERR SYNTAX") refl
fault_line fault.Range = fixed (codes "ERR RANGE") refl
fault_line fault.NoMemory = fixed (codes "ERR MEMORY") refl

long_line : IsLine TooLong
unfolding is_free
long_line = fixed (codes "ERR LONG") refl

none_line : IsLine NoTransaction
unfolding is_free
none_line = fixed (codes "ERR NOTX") refl

active_line : IsLine Active
unfolding is_free
active_line = fixed (codes "ERR ACTIVE") refl

lapsed_line : IsLine Lapsed
unfolding is_free
lapsed_line = fixed (codes "ERR IDLE") refl

seen_line : (session commits : ℕ) → IsLine (Seen session commits)
unfolding is_free
seen_line session commits = (
  ((codes "SEEN " ++ decimal session) ++ codes " ") ++ decimal commits,
  HasNoLf-append ((codes "SEEN " ++ decimal session) ++ codes " ") (decimal commits)
      (HasNoLf-append (codes "SEEN " ++ decimal session) (codes " ")
      (HasNoLf-append (codes "SEEN ") (decimal session) (HasNoLf-free (codes "SEEN ") refl)
      (HasNoLf-decimal session)) (HasNoLf-free (codes " ") refl))
      (HasNoLf-decimal commits),
  refl,
)

hold_line : (answer : HoldAnswer) → IsLine (Hold answer)
unfolding is_free
hold_line Granted = fixed (codes "OK") refl
hold_line OutOfBounds = fixed (codes "ERR LIMIT") refl
hold_line (HeldBy session) = (
  codes "ERR HELD " ++ decimal session,
  HasNoLf-append (codes "ERR HELD ") (decimal session) (HasNoLf-free (codes "ERR HELD ") refl)
      (HasNoLf-decimal session),
  refl,
)

-- a word and a number more
then_free : (xs word : List ℕ) (n : ℕ) → HasNoLf xs → is_free word ≡ true → HasNoLf ((xs ++ word) ++ decimal n)
then_free xs word n h free = HasNoLf-append (xs ++ word) (decimal n)
    (HasNoLf-append xs word h (HasNoLf-free word free)) (HasNoLf-decimal n)

mark_free : (standing : Standing) → HasNoLf (standing_mark standing)
unfolding is_free
mark_free Free = tt
mark_free Holds = HasNoLf-free (codes ":h") refl
mark_free Waits = HasNoLf-free (codes ":w") refl

module _ (told : ToldSession) where
  abbrev told_tx : ℕ
  told_tx = unwrap_or told.tx 0

  abbrev numbers : List ℕ
  numbers = ((((codes " " ++ decimal told.session) ++ codes ":") ++ decimal told_tx) ++ codes ":") ++
      decimal told.seconds

  told_free : HasNoLf (told_words told)
  unfolding is_free
  told_free = HasNoLf-append numbers (standing_mark told.standing)
      (then_free (((codes " " ++ decimal told.session) ++ codes ":") ++ decimal told_tx) (codes ":") told.seconds
      (then_free (codes " " ++ decimal told.session) (codes ":") told_tx
      (then_free [] (codes " ") told.session tt refl) refl) refl)
      (mark_free told.standing)

all_free : (sessions : List ToldSession) → HasNoLf (sessions_words sessions)
all_free [] = tt
all_free (told ∷ sessions) = HasNoLf-append (told_words told) (sessions_words sessions) (told_free told)
    (all_free sessions)

who_line : (sessions : List ToldSession) → IsLine (Who sessions)
unfolding is_free
who_line sessions = (
  (codes "WHO " ++ decimal (length sessions)) ++ sessions_words sessions,
  HasNoLf-append (codes "WHO " ++ decimal (length sessions)) (sessions_words sessions)
      (then_free [] (codes "WHO ") (length sessions) tt refl) (all_free sessions),
  refl,
)

who_answered : {E : Type 0} (told : Result (List ToldSession) E) → IsLine (who_response told)
who_answered (Ok sessions) = who_line sessions
who_answered (Err refused) = fault_line fault.NoMemory

end_line : (answer : EndAnswer) → IsLine (End answer)
unfolding is_free
end_line Ends = fixed (codes "OK") refl
end_line EndsItself = fixed (codes "OK") refl
end_line NoSession = fixed (codes "ERR SESSION") refl

reply_line : (r : Reply) → TellsVisible r → IsLine (Replied r)
reply_line r h = (words_of r, HasNoLf-words_of r h, refl)

-- ---- what waits

abbrev AreVisible : Records → Type 0
AreVisible records = AllByRecursion IsVisibleRow records

with_visible : (staged : Records) (o : Op) → AreVisible staged → WritesVisible o → WritesVisible (with_staged staged o)
with_visible staged (op.Load records) v w = all_append IsVisibleRow staged records v w
with_visible staged (op.Put records) v w = all_append IsVisibleRow staged records v w
with_visible staged o v w = w

left_visible : (staged : Records) (o : Op) → AreVisible staged → AreVisible (staged_left staged o)
left_visible staged (op.Load records) v = tt
left_visible staged (op.Put records) v = tt
left_visible staged o v = v

either_visible : (b : Bool) (xs ys : Records) → AreVisible xs → AreVisible ys → AreVisible (cond b xs ys)
either_visible true xs ys v w = v
either_visible false xs ys v w = w

asked_visible : (active : Option ℕ) (staged : Records) (asked : Request) → AreVisible staged → AsksVisible asked →
    AreVisible (staged_asked active staged asked)
asked_visible (Some tx) staged (request.Do o) v h = left_visible staged o v
asked_visible (Some tx) staged (request.Stage records) v h = either_visible (may_wait staged records)
    (staged ++ records) staged (all_append IsVisibleRow staged records v h) v
asked_visible None staged (request.Do o) v h = v
asked_visible None staged asked v h = v
asked_visible (Some tx) staged asked v h = v

after_reply : (staged : Records) (r : Reply) → AreVisible staged → AreVisible (staged_after staged r)
after_reply staged (reply.Committed n) v = tt
after_reply staged reply.Aborted v = tt
after_reply staged _ v = v

-- ---- what is due

abbrev IsVisibleDue : Action → Type 0
IsVisibleDue (Answer response) = IsLine response
IsVisibleDue (Take what) = IsVisibleStep what
IsVisibleDue TellSeen = Unit {0}
IsVisibleDue (AskHold millis) = Unit {0}
IsVisibleDue (TellWho which) = Unit {0}
IsVisibleDue (AskEnd session) = Unit {0}

hold_visible : (millis : ℕ) (b : Bool) → IsVisibleDue (cond b (AskHold millis) (Answer (Hold OutOfBounds)))
hold_visible millis true = tt
hold_visible millis false = hold_line OutOfBounds

stage_line : (b : Bool) → IsLine (cond b Staged TooManyStaged)
unfolding is_free
stage_line true = fixed (codes "OK") refl
stage_line false = fixed (codes "ERR LIMIT") refl

still_line : IsLine StillStaged
unfolding is_free
still_line = fixed (codes "ERR STAGED") refl

commit_visible : (tx : ℕ) (staged : Records) → IsVisibleDue (commit_action tx staged)
commit_visible tx [] = tt
commit_visible tx (r ∷ rs) = still_line

request_visible : (active : Option ℕ) (staged : Records) (asked : Request) → AreVisible staged → AsksVisible asked →
    IsVisibleDue (request_action active staged asked)
request_visible None staged request.Begin v h = tt
request_visible (Some tx) staged request.Begin v h = active_line
request_visible (Some tx) staged (request.Do o) v h = with_visible staged o v h
request_visible (Some tx) staged (request.Stage records) v h = stage_line (may_wait staged records)
request_visible (Some tx) staged request.Commit v h = commit_visible tx staged
request_visible None staged (request.Merge limit) v h = tt
request_visible None staged (request.Clean range limit) v h = tt
request_visible None staged request.Seen v h = tt
request_visible None staged (request.Hold millis) v h = hold_visible millis (is_hold_time millis)
request_visible (Some tx) staged (request.Hold millis) v h = active_line
request_visible (Some tx) staged request.Quit v h = none_line
request_visible None staged (request.Who which) v h = tt
request_visible None staged (request.End session) v h = tt
request_visible None staged asked v h = none_line
request_visible (Some tx) staged asked v h = tt

-- what is due is visible, and so is what waits on
abbrev GoesVisibly : Action → SessionState → Type 0
GoesVisibly what here = IsVisibleDue what × AreVisible here.staged

as_due : (s : SessionState) (h : ParsedLine) (what : Action) (here : SessionState) →
    GoesVisibly (action_for s h) (session_behind_line s h) → (what ≡ action_for s h) ×
    (here ≡ session_behind_line s h) →
    GoesVisibly what here
as_due s h what here v is = (
  subst IsVisibleDue (sym is.0) v.0,
  subst (λ (x : SessionState). AreVisible x.staged)
      (sym is.1) v.1,
)

no_room_visible : (s : SessionState) (what : Action) (here : SessionState) → AreVisible s.staged → (what ≡ no_room) ×
    (here ≡ s) → GoesVisibly what here
no_room_visible s what here v is = (
  subst IsVisibleDue (sym is.0) (fault_line fault.NoMemory),
  subst (λ (x : SessionState). AreVisible x.staged) (sym is.1) v,
)

asked_due : (s : SessionState) (asked : Request) (what : Action) (here : SessionState) → AreVisible s.staged →
    AsksVisible asked → IsActionFor s (said.Asked asked) what here → GoesVisibly what here
asked_due s asked what here v h (inl is) = as_due s (said.Asked asked) what here
    (request_visible s.active s.staged asked v h, asked_visible s.active s.staged asked v h) is
asked_due s asked what here v h (inr refused) = no_room_visible s what here v (refused.1, refused.2)

told_visible : (s : SessionState) (text : List ℕ) (r : Result Request LineFault) (what : Action) (here : SessionState) →
    AreVisible s.staged → Reads text r → IsActionFor s (parsed_of r) what here → GoesVisibly what here
told_visible s text (Ok asked) what here v reads may = asked_due s asked what here v (asks_visible text asked reads) may
told_visible s text (Err f) what here v reads may = as_due s (said.Faulty f) what here (fault_line f, v) may

due_visible : (s : SessionState) (l : Line) (h : ParsedLine) (what : Action) (here : SessionState) →
    AreVisible s.staged → MayParse l h → IsActionFor s h what here → GoesVisibly what here
due_visible s None h what here v may d = as_due s said.TooLong what here (long_line, v)
    (subst (λ (x : ParsedLine). IsActionFor s x what here) may d)
due_visible s (Some text) h what here v may d = told_visible s text may.0 what here v
    (reads_what_may_be text may.0 may.1) (subst (λ (x : ParsedLine). IsActionFor s x what here) may.2 d)

-- ---- exchanges

-- the store goes on visibly, and so does what waits
pub record Visibly (waiting : Records) (rest : Trace) : Type 0 where
  pub to : Store
  pub visible : IsVisibleStore to
  pub waits : AreVisible waiting
  pub most_runs : ℕ
  pub follows : IsRunOf most_runs to rest

abbrev pub AreLines : List Exchange → Type 0
AreLines exchanges = AllByRecursion (λ (e : Exchange). IsOneLine (response_text e.1)) exchanges

-- and the responses are lines
abbrev pub Tells : {B : Type 0} → Between B
Tells old exchanges events new = (rest : Trace) → Visibly old.1 (events ++ rest) →
    AreLines exchanges × Visibly new.1 rest

module _ {B : Type 0} (means : BackendMeaning B) where
  -- a visible step, which the store may answer so
  steps : (old new : SessionPoint B) (step : Step) (reply : Reply) (events rest : Trace) → IsVisibleStep step →
      TakesStep means old step reply events new → Visibly old.1 (events ++ rest) →
      IsLine (Replied reply) × Visibly new.1 rest
  steps old new step reply events rest is takes v =
      let may : IsRunOf v.most_runs v.to ((step, reply) ∷ rest) =
      subst (λ (es : Trace). IsRunOf v.most_runs v.to (es ++ rest)) takes.1 v.follows in (
        reply_line reply (tells_visible v.most_runs v.to step reply is v.visible may.0),
        record {
          to = after_step v.to step reply;
          visible = after_visible v.to step reply is v.visible;
          waits = subst AreVisible (sym takes.2) (after_reply old.1 reply v.waits);
          most_runs = v.most_runs;
          follows = may.1;
        },
      )

  -- nothing is done
  rests : (old new : SessionPoint B) (events rest : Trace) → events ≡ [] → new.1 ≡ old.1 →
      Visibly old.1 (events ++ rest) → Visibly new.1 rest
  rests old new events rest none same v = record {
    to = v.to;
    visible = v.visible;
    waits = subst AreVisible (sym same) v.waits;
    most_runs = v.most_runs;
    follows = subst (λ (es : Trace). IsRunOf v.most_runs v.to (es ++ rest)) none v.follows;
  }

  acts : (old new : SessionPoint B) (what : Action) (response : Response) (events rest : Trace) → IsVisibleDue what →
      AnswersAction means old what response events new → Visibly old.1 (events ++ rest) →
      IsLine response × Visibly new.1 rest
  acts old new (Answer due) response events rest is a v = (
    subst IsLine (sym a.0) is,
    rests old new events rest a.1.0 (ap (λ (at : SessionPoint B). at.1) a.1.1) v,
  )
  acts old new (Take step) response events rest is a v =
      let told = steps old new step a.0 events rest is a.2 v in
      (subst IsLine (sym a.1) told.0, told.1)
  acts old new TellSeen response events rest is a v = (
    subst IsLine (sym a.2) (seen_line a.0 a.1),
    rests old new events rest a.3.1 a.3.2 v,
  )
  acts old new (AskHold millis) response events rest is a v = (
    subst IsLine (sym a.1) (hold_line a.0),
    rests old new events rest a.2.1.0 (ap (λ (at : SessionPoint B). at.1) a.2.1.1) v,
  )
  acts old new (TellWho which) response events rest is a v = (
    subst IsLine (sym a.1) (who_answered a.0),
    rests old new events rest a.2.1.0 (ap (λ (at : SessionPoint B). at.1) a.2.1.1) v,
  )
  acts old new (AskEnd session) response events rest is a v = (
    subst IsLine (sym a.1) (end_line a.0),
    rests old new events rest a.2.1.0 (ap (λ (at : SessionPoint B). at.1) a.2.1.1) v,
  )

  answers : (old new : SessionPoint B) (e : Exchange) (events : Trace) → AnswersLine means old e events new →
      Tells old (e ∷ []) events new
  answers old new e events (inl a) rest v =
      let due : GoesVisibly a.2.0 (session_at means (old.0, a.2.1)) = due_visible (session_at means old) e.0 a.0 a.2.0
      (session_at means (old.0, a.2.1)) v.waits a.1 a.2.2 in
      let told = acts (old.0, a.2.1) new a.2.0 e.1 events rest due.0 a.2.3
      (record { to = v.to; visible = v.visible; waits = due.1; most_runs = v.most_runs; follows = v.follows }) in
      ((told.0, tt), told.1)
  answers old new e events (inr (is, (lapses, (tx, active, takes)))) rest v = (
    (subst IsLine (sym is) lapsed_line, tt),
    (steps old new (step.Abort tx) reply.Aborted events rest tt takes v).1,
  )

  pub tells : (auto : ℕ) → HoldsOfLines means auto Tells
  tells auto = record {
    stays = λ at rest v. (tt, v);
    lines = answers;
    merges = λ old new reply events m rest v. (tt, (steps old new (step.Merge auto) reply events rest tt m v).1);
    joins = λ a b c exchanges more events later f g rest v.
        let first = f (later ++ rest) (record {
          to = v.to;
          visible = v.visible;
          waits = v.waits;
          most_runs = v.most_runs;
          follows = subst (IsRunOf v.most_runs v.to) (append_assoc events later rest) v.follows;
        }) in
        let then = g rest first.1 in (
          all_append (λ (e : Exchange). IsOneLine (response_text e.1)) exchanges more first.0 then.0,
          then.1,
        );
  }
