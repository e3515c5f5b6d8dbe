-- What goes for a backend's steps goes for its conversations.
use Rattle.std.proofs.Common.{◌≡◌, ℕ, ◌==◌, List, [], ◌∷◌, ◌++◌, Bool, true, false, Option, Some, None, refl, sym, ap}
use Rattle.std.proofs.Common.{subst, inl, inr, ◌∙◌, Result}
use Rattle.std.specs.Prelude.{MatchBool}
use Rattle.am_record.specs.declared.step.Step.{Step}
use Rattle.am_record.specs.declared.step.Step.TheVariants.{Abort, Merge}
use Rattle.am_record.specs.declared.step.Reply.{Reply}
use Rattle.am_record.specs.declared.step.Reply.TheVariants.{Aborted}
use Rattle.am_law_serial.specs.Trace.{Trace}
use Rattle.am_line_dialogue.specs.Actions.{IsActionFor}
use Rattle.am_line_dialogue.specs.Exchanges.{Exchange, with_torn}
use Rattle.am_line_dialogue.specs.Backends.{BackendMeaning}
use Rattle.am_line_dialogue.specs.Conversation.{SessionPoint, Stays, TakesStep, AnswersAction, AnswersLine, MergesAfter}
use Rattle.am_line_dialogue.specs.Conversation.{AnswersTorn, Converses, Leaves, AnswersAll}
use Rattle.am_line_dialogue.specs.declared.action.Action.{Action}
use Rattle.am_line_dialogue.specs.declared.action.Action.TheVariants.{Answer, Take, TellSeen, AskHold, TellWho, AskEnd}
use Rattle.am_line_dialogue.specs.declared.response.Response.{Response}
use Rattle.am_line_dialogue.specs.declared.response.HoldAnswer.{HoldAnswer}
use Rattle.am_line_dialogue.specs.declared.response.EndAnswer.{EndAnswer}
use Rattle.am_line_dialogue.specs.declared.told_sessions.ToldSession.{ToldSession}
use Rattle.am_line_wire.specs.declared.request.WhichSessions.{WhichSessions}
use Rattle.am_record.specs.declared.memory.NoMemory.{NoMemory}

-- ---- a map of backends that takes steps to steps takes conversations to conversations

pub record TakesSteps {B C : Type 0} (from : BackendMeaning B) (to : BackendMeaning C) (image : B → C) : Type 0 where
  pub active : (b : B) → to.active (image b) ≡ from.active b
  pub steps : (old new : B) (step : Step) (reply : Reply) → from.steps old step reply new →
      to.steps (image old) step reply (image new)
  pub shows : (old new : B) (session commits : ℕ) → from.shows old session commits new →
      to.shows (image old) session commits (image new)
  pub holds : (b : B) (millis : ℕ) (answer : HoldAnswer) → from.holds b millis answer →
      to.holds (image b) millis answer
  pub tells : (b : B) (which : WhichSessions) (told : Result (List ToldSession) NoMemory) → from.tells b which told →
      to.tells (image b) which told
  pub ends : (b : B) (session : ℕ) (answer : EndAnswer) → from.ends b session answer →
      to.ends (image b) session answer
  pub lapses : from.lapses → to.lapses

module _ {B C : Type 0} (from : BackendMeaning B) (to : BackendMeaning C) (image : B → C)
    (takes : TakesSteps from to image) where
  abbrev point : SessionPoint B → SessionPoint C
  point at = (image at.0, at.1)

  action_taken : (old new : SessionPoint B) (what : Action) (response : Response) (events : Trace) →
      AnswersAction from old what response events new → AnswersAction to (point old) what response events (point new)
  action_taken old new (Answer due) response events a = (a.0, (a.1.0, ap point a.1.1))
  action_taken old new (Take step) response events a = (
    a.0,
    a.1,
    (takes.steps old.0 new.0 step a.0 a.2.0, a.2.1, a.2.2),
  )
  action_taken old new TellSeen response events a = (
    a.0,
    a.1,
    a.2,
    (takes.shows old.0 new.0 a.0 a.1 a.3.0, a.3.1, a.3.2),
  )
  action_taken old new (AskHold millis) response events a = (
    a.0,
    a.1,
    (takes.holds old.0 millis a.0 a.2.0, (a.2.1.0, ap point a.2.1.1)),
  )
  action_taken old new (TellWho which) response events a = (
    a.0,
    a.1,
    (takes.tells old.0 which a.0 a.2.0, (a.2.1.0, ap point a.2.1.1)),
  )
  action_taken old new (AskEnd session) response events a = (
    a.0,
    a.1,
    (takes.ends old.0 session a.0 a.2.0, (a.2.1.0, ap point a.2.1.1)),
  )

  line_taken : (old new : SessionPoint B) (e : Exchange) (events : Trace) → AnswersLine from old e events new →
      AnswersLine to (point old) e events (point new)
  line_taken old new e events (inl a) = inl (
    a.0,
    a.1,
    (
      a.2.0,
      a.2.1,
      subst (λ (active : Option ℕ). IsActionFor (record { active = active; staged = old.1 }) a.0 a.2.0
          (record { active = active; staged = a.2.1 })) (sym (takes.active old.0)) a.2.2,
      action_taken (old.0, a.2.1) new a.2.0 e.1 events a.2.3,
    ),
  )
  line_taken old new e events (inr (is, (lapses, (tx, active, (takes_abort, are, none))))) = inr (
    is,
    (
      takes.lapses lapses,
      (tx, takes.active old.0 ∙ active, (takes.steps old.0 new.0 (Abort tx) Aborted takes_abort, are, none)),
    ),
  )

  merge_taken : (auto : ℕ) (old new : SessionPoint B) (events : Trace) → MergesAfter from auto old events new →
      MergesAfter to auto (point old) events (point new)
  merge_taken auto old new events = by_auto (auto == 0)
    where
      by_auto : (b : Bool) → MatchBool b (Stays from old events new)
          ((merged : Reply) × TakesStep from old (Merge auto) merged events new) →
          MatchBool b (Stays to (point old) events (point new))
          ((merged : Reply) × TakesStep to (point old) (Merge auto) merged events (point new))
      by_auto true m = (m.0, ap point m.1)
      by_auto false m = (m.0, (takes.steps old.0 new.0 (Merge auto) m.0 m.1.0, m.1.1, m.1.2))

  torn_taken : (old new : SessionPoint B) (torn : Option Exchange) (events : Trace) →
      AnswersTorn from old torn events new → AnswersTorn to (point old) torn events (point new)
  torn_taken old new None events a = (a.0, ap point a.1)
  torn_taken old new (Some e) events a = line_taken old new e events a

  lines_taken : (auto : ℕ) (exchanges : List Exchange) (torn : Option Exchange) (old new : SessionPoint B)
      (events : Trace) → Converses from auto old exchanges torn events new →
      Converses to auto (point old) exchanges torn events (point new)
  lines_taken auto [] torn old new events c = torn_taken old new torn events c
  lines_taken auto (e ∷ exchanges) torn old new events (own, merged, later, answered, merging, a, m, c, are) = (
    own,
    merged,
    later,
    point answered,
    point merging,
    line_taken old answered e own a,
    merge_taken auto answered merging merged m,
    lines_taken auto exchanges torn merging new later c,
    are,
  )

  leaving_taken : (tx : Option ℕ) (old new : B) (events : Trace) → Leaves from tx old events new →
      Leaves to tx (image old) events (image new)
  leaving_taken None old new events l = (l.0, ap image l.1)
  leaving_taken (Some tx) old new events l = (takes.steps old new (Abort tx) Aborted l.0, l.1)

  pub conversation_taken : (auto : ℕ) (old new : B) (exchanges : List Exchange) (torn : Option Exchange)
      (events : Trace) → AnswersAll from auto old exchanges torn events new →
      AnswersAll to auto (image old) exchanges torn events (image new)
  conversation_taken auto old new exchanges torn events a = record {
    last = point a.last;
    own = a.own;
    aborting = a.aborting;
    converses = lines_taken auto exchanges torn (old, []) a.last a.own a.converses;
    leaves = subst (λ (tx : Option ℕ). Leaves to tx (image a.last.0) a.aborting (image new))
        (sym (takes.active a.last.0)) (leaving_taken (from.active a.last.0) a.last.0 new a.aborting a.leaves);
    are = a.are;
  }

-- ---- what holds of each line, of each merge, and of one after another, holds of conversations

-- the exchanges and events between two points
abbrev pub Between : Type 0 → Type 1
Between B = SessionPoint B → List Exchange → Trace → SessionPoint B → Type 0

pub record HoldsOfLines {B : Type 0} (means : BackendMeaning B) (auto : ℕ) (Goes : Between B) : Type 0 where
  pub stays : (at : SessionPoint B) → Goes at [] [] at
  pub lines : (old new : SessionPoint B) (e : Exchange) (events : Trace) → AnswersLine means old e events new →
      Goes old (e ∷ []) events new
  pub merges : (old new : SessionPoint B) (reply : Reply) (events : Trace) →
      TakesStep means old (Merge auto) reply events new → Goes old [] events new
  pub joins : (a b c : SessionPoint B) (exchanges more : List Exchange) (events later : Trace) →
      Goes a exchanges events b → Goes b more later c → Goes a (exchanges ++ more) (events ++ later) c

module _ {B : Type 0} (means : BackendMeaning B) (auto : ℕ) (Goes : Between B)
    (holds : HoldsOfLines means auto Goes) where
  stayed : (old new : SessionPoint B) (events : Trace) → Stays means old events new → Goes old [] events new
  stayed old new events s = subst (λ (es : Trace). Goes old [] es new) (sym s.0)
      (subst (Goes old [] []) (sym s.1) (holds.stays old))

  merged : (old new : SessionPoint B) (events : Trace) → MergesAfter means auto old events new →
      Goes old [] events new
  merged old new events = by_auto (auto == 0)
    where
      by_auto : (b : Bool) → MatchBool b (Stays means old events new)
          ((reply : Reply) × TakesStep means old (Merge auto) reply events new) → Goes old [] events new
      by_auto true m = stayed old new events m
      by_auto false m = holds.merges old new m.0 events m.1

  torn_there : (torn : Option Exchange) (old new : SessionPoint B) (events : Trace) →
      AnswersTorn means old torn events new → Goes old (with_torn [] torn) events new
  torn_there None old new events a = stayed old new events a
  torn_there (Some e) old new events a = holds.lines old new e events a

  with_torn-cons : (e : Exchange) (exchanges : List Exchange) (torn : Option Exchange) →
      with_torn (e ∷ exchanges) torn ≡ e ∷ with_torn exchanges torn
  with_torn-cons e exchanges None = refl
  with_torn-cons e exchanges (Some last) = refl

  pub conversation_so : (exchanges : List Exchange) (torn : Option Exchange) (old new : SessionPoint B)
      (events : Trace) → Converses means auto old exchanges torn events new →
      Goes old (with_torn exchanges torn) events new
  conversation_so [] torn old new events c = torn_there torn old new events c
  conversation_so (e ∷ exchanges) torn old new events (own, merging, later, answered, next, a, m, c, are) =
      subst (λ (xs : List Exchange). Goes old xs events new) (sym (with_torn-cons e exchanges torn))
      (subst (λ (es : Trace). Goes old (e ∷ with_torn exchanges torn) es new) (sym are)
      (holds.joins old answered new (e ∷ []) (with_torn exchanges torn) own (merging ++ later)
      (holds.lines old answered e own a)
      (holds.joins answered next new [] (with_torn exchanges torn) merging later (merged answered next merging m)
      (conversation_so exchanges torn next new later c))))

-- ---- what holds of steps, and of one after another, holds of conversations

pub record HoldsOfSteps {B : Type 0} (means : BackendMeaning B) (Goes : B → Trace → B → Type 0) : Type 0 where
  pub stays : (b : B) → Goes b [] b
  pub steps : (old new : B) (step : Step) (reply : Reply) → means.steps old step reply new →
      Goes old ((step, reply) ∷ []) new
  pub shows : (old new : B) (session commits : ℕ) → means.shows old session commits new → Goes old [] new
  pub joins : (a b c : B) (events more : Trace) → Goes a events b → Goes b more c → Goes a (events ++ more) c

module _ {B : Type 0} (means : BackendMeaning B) (Goes : B → Trace → B → Type 0) (holds : HoldsOfSteps means Goes) where
  still : (old new : B) (events : Trace) → events ≡ [] → new ≡ old → Goes old events new
  still old new events none same = subst (λ (es : Trace). Goes old es new) (sym none)
      (subst (Goes old []) (sym same) (holds.stays old))

  stepped : (old new : B) (step : Step) (reply : Reply) (events : Trace) → means.steps old step reply new →
      events ≡ (step, reply) ∷ [] → Goes old events new
  stepped old new step reply events takes are = subst (λ (es : Trace). Goes old es new) (sym are)
      (holds.steps old new step reply takes)

  action_goes : (old new : SessionPoint B) (what : Action) (response : Response) (events : Trace) →
      AnswersAction means old what response events new → Goes old.0 events new.0
  action_goes old new (Answer due) response events a = still old.0 new.0 events a.1.0
      (ap (λ (at : SessionPoint B). at.0) a.1.1)
  action_goes old new (Take step) response events a = stepped old.0 new.0 step a.0 events a.2.0 a.2.1
  action_goes old new TellSeen response events a = subst (λ (es : Trace). Goes old.0 es new.0) (sym a.3.1)
      (holds.shows old.0 new.0 a.0 a.1 a.3.0)
  action_goes old new (AskHold millis) response events a = still old.0 new.0 events a.2.1.0
      (ap (λ (at : SessionPoint B). at.0) a.2.1.1)
  action_goes old new (TellWho which) response events a = still old.0 new.0 events a.2.1.0
      (ap (λ (at : SessionPoint B). at.0) a.2.1.1)
  action_goes old new (AskEnd session) response events a = still old.0 new.0 events a.2.1.0
      (ap (λ (at : SessionPoint B). at.0) a.2.1.1)

  abbrev between : Between B
  between old exchanges events new = Goes old.0 events new.0

  line_goes : (old new : SessionPoint B) (e : Exchange) (events : Trace) → AnswersLine means old e events new →
      Goes old.0 events new.0
  line_goes old new e events (inl a) = action_goes (old.0, a.2.1) new a.2.0 e.1 events a.2.3
  line_goes old new e events (inr (is, (lapses, (tx, active, (takes_abort, are, none))))) =
      stepped old.0 new.0 (Abort tx) Aborted events takes_abort are

  lines_go : (auto : ℕ) → HoldsOfLines means auto between
  lines_go auto = record {
    stays = λ at. holds.stays at.0;
    lines = line_goes;
    merges = λ old new reply events m. stepped old.0 new.0 (Merge auto) reply events m.0 m.1;
    joins = λ a b c exchanges more events later f g. holds.joins a.0 b.0 c.0 events later f g;
  }

  leaving_goes : (tx : Option ℕ) (old new : B) (events : Trace) → Leaves means tx old events new → Goes old events new
  leaving_goes None old new events l = still old new events l.0 l.1
  leaving_goes (Some tx) old new events l = stepped old new (Abort tx) Aborted events l.0 l.1

  pub conversation_goes : (auto : ℕ) (old new : B) (exchanges : List Exchange) (torn : Option Exchange)
      (events : Trace) → AnswersAll means auto old exchanges torn events new → Goes old events new
  conversation_goes auto old new exchanges torn events a = subst (λ (es : Trace). Goes old es new) (sym a.are)
      (holds.joins old a.last.0 new a.own a.aborting
      (conversation_so means auto between (lines_go auto) exchanges torn (old, []) a.last a.own a.converses)
      (leaving_goes (means.active a.last.0) a.last.0 new a.aborting a.leaves))
