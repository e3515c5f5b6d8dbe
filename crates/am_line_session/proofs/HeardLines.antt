-- What was heard of a line, and how it was answered.
use Rattle.std.proofs.Common.{◌≡◌, ℕ, ◌==◌, Bool, [], ◌∷◌, Option, Some, None, true, false, refl, sym, ap, ◌∙◌, subst}
use Rattle.std.proofs.Common.{⊎_elim, inl, inr, ◌++◌, append-nil, cond, not, ◌&&◌}
use Rattle.std.proofs.lemmas.Bool.{true≢false, not-false}
use Rattle.std.specs.Prelude.{MatchBool}
use Rattle.am_record.specs.declared.step.Step.TheVariants.{Abort, Merge}
use Rattle.am_record.specs.declared.step.Reply.{Reply}
use Rattle.am_record.specs.declared.step.Reply.TheVariants.{Aborted}
use Rattle.am_law_serial.specs.Trace.{Trace}
use Rattle.am_line_wire.specs.Grammar.{brings_records}
use Rattle.am_line_wire.specs.LineReadings.{reading}
use Rattle.am_line_wire.specs.declared.request.Request.{Request}
use Rattle.am_line_wire.specs.declared.request.Request.TheVariants as request
use Rattle.am_line_dialogue.specs.ParsedLine.{Line, parsed_of, parsed, MayParse, is_quit}
use Rattle.am_line_dialogue.specs.Session.{SessionState, staged_after}
use Rattle.am_line_dialogue.specs.Actions.{IsActionFor}
use Rattle.am_line_dialogue.specs.declared.action.Action.{Action}
use Rattle.am_line_dialogue.specs.declared.lines.ParsedLine.{ParsedLine}
use Rattle.am_line_dialogue.specs.declared.lines.ParsedLine.TheVariants.{Asked}
use Rattle.am_line_dialogue.specs.declared.response.Response.{Response}
use Rattle.am_line_dialogue.specs.Backends.{BackendMeaning}
use Rattle.am_line_dialogue.specs.Conversation.{SessionPoint, Stays, TakesStep, AnswersParsed, AnswersLine, MergesAfter}
use Rattle.am_line_dialogue.specs.Responses.{is_lapsed, ends_itself}
use Rattle.am_line_dialogue.specs.Exchanges.{Exchange}
use Rattle.am_line_session.specs.Heard.{MayHear, is_quit_heard}
use Rattle.am_line_session.specs.Waits.{Waits}
use Rattle.am_line_session.specs.OneAnswer.{RespondsTo}
use Rattle.am_line_session.specs.ServedSessions.{is_answered, goes_on}
use Rattle.am_line_session.specs.declared.heard.Heard.{Heard}

-- what brings records is no QUIT
no_quit : (asked : Request) → brings_records asked ≡ true → is_quit (Asked asked) ≡ false
no_quit request.Quit e = cc
no_quit asked e = refl

-- want of memory hides no QUIT
pub heard_quit : (line : Line) (h : ParsedLine) → MayParse line h → is_quit h ≡ is_quit (parsed line)
heard_quit None h is = ap is_quit is
heard_quit (Some text) h may =
    ⊎_elim
    (λ (same : may.0 ≡ reading text). ap is_quit (may.2 ∙ ap parsed_of same))
    (λ refused. ap is_quit (may.2 ∙ ap parsed_of refused.0) ∙
    sym (ap (λ r. is_quit (parsed_of r)) refused.1.1 ∙ no_quit refused.1.0 refused.1.2))
    may.1

-- what is due where a transaction is known to be active is due where the backend has it
pub due_at : (a : Option ℕ) (s s' : SessionState) (h : ParsedLine) (what : Action) → a ≡ s.active →
    s'.active ≡ s.active → IsActionFor s h what s' → IsActionFor (record { active = a; staged = s.staged }) h what
    (record { active = a; staged = s'.staged })
due_at a s s' h what e f m =
    subst (λ (x : Option ℕ). IsActionFor (record { active = x; staged = s.staged }) h what
    (record { active = a; staged = s'.staged })) (sym e)
    (subst (λ (x : Option ℕ). IsActionFor s h what (record { active = x; staged = s'.staged })) (f ∙ sym e) m)

-- a line was waited for, and what was heard then was answered
pub line_answered : {B : Type 0} (means : BackendMeaning B) (old waited new : SessionPoint B) (line : Line)
    (is_late : Bool) (h : Heard) (response : Response) (idle own : Trace) → Waits means is_late old idle waited →
    MayHear is_late line h → RespondsTo means waited h response own new →
    AnswersLine means old (line, response) (idle ++ own) new
line_answered {B} means old waited new line true h response idle own (gone, (lapses, (tx, active, (steps, are, left))))
    may
    a =
    let b = subst (λ (x : Heard). RespondsTo means waited x response own new) may a in
    let none : own ≡ [] = b.1.0 in
    let same : new ≡ waited = b.1.1 in inr (
      b.0,
      (
        lapses,
        (
          tx,
          active,
          (
            subst (λ (x : SessionPoint B). means.steps old.0 (Abort tx) Aborted x.0) (sym same) steps,
            ap (λ (more : Trace). idle ++ more) none ∙ append-nil idle ∙ are,
            ap (λ (x : SessionPoint B). x.1) same ∙ left,
          ),
        ),
      ),
    )
line_answered {B} means old waited new line false h response idle own (none, same) may a =
    let at_parsed = subst (λ (x : Heard). RespondsTo means waited x response own new) may.2 a in
    let at_old = subst (λ (x : SessionPoint B). AnswersParsed means x may.0 response own new) same at_parsed in
    inl (
      may.0,
      may.1,
      subst (λ (es : Trace). AnswersParsed means old may.0 response es new)
          (sym (ap (λ (es : Trace). es ++ own) none)) at_old,
    )

-- at a QUIT that was heard a line was QUIT
pub quit_heard : (is_late : Bool) (line : Line) (h : Heard) → MayHear is_late line h → is_quit_heard h ≡ true →
    is_quit (parsed line) ≡ true
quit_heard true line h may q = absurd (true≢false (sym q ∙ ap is_quit_heard may))
quit_heard false line h may q = sym (heard_quit line may.0 may.1) ∙ sym (ap is_quit_heard may.2) ∙ q

-- any other is answered by a response
pub answered_heard : {B : Type 0} (means : BackendMeaning B) (waited new : SessionPoint B) (line : Line)
    (is_late : Bool) (h : Heard) (response : Response) (own : Trace) → MayHear is_late line h →
    RespondsTo means waited h response own new → is_quit_heard h ≡ false → is_answered (line, response) ≡ true
answered_heard means waited new line true h response own may a q =
    let b = subst (λ (x : Heard). RespondsTo means waited x response own new) may a in
    ap (λ (r : Response). is_answered (line, r)) b.0
answered_heard means waited new line false h response own may a q =
    let no : is_quit (parsed line) ≡ false = sym (heard_quit line may.0 may.1) ∙ sym (ap is_quit_heard may.2) ∙ q in
    ap (λ (b : Bool). cond (is_lapsed response) true (not b)) no ∙ either_way (is_lapsed response)
  where
    either_way : (b : Bool) → cond b true true ≡ true
    either_way true = refl
    either_way false = refl

-- after one by which the session didn't end itself it goes on
pub goes_on_behind : (e : Exchange) (on : Bool) → is_answered e ≡ true → on ≡ not (ends_itself e.1) → on ≡ true →
    goes_on e ≡ true
goes_on_behind e on answered is goes = ap (λ (b : Bool). b && not (ends_itself e.1)) answered ∙ sym is ∙ goes

-- else it ended itself
pub ended_behind : (response : Response) (on : Bool) → on ≡ not (ends_itself response) → on ≡ false →
    ends_itself response ≡ true
ended_behind response on is ends = not-false _ (sym is ∙ ends)

-- the merge after it
pub merged_once : {B : Type 0} (means : BackendMeaning B) (auto : ℕ) (old new : SessionPoint B) (reply : Reply) →
    (auto == 0) ≡ false → means.steps old.0 (Merge auto) reply new.0 → new.1 ≡ staged_after old.1 reply →
    (events : Trace) × MergesAfter means auto old events new
merged_once means auto old new reply some went waits =
    let events : Trace = (Merge auto, reply) ∷ [] in (
      events,
      subst (λ (b : Bool). MatchBool b (Stays means old events new)
          ((merged : Reply) × TakesStep means old (Merge auto) merged events new)) (sym some)
          (reply, (went, refl, waits)),
    )
