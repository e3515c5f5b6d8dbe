-- A session alone with a sound trace, exchange by exchange.
use Rattle.std.proofs.Common.{◌≡◌, ◌⊎◌, inl, inr, ℕ, ◌+◌, ◌^◌, ◌≤◌, nat_le, List, [], ◌∷◌, ◌++◌, Bool, true}
use Rattle.std.proofs.Common.{false, cond, ◌||◌, Option, Some, None, refl, sym, ap, ◌∙◌, subst, ⊎_elim, arith}
use Rattle.std.proofs.Common.{append_assoc, Ok, Err}
use Rattle.std.specs.Prelude.{MatchOption, MatchBool}
use Rattle.std.proofs.lemmas.Bool.{true≢false, le-leb, lt-leb}
use Rattle.std.proofs.lemmas.Cmp.{nat_eq_equiv}
use Rattle.am_record.specs.Records.{Records}
use Rattle.am_record.specs.Plain.{PlainMap, fresh, answer, left, left_on}
use Rattle.am_record.specs.declared.step.Op.{Op}
use Rattle.am_record.specs.declared.step.Op.TheVariants as op
use Rattle.am_record.specs.declared.step.Step.{Step}
use Rattle.am_record.specs.declared.step.Step.TheVariants as step
use Rattle.am_record.specs.declared.step.Reply.{Reply}
use Rattle.am_record.specs.declared.step.Reply.TheVariants as reply
use Rattle.am_record.specs.declared.step.Refusal.{Refusal}
use Rattle.am_record.specs.declared.step.Refusal.TheVariants as why
use Rattle.am_law_serial.specs.Trace.{Trace, Answered, ops_of, effect, effect_of_do, runs_made}
use Rattle.am_law_serial.specs.Machine as machine
use Rattle.am_law_serial.specs.Machine.{next, Runs, May, view}
use Rattle.am_line_dialogue.specs.ParsedLine.{Line, parsed, parsed_of, MayParse, is_upkeep}
use Rattle.am_line_dialogue.specs.Session.{SessionState, staged_after}
use Rattle.am_line_dialogue.specs.Actions.{may_wait, with_staged, staged_left, stage_response, action_for}
use Rattle.am_line_dialogue.specs.Actions.{session_behind_line, no_room, IsActionFor, is_hold_time}
use Rattle.am_line_dialogue.specs.Exchanges.{Exchange}
use Rattle.am_line_dialogue.specs.Conversation.{SessionPoint, session_at, Stays, TakesStep, AnswersAction, AnswersLine}
use Rattle.am_line_dialogue.specs.Alone.{Alone, alone_after, alone_meaning, alone_told, alone_end}
use Rattle.am_line_dialogue.specs.Say as say
use Rattle.am_line_dialogue.specs.Say.{refusal_due, reply_due, refused_or, state_did, wants_memory, response_due}
use Rattle.am_line_dialogue.specs.Say.{state_after_line, state_refused, is_load_line, IsSaid, SaysFrom}
use Rattle.am_line_wire.specs.declared.request.Request.{Request}
use Rattle.am_line_wire.specs.declared.request.Request.TheVariants as request
use Rattle.am_line_wire.specs.declared.request.WhichSessions.{WhichSessions}
use Rattle.am_line_text.specs.declared.fault.LineFault.TheVariants as fault
use Rattle.am_line_dialogue.specs.declared.lines.ParsedLine.{ParsedLine}
use Rattle.am_line_dialogue.specs.declared.lines.ParsedLine.TheVariants as said
use Rattle.am_line_dialogue.specs.declared.action.Action.{Action}
use Rattle.am_line_dialogue.specs.declared.action.Action.TheVariants.{Answer, TellSeen, AskHold, TellWho, AskEnd}
use Rattle.am_line_dialogue.specs.declared.response.Response.{Response}
use Rattle.am_line_dialogue.specs.declared.response.Response.TheVariants as response
use Rattle.am_line_dialogue.specs.declared.response.Response.TheVariants.{Replied, Seen, Faulty, Hold, Who, End}
use Rattle.am_line_dialogue.specs.declared.response.HoldAnswer.TheVariants.{Granted, OutOfBounds}
use Rattle.am_record.specs.Interval.{Interval}
use Rattle.am_line_dialogue.proofs.Conversations.{Between, HoldsOfLines}
pub use Rattle.am_line_dialogue.proofs.SaidByMap.{Where, actives, machine_at, state_at, alone_at, point_at, is_answer}
pub use Rattle.am_line_dialogue.proofs.SaidByMap.{Counts}
pub use Rattle.am_line_dialogue.proofs.SaidByMap.{answer_answers, answer_counts, due_is, due_found, one_view, next_did}
pub use Rattle.am_line_dialogue.proofs.SaidByMap.{next_committed, next_aborted, ops_did}

-- what one exchange comes to: memory was refused, or the response is the one that is said, if it is one
abbrev Outcome : say.DialogueState → ParsedLine → Response → say.DialogueState → Type 0
Outcome s h r s' =
    ((wants_memory r ≡ true) × (s' ≡ state_refused s h r))
    ⊎ ((wants_memory r ≡ false) × IsSaid (response_due s h) r × (s' ≡ state_after_line s h))

-- where it leaves the machine, from which the rest of the trace goes on
record Leads (w : Where) (h : ParsedLine) (r : Response) (rest : Trace) (at' : SessionPoint Alone) : Type 0 where
  to : Where
  runs : Runs 65535 (machine_at to) rest
  stands : at' ≡ point_at to
  outcome : Outcome (state_at w) h r (state_at to)

-- the response is said
is_said : (action_for : Option Response) (said r : Response) → action_for ≡ Some said → r ≡ said → IsSaid action_for r
is_said action_for said r e f = subst (λ (o : Option Response). IsSaid o r) (sym e) f

-- a response at once, to a session that waits on with other records
at_once : (w : Where) (staged : Records) (h : ParsedLine) (action_for : Response) → wants_memory action_for ≡ false →
    response_due (state_at w) h ≡ Some action_for → state_at (record w { staged = staged }) ≡ state_after_line
    (state_at w) h →
    (r : Response) (own rest : Trace) (at' : SessionPoint Alone) → (r ≡ action_for) ×
    Stays alone_meaning (alone_at w, staged) own at' → Runs 65535 (machine_at w) (own ++ rest) → Leads w h r rest at'
at_once w staged h action_for memory says same r own rest at' answered run = record {
  to = record w { staged = staged };
  runs = subst (λ (x : Trace). Runs 65535 (machine_at w) (x ++ rest)) answered.1.0 run;
  stands = answered.1.1;
  outcome = inr (
    ap wants_memory answered.0 ∙ memory,
    is_said (response_due (state_at w) h) action_for r says
        answered.0,
    same,
  );
}

-- memory was refused to the line
refused_line : (w : Where) (h : ParsedLine) (r : Response) (own rest : Trace) (at' : SessionPoint Alone) →
    (r ≡ Faulty fault.NoMemory) × Stays alone_meaning (point_at w) own at' → Runs 65535 (machine_at w) (own ++ rest) →
    Leads w h r rest at'
refused_line w h r own rest at' answered run = record {
  to = w;
  runs = subst (λ (x : Trace). Runs 65535 (machine_at w) (x ++ rest)) answered.1.0 run;
  stands = answered.1.1;
  outcome = inl (ap wants_memory answered.0, sym (ap (state_refused (state_at w) h) answered.0));
}

-- what SEEN shows
shown : (w : Where) → response_due (state_at w) (said.Asked request.Seen) ≡ Some (Seen 0 w.commits) →
    state_at w ≡ state_after_line (state_at w) (said.Asked request.Seen) →
    (r : Response) (own rest : Trace) (at' : SessionPoint Alone) →
    AnswersAction alone_meaning (point_at w) TellSeen r own at' → Runs 65535 (machine_at w) (own ++ rest) →
    Leads w (said.Asked request.Seen) r rest at'
shown w says same r own rest at' a = at_once w w.staged (said.Asked request.Seen) (Seen 0 w.commits) refl says same r
    own
    rest at' (a.2 ∙ (λ i. Seen (a.3.0.0 i) (a.3.0.1 i)), (a.3.1, λ i. (a.3.0.2 i, a.3.2 i)))

-- who would hold, and is alone: by whether one may for so long
holds_alone : (w : Where) (millis : ℕ) (b : Bool) → response_due (state_at w) (said.Asked (request.Hold millis)) ≡
    Some (Hold (cond b Granted OutOfBounds)) →
    state_at w ≡ state_after_line (state_at w) (said.Asked (request.Hold millis)) →
    (r : Response) (own rest : Trace) (at' : SessionPoint Alone) →
    AnswersAction alone_meaning (point_at w) (cond b (AskHold millis) (Answer (Hold OutOfBounds))) r own at' →
    Runs 65535 (machine_at w) (own ++ rest) → Leads w (said.Asked (request.Hold millis)) r rest at'
holds_alone w millis true says same r own rest at' a = at_once w w.staged (said.Asked (request.Hold millis))
    (Hold Granted) refl says same r own rest at' (a.1 ∙ ap Hold a.2.0, a.2.1)
holds_alone w millis false says same r own rest at' a = at_once w w.staged (said.Asked (request.Hold millis))
    (Hold OutOfBounds) refl says same r own rest at' a

-- which sessions there are, where the session is alone; memory may be refused
tells_alone : (w : Where) (which : WhichSessions) → response_due (state_at w) (said.Asked (request.Who which)) ≡
    Some (Who (alone_told which (alone_at w).active)) →
    state_at w ≡ state_after_line (state_at w) (said.Asked (request.Who which)) →
    (r : Response) (own rest : Trace) (at' : SessionPoint Alone) →
    AnswersAction alone_meaning (point_at w) (TellWho which) r own at' → Runs 65535 (machine_at w) (own ++ rest) →
    Leads w (said.Asked (request.Who which)) r rest at'
tells_alone w which says same r own rest at' (Ok told, is, (tells, stays)) =
    at_once w w.staged (said.Asked (request.Who which)) (Who (alone_told which (alone_at w).active)) refl says same r
    own rest at' (is ∙ ap Who tells, stays)
tells_alone w which says same r own rest at' (Err refused, is, (tells, stays)) =
    refused_line w (said.Asked (request.Who which)) r own rest at' (is, stays)

-- who would end a session, and is alone
ends_alone : (w : Where) (number : ℕ) → response_due (state_at w) (said.Asked (request.End number)) ≡
    Some (End (alone_end number)) →
    state_at w ≡ state_after_line (state_at w) (said.Asked (request.End number)) →
    (r : Response) (own rest : Trace) (at' : SessionPoint Alone) →
    AnswersAction alone_meaning (point_at w) (AskEnd number) r own at' → Runs 65535 (machine_at w) (own ++ rest) →
    Leads w (said.Asked (request.End number)) r rest at'
ends_alone w number says same r own rest at' (answer, is, (ends, stays)) = at_once w w.staged
    (said.Asked (request.End number)) (End (alone_end number)) refl says same r own rest at' (is ∙ ap End ends, stays)

-- a step that is told by a reply, and by what the machine may do
abbrev After : Where → Step → Reply → Trace → Type 0
After w s parsed_of rest = May 65535 (machine_at w) s parsed_of × Runs 65535 (next (machine_at w) (effect s parsed_of))
    rest

-- the step was due where the session waits on with these records
abbrev Told : Where → Records → Step → Request → Reply → Trace → Type 0
Told w staged s asked parsed_of rest = Leads w (said.Asked asked) (Replied parsed_of) rest
    (alone_after (alone_at w) s parsed_of, staged_after staged parsed_of)

taken : (w : Where) (staged : Records) (s : Step) (asked : Request) →
    ((t : Reply) (rest : Trace) → After w s t rest → Told w staged s asked t rest) →
    (r : Response) (own rest : Trace) (at' : SessionPoint Alone) → (t : Reply) × (r ≡ Replied t) ×
    TakesStep alone_meaning (alone_at w, staged) s t own at' →
    Runs 65535 (machine_at w) (own ++ rest) → Leads w (said.Asked asked) r rest at'
taken w staged s asked tells r own rest at' a run =
    let led : Told w staged s asked a.0 rest = tells a.0 rest
    (subst (λ (x : Trace). Runs 65535 (machine_at w) (x ++ rest)) a.2.1 run) in
    let stands : SessionPoint Alone = (alone_after (alone_at w) s a.0, staged_after staged a.0) in
    let with_reply : Leads w (said.Asked asked) r rest stands =
    subst (λ (x : Response). Leads w (said.Asked asked) x rest stands) (sym a.1) led in
    subst (λ (x : SessionPoint Alone). Leads w (said.Asked asked) r rest x) (λ i. (sym a.2.0 i, sym a.2.2 i)) with_reply

-- the reply is what is said
said_so : (w : Where) (staged : Records) (s : Step) (asked : Request) (parsed_of : Reply) (rest : Trace) (to : Where) →
    Runs 65535 (machine_at to) rest → (alone_after (alone_at w) s parsed_of, staged_after staged parsed_of) ≡ point_at
    to →
    wants_memory (Replied parsed_of) ≡ false → response_due (state_at w) (said.Asked asked) ≡ Some (Replied parsed_of) →
    state_at to ≡ state_after_line (state_at w) (said.Asked asked) → Told w staged s asked parsed_of rest
said_so w staged s asked parsed_of rest to run stands memory says same = record {
  to = to;
  runs = run;
  stands = stands;
  outcome = inr (
    memory,
    is_said (response_due (state_at w) (said.Asked asked)) (Replied parsed_of) (Replied parsed_of)
        says refl,
    same,
  );
}

-- ---- BEGIN

module _ (begun commits runs : ℕ) (m : PlainMap) (staged : Records) where
  abbrev idle : Where
  idle = record { begun = begun; commits = commits; runs = runs; committed = m; own = None; staged = staged }

  abbrev started : Where
  started = record { begun = begun + 1; commits = commits; runs = runs; committed = m; own = Some []; staged = staged }

  begins : (parsed_of : Reply) (rest : Trace) → After idle step.Begin parsed_of rest →
      Told idle staged step.Begin request.Begin parsed_of rest
  begins (reply.Begun t) rest a =
      let few : nat_le (2 ^ 63) begun ≡ false = lt-leb (2 ^ 63) begun a.0.2 in
      subst (λ (x : ℕ). Told idle staged step.Begin request.Begin (reply.Begun x) rest) (sym a.0.0)
      (said_so idle staged step.Begin request.Begin (reply.Begun (begun + 1)) rest started
      (subst (λ (x : ℕ). Runs 65535 (record {
        begun = begun + 1;
        commits = commits;
        runs = runs;
        committed = m;
        active = (x, []) ∷ [];
      }) rest) a.0.0 a.1) refl refl
      (ap (λ b. Some (Replied (cond b (reply.Refused why.TooManyTx) (reply.Begun (begun + 1))))) few)
      (sym (ap (λ b. cond b (state_at idle) (state_at started)) few)))
  begins (reply.Refused why.TooManyTx) rest a =
      let many : nat_le (2 ^ 63) begun ≡ true = ⊎_elim (λ (h : 64 ≤ 0). absurd (omega (arith, h)))
      (λ h. le-leb (2 ^ 63) begun h) a.0 in
      said_so idle staged step.Begin request.Begin (reply.Refused why.TooManyTx) rest idle a.1 refl refl
      (ap (λ b. Some (Replied (cond b (reply.Refused why.TooManyTx) (reply.Begun (begun + 1))))) many)
      (sym (ap (λ b. cond b (state_at idle) (state_at started)) many))
  begins _ rest a = absurd a.0

-- ---- one transaction active

-- the load or the put whose memory was refused lets go what waited
refused_keeps : (o : Op) (s : say.DialogueState) → record s { staged = staged_left s.staged o } ≡ state_refused s
    (said.Asked (request.Do o)) (Replied (reply.Refused why.NoMemory))
refused_keeps (op.Get k) s = refl
refused_keeps o s = refl

module _ (begun commits runs : ℕ) (m : PlainMap) (body : List Answered) (staged : Records) where
  abbrev busy : Where
  busy = record { begun = begun; commits = commits; runs = runs; committed = m; own = Some body; staged = staged }

  abbrev own_ops : List Op
  own_ops = ops_of body

  -- an operation takes with it what waits, if it is a load
  module _ (o : Op) where
    abbrev asks : Request
    asks = request.Do o

    abbrev whole : Op
    whole = with_staged staged o

    abbrev left_over : Records
    left_over = staged_left staged o

    abbrev busy_on : Where
    busy_on = record busy { staged = left_over }

    abbrev due_answer : Reply
    due_answer = answer whole (left_on own_ops (fresh m))

    abbrev did_state : Reply → say.DialogueState
    did_state parsed_of = state_did (state_at busy_on) own_ops whole parsed_of

    answered : (parsed_of : Reply) (rest : Trace) → parsed_of ≡ due_answer → refusal_due (state_at busy) own_ops whole ≡
        None → Runs 65535 (next (machine_at busy) (effect_of_do begun whole parsed_of)) rest →
        Told busy left_over (step.Do begun whole) asks parsed_of rest
    answered parsed_of rest is none run =
        let counts : Counts parsed_of = answer_counts parsed_of
        (ap is_answer is ∙ answer_answers whole (left_on own_ops (fresh m))) in
        let due_reply : reply_due (state_at busy) own_ops whole ≡ parsed_of = ap (λ o. refused_or o due_answer) none ∙
        sym is in
        said_so busy left_over (step.Do begun whole) asks parsed_of rest
        (record busy_on {
          runs = runs + runs_made (left own_ops m) whole parsed_of;
          own = Some (body ++ (whole, parsed_of) ∷ []);
        })
        (subst (λ (x : machine.State). Runs 65535 x rest) (ap (next (machine_at busy)) (counts.effect begun whole) ∙
        next_did begun commits runs m body staged whole parsed_of) run)
        (λ i. (record { active = counts.active (Some begun) i; commits = commits }, counts.staged left_over i))
        counts.found
        (ap (λ r. Some (Replied r)) due_reply)
        ((λ i. record {
          begun = begun;
          commits = commits;
          runs = runs + runs_made (left own_ops m) whole parsed_of;
          committed = m;
          own = Some (ops_did begun commits runs m body staged whole parsed_of i);
          staged = left_over;
        }) ∙ sym (counts.did (state_at busy_on) own_ops whole) ∙ ap did_state (sym due_reply))

    refused : (why : Refusal) (parsed_of : Reply) (rest : Trace) → parsed_of ≡ reply.Refused why →
        refusal_due (state_at busy) own_ops whole ≡ Some why →
        Runs 65535 (next (machine_at busy) (effect_of_do begun whole parsed_of)) rest →
        Told busy left_over (step.Do begun whole) asks parsed_of rest
    refused why parsed_of rest is action_for run =
        let due_reply : reply_due (state_at busy) own_ops whole ≡ reply.Refused why =
        ap (λ o. refused_or o due_answer) action_for in
        subst (λ (x : Reply). Told busy left_over (step.Do begun whole) asks x rest) (sym is)
        (said_so busy left_over (step.Do begun whole) asks (reply.Refused why) rest busy_on
        (subst (λ (x : Reply). Runs 65535 (next (machine_at busy) (effect_of_do begun whole x)) rest) is run) refl
        (due_found begun commits runs m body staged whole why action_for) (ap (λ r. Some (Replied r)) due_reply)
        (sym (ap did_state due_reply)))

    no_memory : (rest : Trace) → Runs 65535 (machine_at busy) rest → Told busy left_over (step.Do begun whole) asks
        (reply.Refused why.NoMemory) rest
    no_memory rest run = record {
      to = busy_on;
      runs = run;
      stands = refl;
      outcome = inl (refl, refused_keeps o (state_at busy));
    }

    did : (parsed_of : Reply) (rest : Trace) → After busy (step.Do begun whole) parsed_of rest →
        Told busy left_over (step.Do begun whole) asks parsed_of rest
    did parsed_of rest a = by_due (refusal_due (state_at busy) own_ops whole) refl
        (subst (λ (o : Option Refusal). MatchOption o ((parsed_of ≡ answer whole (view (machine_at busy) begun)) ⊎
        (parsed_of ≡ reply.Refused why.NoMemory)) (λ why. parsed_of ≡ reply.Refused why))
        (due_is begun commits runs m body staged whole parsed_of) a.0)
      where
        by_due : (o : Option Refusal) → refusal_due (state_at busy) own_ops whole ≡ o →
            MatchOption o ((parsed_of ≡ answer whole (view (machine_at busy) begun)) ⊎
            (parsed_of ≡ reply.Refused why.NoMemory)) (λ why. parsed_of ≡ reply.Refused why) →
            Told busy left_over (step.Do begun whole) asks parsed_of rest
        by_due None none (inl is) = answered parsed_of rest
            (is ∙ ap (answer whole) (one_view begun commits runs m body staged)) none a.1
        by_due None none (inr wants) = subst (λ (x : Reply). Told busy left_over (step.Do begun whole) asks x rest)
            (sym wants)
            (no_memory rest (subst (λ (x : Reply). Runs 65535 (next (machine_at busy) (effect_of_do begun whole x))
            rest) wants a.1))
        by_due (Some w) action_for is = refused w parsed_of rest is action_for a.1

  not_open : {P : Type 0} → machine.is_open (actives begun (Some body)) begun ≡ false → P
  not_open h = absurd (true≢false (sym (ap (λ b. b || false) (nat_eq_equiv.refl begun)) ∙ h))

  aborts_own : (parsed_of : Reply) (rest : Trace) → After busy (step.Abort begun) parsed_of rest →
      Told busy staged (step.Abort begun) request.Abort parsed_of rest
  aborts_own reply.Aborted rest a =
      said_so busy staged (step.Abort begun) request.Abort reply.Aborted rest (record busy { own = None; staged = [] })
      (subst (λ (x : machine.State). Runs 65535 x rest) (next_aborted begun commits runs m body staged) a.1) refl refl
      refl
      refl
  aborts_own (reply.Refused why.NoSuchTx) rest a = not_open a.0
  aborts_own _ rest a = absurd a.0

  -- records to be staged
  module _ (records : Records) where
    abbrev stages : ParsedLine
    stages = said.Asked (request.Stage records)

    waits : (b : Bool) → wants_memory (cond b response.Staged response.TooManyStaged) ≡ false
    waits true = refl
    waits false = refl

    staged_so : (b : Bool) → state_at (record busy { staged = cond b (staged ++ records) staged }) ≡ cond b
        (record (state_at busy) { staged = staged ++ records }) (state_at busy)
    staged_so true = refl
    staged_so false = refl

-- a commit where nothing waits
module _ (begun commits runs : ℕ) (m : PlainMap) (body : List Answered) where
  abbrev ready : Where
  ready = busy begun commits runs m body []

  commits_own : (parsed_of : Reply) (rest : Trace) → After ready (step.Commit begun) parsed_of rest →
      Told ready [] (step.Commit begun) request.Commit parsed_of rest
  commits_own (reply.Committed k) rest a =
      subst (λ (x : ℕ). Told ready [] (step.Commit begun) request.Commit (reply.Committed x) rest) (sym a.0.1)
      (said_so ready [] (step.Commit begun) request.Commit (reply.Committed (commits + 1)) rest
      (record ready { commits = commits + 1; committed = left (ops_of body) m; own = None })
      (subst (λ (x : machine.State). Runs 65535 x rest) (next_committed begun commits runs m body []) a.1) refl refl
      refl
      refl)
  commits_own (reply.Refused why.NoSuchTx) rest a = not_open begun commits runs m body [] a.0
  commits_own _ rest a = absurd a.0

-- ---- MERGE and CLEAN

-- neither is said, nor changes what is said later
unsaid : (s : say.DialogueState) (own : Option (List Op)) (asked : Request) → is_upkeep (said.Asked asked) ≡ true →
    (say.answer_to s own asked ≡ None) × (say.state_asked s own asked ≡ s)
unsaid s None (request.Merge limit) e = (refl, refl)
unsaid s (Some ops) (request.Merge limit) e = (refl, refl)
unsaid s None (request.Clean range limit) e = (refl, refl)
unsaid s (Some ops) (request.Clean range limit) e = (refl, refl)
unsaid s own _ e = absurd (true≢false (sym e))

-- the session stands where it stood, and so does the machine
abbrev IsKept : Where → Step → Reply → Trace → Type 0
IsKept w s r rest = ((alone_after (alone_at w) s r, staged_after w.staged r) ≡ point_at w) ×
    Runs 65535 (machine_at w) rest

kept_up : (w : Where) (s : Step) (asked : Request) (r : Reply) (rest : Trace) → is_upkeep (said.Asked asked) ≡ true →
    is_load_line (said.Asked asked) ≡ false → IsKept w s r rest → Told w w.staged s asked r rest
kept_up w s asked r rest upkeep other kept = record {
  to = w;
  runs = kept.1;
  stands = kept.0;
  outcome = by_memory (wants_memory (Replied r)) refl;
}
  where
    said_none : (say.answer_to (state_at w) (state_at w).own asked ≡ None) ×
        (say.state_asked (state_at w) (state_at w).own asked ≡ state_at w)
    said_none = unsaid (state_at w) (state_at w).own asked upkeep

    by_memory : (b : Bool) → wants_memory (Replied r) ≡ b →
        Outcome (state_at w) (said.Asked asked) (Replied r) (state_at w)
    by_memory true e = inl (
      e,
      sym (ap (λ b. cond b (record (state_at w) { staged = [] }) (state_at w)) other),
    )
    by_memory false e = inr (
      e,
      subst (λ (o : Option Response). IsSaid o (Replied r)) (sym said_none.0) tt,
      sym said_none.1,
    )

merge_keeps : (w : Where) (limit : ℕ) (r : Reply) (rest : Trace) → After w (step.Merge limit) r rest →
    IsKept w (step.Merge limit) r rest
merge_keeps w limit (reply.Moved n run) rest a = (refl, a.1)
merge_keeps w limit reply.MergeDone rest a = (refl, a.1)
merge_keeps w limit (reply.Ended k h) rest a = (refl, a.1)
merge_keeps w limit reply.Idle rest a = (refl, a.1)
merge_keeps w limit (reply.Refused why.BadLimit) rest a = (refl, a.1)
merge_keeps w limit (reply.Refused why.NoMemory) rest a = (refl, a.1)
merge_keeps w limit _ rest a = absurd a.0

clean_keeps : (w : Where) (range : Interval) (limit : ℕ) (r : Reply) (rest : Trace) →
    After w (step.Clean range limit) r rest → IsKept w (step.Clean range limit) r rest
clean_keeps w range limit (reply.Cleaned n) rest a = (refl, a.1)
clean_keeps w range limit (reply.Refused why.BadLimit) rest a = (refl, a.1)
clean_keeps w range limit (reply.Refused why.NoMemory) rest a = (refl, a.1)
clean_keeps w range limit _ rest a = absurd a.0

merges : (w : Where) (limit : ℕ) (r : Reply) (rest : Trace) → After w (step.Merge limit) r rest →
    Told w w.staged (step.Merge limit) (request.Merge limit) r rest
merges w limit r rest a = kept_up w (step.Merge limit) (request.Merge limit) r rest refl refl
    (merge_keeps w limit r rest a)

cleans : (w : Where) (range : Interval) (limit : ℕ) (r : Reply) (rest : Trace) →
    After w (step.Clean range limit) r rest → Told w w.staged (step.Clean range limit) (request.Clean range limit) r
    rest
cleans w range limit r rest a = kept_up w (step.Clean range limit) (request.Clean range limit) r rest refl refl
    (clean_keeps w range limit r rest a)

-- ---- each line

abbrev session : Where → SessionState
session w = session_at alone_meaning (point_at w)

abbrev Line_leads : Where → ParsedLine → Type 0
Line_leads w h = (r : Response) (own rest : Trace) (at' : SessionPoint Alone) →
    AnswersAction alone_meaning (alone_at w, (session_behind_line (session w) h).staged) (action_for (session w) h) r
    own
    at' →
    Runs 65535 (machine_at w) (own ++ rest) → Leads w h r rest at'

-- with no transaction active
module _ (begun commits runs : ℕ) (m : PlainMap) (staged : Records) where
  abbrev free : Where
  free = idle begun commits runs m staged

  leads_free : (asked : Request) → Line_leads free (said.Asked asked)
  leads_free request.Begin = taken free staged step.Begin request.Begin (begins begun commits runs m staged)
  leads_free (request.Merge limit) = taken free staged (step.Merge limit) (request.Merge limit) (merges free limit)
  leads_free (request.Clean range limit) = taken free staged (step.Clean range limit) (request.Clean range limit)
      (cleans free range limit)
  leads_free request.Seen = shown free refl refl
  leads_free (request.Hold millis) = holds_alone free millis (is_hold_time millis) refl refl
  leads_free (request.Who which) = tells_alone free which refl refl
  leads_free (request.End number) = ends_alone free number refl refl
  leads_free asked = at_once free staged (said.Asked asked) response.NoTransaction refl refl refl

-- with one
module _ (begun commits runs : ℕ) (m : PlainMap) (body : List Answered) where
  leads_commit : (staged : Records) → Line_leads (busy begun commits runs m body staged) (said.Asked request.Commit)
  leads_commit [] = taken (ready begun commits runs m body) [] (step.Commit begun) request.Commit
      (commits_own begun commits runs m body)
  leads_commit (r ∷ rs) = at_once (busy begun commits runs m body (r ∷ rs)) (r ∷ rs) (said.Asked request.Commit)
      response.StillStaged refl refl refl

  module _ (staged : Records) where
    abbrev held : Where
    held = busy begun commits runs m body staged

    leads_busy : (asked : Request) → Line_leads held (said.Asked asked)
    leads_busy request.Begin = at_once held staged (said.Asked request.Begin) response.Active refl refl refl
    leads_busy (request.Do o) = taken held (staged_left staged o) (step.Do begun (with_staged staged o)) (request.Do o)
        (did begun commits runs m body staged o)
    leads_busy (request.Stage records) = at_once held (cond (may_wait staged records) (staged ++ records) staged)
        (said.Asked (request.Stage records)) (stage_response staged records)
        (waits begun commits runs m body staged records (may_wait staged records)) refl
        (staged_so begun commits runs m body staged records (may_wait staged records))
    leads_busy request.Commit = leads_commit staged
    leads_busy request.Abort = taken held staged (step.Abort begun) request.Abort
        (aborts_own begun commits runs m body staged)
    leads_busy (request.Merge limit) = taken held staged (step.Merge limit) (request.Merge limit) (merges held limit)
    leads_busy (request.Clean range limit) = taken held staged (step.Clean range limit) (request.Clean range limit)
        (cleans held range limit)
    leads_busy request.Seen = shown held refl refl
    leads_busy (request.Hold millis) = at_once held staged (said.Asked (request.Hold millis)) response.Active refl refl
        refl
    leads_busy (request.Who which) = tells_alone held which refl refl
    leads_busy (request.End number) = ends_alone held number refl refl
    leads_busy request.Quit = at_once held staged (said.Asked request.Quit) response.NoTransaction refl refl refl

leads : (begun commits runs : ℕ) (m : PlainMap) (own : Option (List Answered)) (staged : Records) (h : ParsedLine) →
    Line_leads (record { begun = begun; commits = commits; runs = runs; committed = m; own = own; staged = staged }) h
leads b c n m own staged said.TooLong = at_once _ staged said.TooLong response.TooLong refl refl refl
leads b c n m own staged (said.Faulty fault.Syntax) = at_once _ staged (said.Faulty fault.Syntax) (Faulty fault.Syntax)
    refl refl refl
leads b c n m own staged (said.Faulty fault.Range) = at_once _ staged (said.Faulty fault.Range) (Faulty fault.Range)
    refl refl refl
leads b c n m own staged (said.Faulty fault.NoMemory) = refused_line _ (said.Faulty fault.NoMemory)
leads b c n m None staged (said.Asked asked) = leads_free b c n m staged asked
leads b c n m (Some body) staged (said.Asked asked) = leads_busy b c n m body staged asked

-- ---- all lines

module _ (e : Exchange) (exchanges : List Exchange) where
  abbrev SaysNext : say.DialogueState → Bool → Type 0
  SaysNext s b = MatchBool b (SaysFrom (state_refused s (parsed e.0) e.1) exchanges)
      (IsSaid (response_due s (parsed e.0)) e.1 × SaysFrom (state_after_line s (parsed e.0)) exchanges)

  says_next : (s s' : say.DialogueState) → Outcome s (parsed e.0) e.1 s' → SaysFrom s' exchanges →
      SaysFrom s (e ∷ exchanges)
  says_next s s' (inl refused) later = subst (SaysNext s) (sym refused.0)
      (subst (λ (x : say.DialogueState). SaysFrom x exchanges) refused.1 later)
  says_next s s' (inr said_it) later = subst (SaysNext s) (sym said_it.0)
      (said_it.1, subst (λ (x : say.DialogueState). SaysFrom x exchanges) said_it.2 later)

-- the line was heard as it is, or memory was refused for its records
heard_so : (line : Line) (h : ParsedLine) → MayParse line h → (h ≡ parsed line) ⊎ (h ≡ said.Faulty fault.NoMemory)
heard_so None h is = inl is
heard_so (Some text) h may = ⊎_elim (λ same. inl (may.2 ∙ ap parsed_of same))
    (λ refused. inr (may.2 ∙ ap parsed_of refused.0)) may.1

-- and answered as is due, or room was refused for them
due_so : (s : SessionState) (h : ParsedLine) (what : Action) (here : SessionState) → IsActionFor s h what here →
    ((what ≡ action_for s h) × (here ≡ session_behind_line s h)) ⊎ ((what ≡ no_room) × (here ≡ s))
due_so s (said.Asked asked) what here (inl is) = inl is
due_so s (said.Asked asked) what here (inr refused) = inr (refused.1, refused.2)
due_so s (said.Faulty f) what here is = inl is
due_so s said.TooLong what here is = inl is

module _ (w : Where) (r : Response) (own : Trace) (at' : SessionPoint Alone) where
  abbrev Acts : Records → Action → Type 0
  Acts waiting what = AnswersAction alone_meaning (alone_at w, waiting) what r own at'

  abbrev ActsFor : ParsedLine → Type 0
  ActsFor h = Acts (session_behind_line (session w) h).staged (action_for (session w) h)

  acts_so : (what due : Action) (here s : SessionState) → (what ≡ due) × (here ≡ s) → Acts here.staged what →
      Acts s.staged due
  acts_so what due here s is acts = subst (λ (x : SessionState). Acts x.staged due) is.1
      (subst (λ (x : Action). Acts here.staged x) is.0 acts)

  leads_line : (line : Line) (h : ParsedLine) (what : Action) (waiting : Records) (rest : Trace) → MayParse line h →
      IsActionFor (session w) h what (session_at alone_meaning (alone_at w, waiting)) → Acts waiting what →
      Runs 65535 (machine_at w) (own ++ rest) → Leads w (parsed line) r rest at'
  leads_line line h what waiting rest may maybe acts run =
      let here : SessionState = session_at alone_meaning (alone_at w, waiting) in
      ⊎_elim
      (λ is.
      let due : ActsFor h = acts_so what (action_for (session w) h) here (session_behind_line (session w) h) is acts in
      ⊎_elim
      (λ (same : h ≡ parsed line). leads w.begun w.commits w.runs w.committed w.own w.staged (parsed line) r own rest
      at' (subst ActsFor same due) run)
      (λ (refused : h ≡ said.Faulty fault.NoMemory). refused_line w (parsed line) r own rest at'
      (subst ActsFor refused due) run)
      (heard_so line h may))
      (λ refused. refused_line w (parsed line) r own rest at'
      (acts_so what no_room here (session w) refused acts) run)
      (due_so (session w) h what here maybe)

-- the machine goes on, and what is said to these exchanges is said before all that is said from there
pub record GoesOn (w : Where) (exchanges : List Exchange) (rest : Trace) (new : SessionPoint Alone) : Type 0 where
  pub to : Where
  pub runs : Runs 65535 (machine_at to) rest
  pub stands : new ≡ point_at to
  pub says : (later : List Exchange) → SaysFrom (state_at to) later → SaysFrom (state_at w) (exchanges ++ later)

answers_so : (w : Where) (at at' : SessionPoint Alone) (e : Exchange) (own rest : Trace) → at ≡ point_at w →
    AnswersLine alone_meaning at e own at' → Runs 65535 (machine_at w) (own ++ rest) → Leads w (parsed e.0) e.1 rest at'
answers_so w at at' e own rest here a run =
    let b : AnswersLine alone_meaning (point_at w) e own at' =
    subst (λ (x : SessionPoint Alone). AnswersLine alone_meaning x e own at') here a in
    by_kind b
  where
    by_kind : AnswersLine alone_meaning (point_at w) e own at' → Leads w (parsed e.0) e.1 rest at'
    by_kind (inl b) = leads_line w e.1 own at' e.0 b.0 b.2.0 b.2.1 rest b.1 b.2.2 b.2.3 run
    by_kind (inr late) = absurd late.1.0

-- from where the session and the machine stand together
abbrev pub SaysSo : Between Alone
SaysSo old exchanges events new = (w : Where) (rest : Trace) → old ≡ point_at w →
    Runs 65535 (machine_at w) (events ++ rest) →
    GoesOn w exchanges rest new

pub says_so : (auto : ℕ) → HoldsOfLines alone_meaning auto SaysSo
says_so auto = record {
  stays = λ at w rest here run. record { to = w; runs = run; stands = here; says = λ later h. h };
  lines = λ old new e events a w rest here run.
      let led = answers_so w old new e events rest here a run in
      record {
        to = led.to;
        runs = led.runs;
        stands = led.stands;
        says = λ later h. says_next e later (state_at w) (state_at led.to) led.outcome h;
      };
  merges = λ old new r events m w rest here run.
      let kept = merge_keeps w auto r rest (subst (λ (es : Trace). Runs 65535 (machine_at w) (es ++ rest)) m.1 run) in
      let to : SessionPoint Alone → SessionPoint Alone =
      λ x. (alone_after x.0 (step.Merge auto) r, staged_after x.1 r) in
      record {
        to = w;
        runs = kept.1;
        stands = (λ i. (m.0 i, m.2 i)) ∙ ap to here ∙ kept.0;
        says = λ later h. h;
      };
  joins = λ a b c exchanges more events later f g w rest here run.
      let first = f w (later ++ rest) here (subst (Runs 65535 (machine_at w)) (append_assoc events later rest) run) in
      let second = g first.to rest first.stands first.runs in
      record {
        to = second.to;
        runs = second.runs;
        stands = second.stands;
        says = λ behind h. subst (SaysFrom (state_at w)) (sym (append_assoc exchanges more behind))
            (first.says (more ++ behind) (second.says behind h));
      };
}
