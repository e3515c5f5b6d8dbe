-- What is said line by line, in one piece.
use Rattle.std.proofs.Common.{◌≡◌, ◌⊎◌, inl, inr, List, [], ◌∷◌, Bool, true, false, cond, not, ◌&&◌, map, Option, Some}
use Rattle.std.proofs.Common.{None, refl, sym, ap, subst}
use Rattle.std.specs.Prelude.{MatchBool}
use Rattle.std.specs.List.{AllByRecursion}
use Rattle.am_record.specs.Records.{Records}
use Rattle.am_record.specs.declared.step.Op.{Op}
use Rattle.am_record.specs.declared.step.Op.TheVariants as op
use Rattle.am_record.specs.declared.step.Reply.{Reply}
use Rattle.am_record.specs.declared.step.Reply.TheVariants as reply
use Rattle.am_line_wire.specs.declared.request.Request.{Request}
use Rattle.am_line_wire.specs.declared.request.Request.TheVariants as request
use Rattle.am_line_dialogue.specs.ParsedLine.{parsed, is_upkeep, is_stage}
use Rattle.am_line_dialogue.specs.Exchanges.{Exchange}
use Rattle.am_line_dialogue.specs.Say.{DialogueState, answer_to, state_did, reply_due, state_committed, state_asked}
use Rattle.am_line_dialogue.specs.Say.{response_due, state_after_line, before, say_from, wants_memory, is_refused_load}
use Rattle.am_line_dialogue.specs.Say.{state_refused, IsSaid, SaysFrom, with_memory, without_upkeep, StagesNothing}
use Rattle.am_line_dialogue.specs.Say.{LosesNothing}
use Rattle.am_line_dialogue.specs.Actions.{with_staged, staged_left}
use Rattle.am_line_dialogue.specs.declared.lines.ParsedLine.{ParsedLine}
use Rattle.am_line_dialogue.specs.declared.lines.ParsedLine.TheVariants as said
use Rattle.am_line_dialogue.specs.declared.response.Response.{Response}

-- ---- MERGE and CLEAN alone aren't said

abbrev IsSaidOrUpkeep : ParsedLine → Option Response → Type 0
IsSaidOrUpkeep h due = ((is_upkeep h ≡ true) × (due ≡ None)) ⊎
    ((is_upkeep h ≡ false) × (said : Response) × (due ≡ Some said))

asked_is_said : (s : DialogueState) (own : Option (List Op)) (asked : Request) →
    IsSaidOrUpkeep (said.Asked asked) (answer_to s own asked)
asked_is_said s None (request.Merge limit) = inl (refl, refl)
asked_is_said s (Some ops) (request.Merge limit) = inl (refl, refl)
asked_is_said s None (request.Clean range limit) = inl (refl, refl)
asked_is_said s (Some ops) (request.Clean range limit) = inl (refl, refl)
asked_is_said s None asked = inr (refl, _, refl)
asked_is_said s (Some ops) asked = inr (refl, _, refl)

heard_is_said : (s : DialogueState) (h : ParsedLine) → IsSaidOrUpkeep h (response_due s h)
heard_is_said s said.TooLong = inr (refl, _, refl)
heard_is_said s (said.Faulty f) = inr (refl, _, refl)
heard_is_said s (said.Asked asked) = asked_is_said s s.own asked

-- ---- in one piece

abbrev AreSayFrom : DialogueState → List Exchange → Type 0
AreSayFrom s exchanges = map (λ (e : Exchange). e.1) (without_upkeep (with_memory exchanges)) ≡ say_from s
    (map (λ (e : Exchange). e.0) (with_memory exchanges))

-- each line that was refused memory left all as it was
abbrev pub Keeps : DialogueState → List Exchange → Type 0
Keeps s [] = Unit {0}
Keeps s (e ∷ exchanges) = MatchBool (wants_memory e.1) ((state_refused s (parsed e.0) e.1 ≡ s) × Keeps s exchanges)
    (Keeps (state_after_line s (parsed e.0)) exchanges)

module _ (s : DialogueState) (e : Exchange) (exchanges : List Exchange) where
  abbrev others : List Exchange
  others = with_memory exchanges

  abbrev h : ParsedLine
  h = parsed e.0

  -- by whether it is MERGE or CLEAN, and by what is said
  abbrev SaysFound : Bool → Option Response → Type 0
  SaysFound b due = map (λ (x : Exchange). x.1) (cond (not b) (e ∷ without_upkeep others) (without_upkeep others)) ≡
      before due (say_from (state_after_line s h) (map (λ (x : Exchange). x.0) others))

  found : IsSaidOrUpkeep h (response_due s h) → IsSaid (response_due s h) e.1 →
      AreSayFrom (state_after_line s h) exchanges → SaysFound (is_upkeep h) (response_due s h)
  found (inl upkeep) is later = subst (λ (b : Bool). SaysFound b (response_due s h)) (sym upkeep.0)
      (subst (SaysFound true) (sym upkeep.1) later)
  found (inr said_so) is later =
      let same : e.1 ≡ said_so.1 = subst (λ (o : Option Response). IsSaid o e.1) said_so.2 is in
      subst (λ (b : Bool). SaysFound b (response_due s h)) (sym said_so.0)
      (subst (SaysFound false) (sym said_so.2) ((λ i. same i ∷ later i)))

  -- by whether memory was refused
  abbrev SaysWhere : Bool → Type 0
  SaysWhere b = let those = cond (not b) (e ∷ others) others in map (λ (x : Exchange). x.1) (without_upkeep those) ≡
      say_from s (map (λ (x : Exchange). x.0) those)

  abbrev SaysNext : Bool → Type 0
  SaysNext b = MatchBool b (SaysFrom (state_refused s h e.1) exchanges) (IsSaid (response_due s h) e.1 ×
      SaysFrom (state_after_line s h) exchanges)

  abbrev KeepsNext : Bool → Type 0
  KeepsNext b = MatchBool b ((state_refused s h e.1 ≡ s) × Keeps s exchanges) (Keeps (state_after_line s h) exchanges)

  next : ((t : DialogueState) → SaysFrom t exchanges → Keeps t exchanges → AreSayFrom t exchanges) → (b : Bool) →
      SaysNext b → KeepsNext b → SaysWhere b
  next later true says keeps = later s (subst (λ (t : DialogueState). SaysFrom t exchanges) keeps.0 says) keeps.1
  next later false says keeps = found (heard_is_said s h) says.0 (later (state_after_line s h) says.1 keeps)

pub in_one_piece : (exchanges : List Exchange) (s : DialogueState) → SaysFrom s exchanges → Keeps s exchanges →
    AreSayFrom s exchanges
in_one_piece [] s says keeps = refl
in_one_piece (e ∷ exchanges) s says keeps = next s e exchanges (λ t says keeps. in_one_piece exchanges t says keeps)
    (wants_memory e.1) says keeps

-- ---- where no load was refused memory

loses_nothing : (s : DialogueState) (h : ParsedLine) (r : Response) → is_refused_load h r ≡ false →
    state_refused s h r ≡ s
loses_nothing s h r e = ap (λ b. cond b (record s { staged = [] }) s) e

pub loses_keeps : (exchanges : List Exchange) (s : DialogueState) → AllByRecursion LosesNothing exchanges →
    Keeps s exchanges
loses_keeps [] s all = tt
loses_keeps (e ∷ exchanges) s all = by_memory (λ t. loses_keeps exchanges t all.1) (wants_memory e.1) all.0
  where
    by_memory : ((t : DialogueState) → Keeps t exchanges) → (b : Bool) → (b && is_refused_load (parsed e.0) e.1) ≡
        false → KeepsNext s e exchanges b
    by_memory later true loses = (loses_nothing s (parsed e.0) e.1 loses, later s)
    by_memory later false loses = later (state_after_line s (parsed e.0))

-- ---- where nothing is staged

abbrev IsEmpty : DialogueState → Type 0
IsEmpty s = s.staged ≡ []

left_empty : (staged : Records) (o : Op) → staged ≡ [] → staged_left staged o ≡ []
left_empty staged (op.Load rows) e = refl
left_empty staged (op.Put rows) e = refl
left_empty staged o e = e

did_empty : (s : DialogueState) (ops : List Op) (o : Op) (r : Reply) → IsEmpty s → IsEmpty (state_did s ops o r)
did_empty s ops o (reply.Refused why) e = e
did_empty s ops o _ e = e

committed_empty : (s : DialogueState) (ops : List Op) (staged : Records) → IsEmpty s →
    IsEmpty (state_committed s ops staged)
committed_empty s ops [] e = e
committed_empty s ops (r ∷ rs) e = e

either_empty : (b : Bool) (s t : DialogueState) → IsEmpty s → IsEmpty t → IsEmpty (cond b s t)
either_empty true s t e f = e
either_empty false s t e f = f

asked_empty : (s : DialogueState) (own : Option (List Op)) (asked : Request) → is_stage (said.Asked asked) ≡ false →
    IsEmpty s → IsEmpty (state_asked s own asked)
asked_empty s None request.Begin n e = either_empty _ s _ e e
asked_empty s (Some ops) (request.Do o) n e = did_empty (record s { staged = staged_left s.staged o }) ops
    (with_staged s.staged o) (reply_due s ops (with_staged s.staged o)) (left_empty s.staged o e)
asked_empty s own (request.Stage records) n e = cc
asked_empty s (Some ops) request.Commit n e = committed_empty s ops s.staged e
asked_empty s (Some ops) request.Abort n e = refl
asked_empty s (Some ops) asked n e = e
asked_empty s None asked n e = e

heard_empty : (s : DialogueState) (h : ParsedLine) → is_stage h ≡ false → IsEmpty s → IsEmpty (state_after_line s h)
heard_empty s said.TooLong n e = e
heard_empty s (said.Faulty f) n e = e
heard_empty s (said.Asked asked) n e = asked_empty s s.own asked n e

let_go : (s : DialogueState) (b : Bool) → IsEmpty s → cond b (record s { staged = [] }) s ≡ s
let_go s true e = λ i. record s { staged = sym e i }
let_go s false e = refl

pub unstaged_keeps : (exchanges : List Exchange) (s : DialogueState) → IsEmpty s →
    AllByRecursion StagesNothing exchanges → Keeps s exchanges
unstaged_keeps [] s empty all = tt
unstaged_keeps (e ∷ exchanges) s empty all = by_memory (λ t still. unstaged_keeps exchanges t still all.1)
    (wants_memory e.1)
  where
    by_memory : ((t : DialogueState) → IsEmpty t → Keeps t exchanges) → (b : Bool) → KeepsNext s e exchanges b
    by_memory later true = (let_go s (is_refused_load (parsed e.0) e.1) empty, later s empty)
    by_memory later false = later (state_after_line s (parsed e.0)) (heard_empty s (parsed e.0) all.0 empty)
