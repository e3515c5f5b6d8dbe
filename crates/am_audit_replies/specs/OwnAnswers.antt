-- The answered operations of the active transactions of a trace, with their places in it.
use Rattle.std.specs.Prelude.{◌≡◌, ◌≢◌, ℕ, ◌==◌, map, List, [], ◌∷◌, ◌++◌, Bool, cond, Option}
use Rattle.std.specs.List.{position}
use Rattle.am_record.specs.ByNumber.{has_number, of_number}
use Rattle.am_record.specs.Plain.{Draft, answer, answers_on, left_on}
use Rattle.am_record.specs.declared.step.Op.{Op}
use Rattle.am_record.specs.declared.step.Reply.{Reply}
use Rattle.am_law_serial.specs.Trace.{Answered, ops_of, replies_of}
use Rattle.am_audit_replies.specs.declared.active.Active.{Active}
use Rattle.am_audit_replies.specs.declared.active.OwnAnswer.{OwnAnswer}
use Rattle.am_audit_replies.specs.declared.event_fault.EventFault.{EventFault}
use Rattle.am_audit_replies.specs.declared.event_fault.EventFault.TheVariants.{Answer, NoMemory}

-- an answered operation with its place in the trace
abbrev pub PlacedAnswer : Type 0
PlacedAnswer = ℕ × Answered

abbrev pub answered_of : List PlacedAnswer → List Answered
answered_of ps = map (λ (p : PlacedAnswer). p.1) ps

abbrev pub placed_answer : OwnAnswer → PlacedAnswer
placed_answer k = (k.position, (k.op, k.reply))

-- ---- the active transactions

-- a number, and the answered operations with their places
abbrev pub Listed : Type 0
Listed = ℕ × List PlacedAnswer

abbrev pub listed : Active → Listed
listed x = (x.number, map placed_answer x.own.items)

abbrev pub is_listed : List Listed → ℕ → Bool
is_listed xs t = has_number (λ (x : Listed). x.0) xs t

-- where it stands, if it is active
abbrev pub place_in : List Active → ℕ → Option ℕ
place_in all t = position (λ (x : Active). x.number == t) all

-- the operations of that transaction, none where it isn't listed
abbrev pub own_in : List Listed → ℕ → List PlacedAnswer
own_in xs t = of_number (λ (x : Listed). x.0) (λ x. x.1) [] xs t

-- one more operation of the transaction
abbrev pub with_own : ℕ → PlacedAnswer → List Listed → List Listed
with_own t p [] = []
with_own t p (x ∷ xs) = cond (x.0 == t) ((x.0, x.1 ++ p ∷ []) ∷ xs) (x ∷ with_own t p xs)

-- ---- the operations of one body

-- the replies of these operations are those that they get from the draft
abbrev pub AreAnsweredOn : List PlacedAnswer → Draft → Type 0
AreAnsweredOn own d = replies_of (answered_of own) ≡ answers_on (ops_of (answered_of own)) d

abbrev pub left_by_all : List PlacedAnswer → Draft → Draft
left_by_all own d = left_on (ops_of (answered_of own)) d

-- the operation at that place is the first whose reply isn't the one that it gets
pub record IsFirstWrong (own : List PlacedAnswer) (d : Draft) (position : ℕ) : Type 0 where
  pub earlier : List PlacedAnswer
  pub op : Op
  pub reply : Reply
  pub later : List PlacedAnswer
  pub split : own ≡ earlier ++ (position, (op, reply)) ∷ later
  pub first : AreAnsweredOn earlier d
  pub wrong : reply ≢ answer op (left_by_all earlier d)

abbrev pub IsReplayFault : List PlacedAnswer → Draft → EventFault → Type 0
IsReplayFault own d (Answer position) = IsFirstWrong own d position
IsReplayFault own d NoMemory = Unit {0}
IsReplayFault own d _ = ⊥
