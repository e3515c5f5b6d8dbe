-- A transaction's lines on a plain map: some of them are refused, by those before them, and do nothing.
use Rattle.std.specs.Prelude.{length, List, [], ◌∷◌, ◌++◌, Bool, true, false, cond, filter, Option, Some, None}
use Rattle.am_record.specs.Plain.{PlainMap, fresh, answer, left_on, left}
use Rattle.am_record.specs.Asks.{lock_of, locks_of}
use Rattle.am_record.specs.Refusals.{refusal_before_lock, is_one_too_many, lock_refusal, or_else}
use Rattle.am_record.specs.declared.step.Op.{Op}
use Rattle.am_record.specs.declared.step.Reply.{Reply}
use Rattle.am_record.specs.declared.step.Reply.TheVariants.{Refused}
use Rattle.am_record.specs.declared.step.Refusal.{Refusal}

-- the refusal that is due after the operations that were answered, by nothing but these: no run is one too many
abbrev pub refusal_behind : List Op → Op → Option Refusal
refusal_behind own op =
    or_else (refusal_before_lock true (length own) false op)
    (lock_refusal None (is_one_too_many (locks_of own) (lock_of op)))

-- the operations that were answered, with one more unless it was refused
abbrev pub own_by : Option Refusal → List Op → Op → List Op
own_by None own op = own ++ op ∷ []
own_by (Some why) own op = own

abbrev pub own_behind : List Op → Op → List Op
own_behind own op = own_by (refusal_behind own op) own op

abbrev pub kept_behind : List Op → List Op → List Op
kept_behind own [] = own
kept_behind own (op ∷ ops) = kept_behind (own_behind own op) ops

-- the operations that aren't refused
abbrev pub kept_ops : List Op → List Op
kept_ops ops = kept_behind [] ops

-- what an operation is answered: its refusal, and else what the map answers to it after the others
abbrev pub reply_by : Option Refusal → Reply → Reply
reply_by None reply = reply
reply_by (Some why) reply = Refused why

abbrev pub reply_behind : List Op → PlainMap → Op → Reply
reply_behind own m op = reply_by (refusal_behind own op) (answer op (left_on own (fresh m)))

abbrev pub replies_behind : List Op → PlainMap → List Op → List Reply
replies_behind own m [] = []
replies_behind own m (op ∷ ops) = reply_behind own m op ∷ replies_behind (own_behind own op) m ops

-- what the lines are answered, and what they leave
abbrev pub replies : List Op → PlainMap → List Reply
replies ops m = replies_behind [] m ops

abbrev pub leaves : List Op → PlainMap → PlainMap
leaves ops m = left (kept_ops ops) m

-- the replies that are none of refused operations
abbrev pub is_given : Reply → Bool
is_given (Refused why) = false
is_given reply = true

abbrev pub given : List Reply → List Reply
given replies = filter is_given replies

-- the operations whose replies they are
abbrev pub given_ops : List Op → List Reply → List Op
given_ops [] replies = []
given_ops (op ∷ ops) [] = []
given_ops (op ∷ ops) (reply ∷ replies) = cond (is_given reply) (op ∷ given_ops ops replies) (given_ops ops replies)
