-- Steps and replies, case by case.
use Rattle.std.proofs.Common.{◌≡◌, ℕ, true, Some, None, refl}
use Rattle.am_record.specs.declared.step.Op.{Op}
use Rattle.am_record.specs.declared.step.Step.{Step}
use Rattle.am_record.specs.declared.step.Step.TheVariants.{Begin, Do, Commit, Abort, Merge, Clean}
use Rattle.am_record.specs.declared.step.Refusal.{Refusal}
use Rattle.am_record.specs.declared.step.Reply.{Reply}
use Rattle.am_record.specs.declared.step.Reply.TheVariants.{Begun, Done, Found, Absent, Rows, Exists, Missing, Deleted}
use Rattle.am_record.specs.declared.step.Reply.TheVariants.{Committed, Aborted, Moved, MergeDone, Ended, Idle, Cleaned}
use Rattle.am_record.specs.declared.step.Reply.TheVariants.{NoMark, Refused}
use Rattle.am_latch_engine.specs.declared.change.Change.TheVariants.{Begins, Ends, Nothing}
use Rattle.am_latch_engine.specs.Changes.{change, end_of, is_begin, is_refused, room_of}

pub refused_nothing : (r : Reply) (st : Step) → is_refused r ≡ true → change st r ≡ Nothing
refused_nothing (Begun t) st h = absurd (cc)
refused_nothing (Refused why) Begin h = refl
refused_nothing (Refused why) (Do t op) h = refl
refused_nothing (Refused why) (Commit t) h = refl
refused_nothing (Refused why) (Abort t) h = refl
refused_nothing (Refused why) (Merge limit) h = refl
refused_nothing (Refused why) (Clean range limit) h = refl
refused_nothing reply st h = absurd (cc)

-- the reason of a refusal
pub why_refused : (r : Reply) → is_refused r ≡ true → (why : Refusal) × (r ≡ Refused why)
why_refused (Refused why) h = (why, refl)
why_refused reply h = absurd (cc)

-- an operation neither begins nor ends a transaction
pub did_nothing : (u : ℕ) (op : Op) (r : Reply) → change (Do u op) r ≡ Nothing
did_nothing u op (Begun t) = refl
did_nothing u op reply = refl

pub begins_begin : (st : Step) (r : Reply) (t : ℕ) → change st r ≡ Begins t → (is_begin st ≡ true) × (end_of st ≡ None)
begins_begin Begin r t e = (refl, refl)
begins_begin (Do u op) r t e = let none = did_nothing u op r in absurd (cc)
begins_begin (Commit u) (Begun t') t e = absurd (cc)
begins_begin (Commit u) Done t e = absurd (cc)
begins_begin (Commit u) (Found v') t e = absurd (cc)
begins_begin (Commit u) Absent t e = absurd (cc)
begins_begin (Commit u) (Rows rows') t e = absurd (cc)
begins_begin (Commit u) (Exists k') t e = absurd (cc)
begins_begin (Commit u) Missing t e = absurd (cc)
begins_begin (Commit u) (Deleted n') t e = absurd (cc)
begins_begin (Commit u) (Committed c') t e = absurd (cc)
begins_begin (Commit u) Aborted t e = absurd (cc)
begins_begin (Commit u) (Moved n' run') t e = absurd (cc)
begins_begin (Commit u) MergeDone t e = absurd (cc)
begins_begin (Commit u) (Ended k' h') t e = absurd (cc)
begins_begin (Commit u) Idle t e = absurd (cc)
begins_begin (Commit u) (Cleaned n') t e = absurd (cc)
begins_begin (Commit u) NoMark t e = absurd (cc)
begins_begin (Commit u) (Refused why') t e = absurd (cc)
begins_begin (Abort u) (Begun t') t e = absurd (cc)
begins_begin (Abort u) Done t e = absurd (cc)
begins_begin (Abort u) (Found v') t e = absurd (cc)
begins_begin (Abort u) Absent t e = absurd (cc)
begins_begin (Abort u) (Rows rows') t e = absurd (cc)
begins_begin (Abort u) (Exists k') t e = absurd (cc)
begins_begin (Abort u) Missing t e = absurd (cc)
begins_begin (Abort u) (Deleted n') t e = absurd (cc)
begins_begin (Abort u) (Committed c') t e = absurd (cc)
begins_begin (Abort u) Aborted t e = absurd (cc)
begins_begin (Abort u) (Moved n' run') t e = absurd (cc)
begins_begin (Abort u) MergeDone t e = absurd (cc)
begins_begin (Abort u) (Ended k' h') t e = absurd (cc)
begins_begin (Abort u) Idle t e = absurd (cc)
begins_begin (Abort u) (Cleaned n') t e = absurd (cc)
begins_begin (Abort u) NoMark t e = absurd (cc)
begins_begin (Abort u) (Refused why') t e = absurd (cc)
begins_begin (Merge n) r t e = absurd (cc)
begins_begin (Clean range n) r t e = absurd (cc)

pub ends_end : (r : Reply) (st : Step) (t : ℕ) → change st r ≡ Ends t → end_of st ≡ Some t
ends_end (Begun t') Begin t e = absurd (cc)
ends_end Done Begin t e = absurd (cc)
ends_end (Found v') Begin t e = absurd (cc)
ends_end Absent Begin t e = absurd (cc)
ends_end (Rows rows') Begin t e = absurd (cc)
ends_end (Exists k') Begin t e = absurd (cc)
ends_end Missing Begin t e = absurd (cc)
ends_end (Deleted n') Begin t e = absurd (cc)
ends_end (Committed c') Begin t e = absurd (cc)
ends_end Aborted Begin t e = absurd (cc)
ends_end (Moved n' run') Begin t e = absurd (cc)
ends_end MergeDone Begin t e = absurd (cc)
ends_end (Ended k' h') Begin t e = absurd (cc)
ends_end Idle Begin t e = absurd (cc)
ends_end (Cleaned n') Begin t e = absurd (cc)
ends_end NoMark Begin t e = absurd (cc)
ends_end (Refused why') Begin t e = absurd (cc)
ends_end r (Do u op) t e = let none = did_nothing u op r in absurd (cc)
ends_end (Committed c') (Commit u) t e = cc
ends_end Aborted (Commit u) t e = absurd (cc)
ends_end (Committed c') (Abort u) t e = absurd (cc)
ends_end Aborted (Abort u) t e = cc
ends_end r (Merge n) t e = absurd (cc)
ends_end r (Clean range n) t e = absurd (cc)
ends_end (Begun t') step t e = absurd (cc)
ends_end Done step t e = absurd (cc)
ends_end (Found v') step t e = absurd (cc)
ends_end Absent step t e = absurd (cc)
ends_end (Rows rows') step t e = absurd (cc)
ends_end (Exists k') step t e = absurd (cc)
ends_end Missing step t e = absurd (cc)
ends_end (Deleted n') step t e = absurd (cc)
ends_end (Moved n' run') step t e = absurd (cc)
ends_end MergeDone step t e = absurd (cc)
ends_end (Ended k' h') step t e = absurd (cc)
ends_end Idle step t e = absurd (cc)
ends_end (Cleaned n') step t e = absurd (cc)
ends_end NoMark step t e = absurd (cc)
ends_end (Refused why') step t e = absurd (cc)

-- a step that is to end a transaction has no lists
pub end_room : (st : Step) (t : ℕ) → end_of st ≡ Some t → room_of st ≡ 0
end_room (Commit u) t e = refl
end_room (Abort u) t e = refl
end_room step t e = absurd (cc)
