-- A body with one operation more.
use Rattle.std.proofs.Common.{◌≡◌, List, [], ◌∷◌, ◌++◌, length, take, true, false, cond, Option, Some, None, refl, ap}
use Rattle.std.proofs.Math.Seq.{take-length, take-append_seam}
use Rattle.am_record.specs.declared.lock.Lock.{Lock}
use Rattle.am_record.specs.declared.step.Op.{Op}
use Rattle.am_record.specs.Plain.{Draft, answer, draft_after, answers_on, left_on}
use Rattle.am_record.specs.Locks.{is_covered}
use Rattle.am_record.specs.Asks.{lock_of, with_asked, locks_from}

pub answers_on_push : (ops : List Op) (op : Op) (d : Draft) → answers_on (ops ++ op ∷ []) d ≡ answers_on ops d ++
    answer op (left_on ops d) ∷ []
answers_on_push [] op d = refl
answers_on_push (o ∷ ops) op d = ap (λ rs. answer o d ∷ rs) (answers_on_push ops op (draft_after o d))

pub left_on_push : (ops : List Op) (op : Op) (d : Draft) → left_on (ops ++ op ∷ []) d ≡ draft_after op (left_on ops d)
left_on_push [] op d = refl
left_on_push (o ∷ ops) op d = left_on_push ops op (draft_after o d)

pub locks_from_push : (ops : List Op) (op : Op) (locks : List Lock) → locks_from locks (ops ++ op ∷ []) ≡ with_asked
    (locks_from locks ops) (lock_of op)
locks_from_push [] op locks = refl
locks_from_push (o ∷ ops) op locks = locks_from_push ops op (with_asked locks (lock_of o))

-- a lock that is asked for stands after those that are held
pub asked_behind : (own : List Lock) (asked : Option Lock) → take (length own) (with_asked own asked) ≡ own
asked_behind own None = take-length own
asked_behind own (Some asked) = elim (is_covered own asked) as
    (λ b. take (length own) (cond b own (own ++ asked ∷ [])) ≡ own)
    [ true ↦ take-length own | false ↦ take-append_seam own (asked ∷ []) ]
