-- So long as there is room for runs, an operation is refused by those before it alone.
use Rattle.std.proofs.Common.{◌≡◌, ℕ, ◌+◌, ◌≤◌, nat_le, Bool, true, false, ◌&&◌, not, cond, Option}
use Rattle.std.proofs.Common.{Some, None, refl, sym, ap, ◌∙◌, arith}
use Rattle.std.proofs.Math.Bool.{and-false}
use Rattle.std.proofs.lemmas.Bool.{cond_both, lt-leb}
use Rattle.am_record.specs.Limits.{max_ops, max_runs}
use Rattle.am_record.specs.Plain.{PlainMap, is_orderly, has_new}
use Rattle.am_record.specs.Refusals.{refusal_before_lock, is_bounded, may_make_run}
use Rattle.am_record.specs.declared.step.Op.{Op}
use Rattle.am_record.specs.declared.step.Op.TheVariants.{Load, Put}
use Rattle.am_record.specs.declared.step.Reply.{Reply}
use Rattle.am_record.specs.declared.step.Reply.TheVariants.{Done}
use Rattle.am_record.specs.declared.step.Refusal.{Refusal}
use Rattle.am_record.specs.declared.step.Refusal.TheVariants.{TooManyOps, NotRising, BadLimit, TooManyRuns}
use Rattle.am_law_serial.specs.Trace.{runs_made}

-- the refusal, by whether the runs are all made
abbrev refusal_by : ℕ → Op → Bool → Option Refusal
refusal_by n op full =
    cond (nat_le max_ops n) (Some TooManyOps)
    (cond (not (is_orderly op)) (Some NotRising)
    (cond (not (is_bounded op)) (Some BadLimit)
    (cond full (Some TooManyRuns)
    None)))

pub same_refusal : (n runs : ℕ) (op : Op) → (may_make_run op && nat_le max_runs runs) ≡ false
    → refusal_before_lock true n (nat_le max_runs runs) op ≡ refusal_before_lock true n false op
same_refusal n runs op room = ap (refusal_by n op) room ∙ sym (ap (refusal_by n op) (and-false (may_make_run op)))

has_room : (load : Bool) (runs more : ℕ) → runs + (cond load 1 0 + more) ≤ max_runs →
    (load && nat_le max_runs runs) ≡ false
has_room true runs more room = lt-leb max_runs runs (omega (arith, room))
has_room false runs more room = refl

pub room_for : (op : Op) (runs more : ℕ) → runs + (cond (may_make_run op) 1 0 + more) ≤ max_runs →
    (may_make_run op && nat_le max_runs runs) ≡ false
room_for op runs more room = has_room (may_make_run op) runs more room

pub made_few : (m : PlainMap) (op : Op) (reply : Reply) → runs_made m op reply ≤ cond (may_make_run op) 1 0
made_few m (Load pairs) Done = omega arith
made_few m (Load pairs) reply = omega arith
made_few m (Put pairs) Done = cond_both (has_new pairs m) 1 0 (λ n. n ≤ 1) (λ _. omega arith) (λ _. omega arith)
made_few m (Put pairs) reply = omega arith
made_few m op reply = omega arith
