-- Room for receipts.
use Rattle.std.proofs.Common.{ℕ, ◌+◌, ◌≤◌, Option, Some, None, refl, sym, subst, arith}
use Rattle.am_record.specs.Sessions.{IsAllowed}
use Rattle.am_record.specs.declared.step.Step.{Step}
use Rattle.am_record.specs.declared.step.Step.TheVariants.{Begin, Do, Commit, Abort, Merge, Clean}
use Rattle.am_record.specs.declared.step.Reply.{Reply}
use Rattle.am_latch_engine.specs.declared.change.Change.{Change}
use Rattle.am_latch_engine.specs.Changes.{change, open_after}
use Rattle.am_latch_engine.proofs.Replies.{did_nothing}
use Rattle.am_latch.specs.Ties.{EndsTx, receipts_kept, receipts_needed, receipts_with, receipt_room}

pub enough : (n : ℕ) → n ≤ receipt_room n
enough n = omega arith

pub fewer : (m n cap : ℕ) → m ≤ n → receipt_room n ≤ cap → receipt_room m ≤ cap
fewer m n cap le room = omega arith

with_kept : (o : Option ℕ) → receipts_kept o + 1 ≤ receipts_with o
with_kept None = omega arith
with_kept (Some t) = omega arith

any_kept : (o : Option ℕ) → receipts_kept o + 1 ≤ 2
any_kept None = omega arith
any_kept (Some t) = omega arith

-- a stored receipt and what is kept after it need no more than the call asked for
pub kept_after : (o : Option ℕ) (st : Step) (r : Reply) → IsAllowed o st → EndsTx st r →
    receipts_kept (open_after o (change st r)) + 1 ≤ receipts_needed o st
kept_after o Begin r may ended = any_kept (open_after o (change Begin r))
kept_after o (Do t op) r may ended =
    subst (λ (e : Change). receipts_kept (open_after o e) + 1 ≤ receipts_with o) (sym (did_nothing t op r))
    (with_kept o)
kept_after o (Commit t) r may ended =
    subst (λ (e : Change). receipts_kept (open_after o e) + 1 ≤ 1) (sym (ended t refl)) (omega arith)
kept_after o (Abort t) r may ended =
    subst (λ (e : Change). receipts_kept (open_after o e) + 1 ≤ 1) (sym (ended t refl)) (omega arith)
kept_after o (Merge n) r may ended = with_kept o
kept_after o (Clean range n) r may ended = with_kept o
