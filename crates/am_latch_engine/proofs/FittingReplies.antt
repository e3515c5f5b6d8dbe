-- Which replies fit which steps.
use Rattle.std.proofs.Common.{◌≡◌, ◌⊎◌, ℕ, List, true, false, Bool, Option, Some, None, refl, sym, subst, ⊎_elim}
use Rattle.am_record.specs.declared.step.Op.{Op}
use Rattle.am_record.specs.declared.step.Op.TheVariants.{Get}
use Rattle.am_record.specs.declared.step.Step.{Step}
use Rattle.am_record.specs.declared.step.Step.TheVariants.{Begin, Do, Commit, Abort}
use Rattle.am_record.specs.declared.step.Refusal.{Refusal}
use Rattle.am_record.specs.declared.step.Refusal.TheVariants.{Busy, TooManyLocks, NoMemory}
use Rattle.am_record.specs.declared.step.Reply.{Reply}
use Rattle.am_record.specs.declared.step.Reply.TheVariants.{Begun, Committed, Aborted, Refused}
use Rattle.am_record.specs.Asks.{lock_of}
use Rattle.am_law_serial.specs.Trace.{Effect}
use Rattle.am_record.specs.Refusals.{is_one_too_many}
use Rattle.am_law_serial.specs.Machine.{state_at, is_full, due_early, locks_in}
use Rattle.am_law_serial.specs.Sound.{IsAnswerOf, IsBusy, FormedDo, FormedAt}
use Rattle.am_latch_engine.specs.Changes.{IsReplyTo}

refused_fits : (st : Step) (r : Reply) (why : Refusal) → r ≡ Refused why → IsReplyTo st r
refused_fits st r why e = subst (λ (q : Reply). IsReplyTo st q) (sym e) tt

-- no operation is answered as a Begin, a Commit or an Abort is
none_begun : (op : Op) (t : ℕ) → IsAnswerOf op (Begun t) → ⊥
none_begun (Get k) t a = a
none_begun op t a = a

none_committed : (op : Op) (c : ℕ) → IsAnswerOf op (Committed c) → ⊥
none_committed (Get k) c a = a
none_committed op c a = a

none_aborted : (op : Op) → IsAnswerOf op Aborted → ⊥
none_aborted (Get k) a = a
none_aborted op a = a

answered_fits : (st : Step) (op : Op) (r : Reply) → IsAnswerOf op r → IsReplyTo st r
answered_fits st op (Begun t) a = absurd (none_begun op t a)
answered_fits st op (Committed c) a = absurd (none_committed op c a)
answered_fits st op Aborted a = absurd (none_aborted op a)
answered_fits st op reply a = tt

do_fits : (st : Step) (early : Option Refusal) (full : Bool) (op : Op) (r : Reply) → FormedDo early full op r →
    IsReplyTo st r
do_fits st (Some why) full op r f = refused_fits st r why f
do_fits st None true op r f = ⊎_elim (λ (x : IsBusy r). refused_fits st r (Busy x.0) x.1)
    (λ (e : r ≡ Refused TooManyLocks). refused_fits st r TooManyLocks e) f
do_fits st None false op r f =
    ⊎_elim
    (λ (x : IsBusy r). refused_fits st r (Busy x.0) x.1)
    (λ (y : (r ≡ Refused NoMemory) ⊎ IsAnswerOf op r). ⊎_elim
    (λ (e : r ≡ Refused NoMemory). refused_fits st r NoMemory e) (λ (a : IsAnswerOf op r). answered_fits st op r a)
    y)
    f

pub fits_formed : (most_runs : ℕ) (es : List Effect) (st : Step) (r : Reply) → FormedAt most_runs es st r →
    IsReplyTo st r
fits_formed most_runs es (Do t op) r f = do_fits (Do t op)
    (due_early (is_full most_runs (state_at es).runs r) (state_at es) t op)
    (is_one_too_many (locks_in (state_at es).active t) (lock_of op)) op r f
fits_formed most_runs es Begin (Begun t') f = refl
fits_formed most_runs es (Commit t) (Committed c') f = (t, refl)
fits_formed most_runs es (Abort t) Aborted f = (t, refl)
fits_formed most_runs es step (Begun t') f = absurd f
fits_formed most_runs es step (Committed c') f = absurd f
fits_formed most_runs es step Aborted f = absurd f
fits_formed most_runs es step reply f = tt
