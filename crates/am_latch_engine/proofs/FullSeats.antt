-- No step of the store is answered that a seat is full.
use Rattle.std.proofs.Common.{◌≡◌, ◌∷◌, ◌++◌, [], ℕ, List, Bool, true, false, cond, Option, Some, None, subst, ⊎_elim}
use Rattle.std.proofs.Common.{◌⊎◌}
use Rattle.am_record.specs.declared.step.Op.{Op}
use Rattle.am_record.specs.declared.step.Op.TheVariants.{Get}
use Rattle.am_record.specs.declared.step.Step.{Step}
use Rattle.am_record.specs.declared.step.Step.TheVariants.{Do}
use Rattle.am_record.specs.declared.step.Refusal.{Refusal}
use Rattle.am_record.specs.declared.step.Refusal.TheVariants.{NoSuchTx, TooManyLocks, TooManyOps}
use Rattle.am_record.specs.declared.step.Refusal.TheVariants.{TooManyRuns, NotRising, BadLimit, NoMemory, SeatFull}
use Rattle.am_record.specs.declared.step.Reply.{Reply}
use Rattle.am_record.specs.declared.step.Reply.TheVariants.{Refused}
use Rattle.am_record.specs.Asks.{lock_of}
use Rattle.am_record.specs.Refusals.{is_one_too_many}
use Rattle.am_law_serial.specs.Trace.{Trace, Effect}
use Rattle.am_law_serial.specs.Machine.{state_at, is_full, due_early, locks_in}
use Rattle.am_law_serial.specs.Sound.{IsAnswerOf, IsBusy, FormedDo, FormedAt}
use Rattle.am_law_sound.specs.StoreState.{StoreState}
use Rattle.am_store.specs.StoreSteps.{IsSoundAt}
use Rattle.am_latch_engine.proofs.StoreAnswers.{last_event}

not_due : (a b c d e : Bool) → cond a (Some NoSuchTx)
    (cond b (Some TooManyOps) (cond c (Some NotRising) (cond d (Some BadLimit) (cond e (Some TooManyRuns) None)))) ≡
    Some
    SeatFull → ⊥
not_due true b c d e h = cc
not_due false true c d e h = cc
not_due false false true d e h = cc
not_due false false false true e h = cc
not_due false false false false true h = cc
not_due false false false false false h = cc

not_answered : (op : Op) → IsAnswerOf op (Refused SeatFull) → ⊥
not_answered (Get k) a = a
not_answered op a = a

not_done : (early : Option Refusal) (full : Bool) (op : Op) → (early ≡ Some SeatFull → ⊥) →
    FormedDo early full op (Refused SeatFull) → ⊥
not_done (Some why) full op never f = never (cc)
not_done None true op never f = ⊎_elim (λ (x : IsBusy (Refused SeatFull)). let is = x.1 in cc)
    (λ (e : Refused SeatFull ≡ Refused TooManyLocks). cc) f
not_done None false op never f =
    ⊎_elim
    (λ (x : IsBusy (Refused SeatFull)). let is = x.1 in cc)
    (λ (y : (Refused SeatFull ≡ Refused NoMemory) ⊎ IsAnswerOf op (Refused SeatFull)). ⊎_elim
    (λ (e : Refused SeatFull ≡ Refused NoMemory). cc) (λ (a : IsAnswerOf op (Refused SeatFull)). not_answered op a)
    y)
    f

not_formed : (most_runs : ℕ) (es : List Effect) (st : Step) → FormedAt most_runs es st (Refused SeatFull) → ⊥
not_formed most_runs es (Do t op) f = not_done
    (due_early (is_full most_runs (state_at es).runs (Refused SeatFull)) (state_at es) t op)
    (is_one_too_many (locks_in (state_at es).active t) (lock_of op)) op (not_due _ _ _ _ _) f
not_formed most_runs es step f = f

pub never_full_by : (h : Trace) (st : Step) (r : Reply) (p : StoreState) → IsSoundAt (h ++ (st, r) ∷ []) p →
    r ≡ Refused SeatFull → ⊥
never_full_by h st r p stands is =
    let last = last_event p.most_runs [] h st r stands.sound.sound.formed in
    not_formed p.most_runs last.0 st (subst (λ (q : Reply). FormedAt p.most_runs last.0 st q) is last.1)
