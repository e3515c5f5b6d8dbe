-- What a step of the store does to its active transactions, and how long its reply may be.
use Rattle.std.proofs.Common.{◌≡◌, ◌⊎◌, ℕ, ◌+◌, ◌≤◌, List, [], ◌∷◌, ◌++◌, length, map, Bool, true, false, not}
use Rattle.std.proofs.Common.{cond, if◌then◌else◌, Option, Some, None, refl, sym, ap, ◌∙◌, subst, ⊎_elim, arith}
use Rattle.std.specs.Prelude.{nat_le}
use Rattle.std.proofs.lemmas.Bool.{and_parts, not-false}
use Rattle.std.proofs.lemmas.List.{map-append}
use Rattle.am_record.specs.declared.step.Op.{Op}
use Rattle.am_record.specs.declared.step.Op.TheVariants.{Get, Scan, ScanBack}
use Rattle.am_record.specs.declared.step.Step.{Step}
use Rattle.am_record.specs.declared.step.Step.TheVariants.{Begin, Do, Commit, Abort, Merge, Clean}
use Rattle.am_record.specs.declared.step.Refusal.{Refusal}
use Rattle.am_record.specs.declared.step.Refusal.TheVariants.{NoSuchTx, Busy, TooManyTx, TooManyLocks, TooManyOps}
use Rattle.am_record.specs.declared.step.Refusal.TheVariants.{TooManyRuns, NotRising, BadLimit, NoMemory, SeatFull}
use Rattle.am_record.specs.declared.step.Reply.{Reply}
use Rattle.am_record.specs.declared.step.Reply.TheVariants.{Begun, Done, Found, Absent, Rows, Exists, Missing, Deleted}
use Rattle.am_record.specs.declared.step.Reply.TheVariants.{Committed, Aborted, Moved, MergeDone, Ended, Idle, Cleaned}
use Rattle.am_record.specs.declared.step.Reply.TheVariants.{NoMark, Refused}
use Rattle.am_store_undo.specs.declared.note.Note.{Note}
use Rattle.am_law_serial.specs.Trace.{Trace, Effect}
use Rattle.am_law_serial.specs.Trace as serial
use Rattle.am_record.specs.Refusals.{is_bounded, is_one_too_many}
use Rattle.am_law_serial.specs.Machine.{state_at, is_full, due_early, locks_in}
use Rattle.am_law_serial.specs.Sound.{IsAnswerOf, IsBusy, FormedDo, FormedAt, EachEvent}
use Rattle.am_record.specs.Asks.{lock_of}
use Rattle.am_law_sound.specs.StoreState.{Active, StoreState, MayAnswer, IsFit, state_after, with_op, without_tx, is_in}
use Rattle.am_law_sound.specs.StoreState.{newcomer}
use Rattle.am_record.specs.ByNumber.{with_changed, without_number}
use Rattle.am_record.proofs.ByNumber.{has_number-map, numbers-with_changed, without_number-map}
use Rattle.am_store.specs.StoreSteps.{IsSoundAt, Extends, IsWithin}
use Rattle.am_latch_engine.specs.declared.change.Change.TheVariants.{Ends, Nothing}
use Rattle.am_latch_engine.specs.Changes.{change, end_of, room_of, count_rows, moves_in, has, numbers_with}
use Rattle.am_latch_engine.specs.Changes.{active_from, numbers_active, HasTrace, MayFollow, IsBoundedReply, GoesOnWith}
use Rattle.am_latch_engine.proofs.Replies.{why_refused, did_nothing}
use Rattle.am_latch_engine.proofs.FittingReplies.{fits_formed}

pub active_from-snoc : (ts : List ℕ) (h : Trace) (p : Step × Reply) → active_from ts (h ++ p ∷ []) ≡ numbers_with
    (active_from ts h) (change p.0 p.1)
active_from-snoc ts [] p = refl
active_from-snoc ts (q ∷ qs) p = active_from-snoc (numbers_with ts (change q.0 q.1)) qs p

-- ---- the numbers of the active transactions

has_is_in : (t : ℕ) (xs : List Active) → has t (map (λ (x : Active). x.number) xs) ≡ is_in xs t
has_is_in t xs = has_number-map (λ (x : Active). x.number) (λ u. u) (λ x. x.number) (λ x. refl) xs t

did_numbers : (t : ℕ) (op : Op) (r : Reply) (new : List Note) (xs : List Active) →
    map (λ (x : Active). x.number) (with_changed (λ x. x.number) (with_op op r new) t xs) ≡ map (λ x. x.number) xs
did_numbers t op r new = numbers-with_changed (λ x. x.number) (with_op op r new) t (λ x. refl)

ended_numbers : (t : ℕ) (xs : List Active) → map (λ (x : Active). x.number) (without_tx t xs) ≡ without_number (λ u. u)
    t (map (λ (x : Active). x.number) xs)
ended_numbers t xs = sym (without_number-map (λ (x : Active). x.number) (λ u. u) (λ x. x.number) (λ x. refl) t xs)

numbers_after : (p : StoreState) (st : Step) (r : Reply) → numbers_active (state_after p st r) ≡ numbers_with
    (numbers_active p) (change st r)
numbers_after p Begin (Begun t) = map-append (λ (x : Active). x.number) p.active (newcomer t ∷ [])
numbers_after p (Do u op) (Refused why) = refl
numbers_after p (Do u op) reply = did_numbers u op reply _ p.active
numbers_after p (Commit u) (Committed c) = ended_numbers u p.active
numbers_after p (Abort u) Aborted = ended_numbers u p.active
numbers_after p (Merge limit) reply = refl
numbers_after p (Clean range limit) reply = refl
numbers_after p step reply = refl

-- ---- what begins and what ends

no_end : (ts : List ℕ) (st : Step) (r : Reply) → change st r ≡ Nothing → end_of st ≡ None → MayFollow ts st r
no_end ts st r nothing none = record {
  begins = λ t e. absurd (cc);
  ends = λ t e. absurd (cc);
  ended = λ t e h. absurd (cc);
  unknown = λ t e h. absurd (cc);
}

is_new : (p : StoreState) (t : ℕ) (b : Bool) → has t (numbers_active p) ≡ b → IsFit p → t ≡ p.begun + 1 →
    has t (numbers_active p) ≡ false
is_new p t true is fit new = let old = fit.begun t (sym (has_is_in t p.active) ∙ is) in absurd (omega (arith, old, new))
is_new p t false is fit new = is

does_end : (p : StoreState) (st : Step) (r : Reply) (u : ℕ) → end_of st ≡ Some u → change st r ≡ Ends u →
    is_in p.active u ≡ true → MayFollow (numbers_active p) st r
does_end p st r u end is on = record {
  begins = λ t e. absurd (cc);
  ends = λ t e. let same : u ≡ t = cc in subst (λ (n : ℕ). has n (numbers_active p) ≡ true) same
      (has_is_in u p.active ∙ on);
  ended = λ t e h. let same : u ≡ t = cc in is ∙ ap (λ (n : ℕ). Ends n) same;
  unknown = λ t e h. let same : u ≡ t = cc in let there = subst (λ (n : ℕ). has n (numbers_active p) ≡ true) same
      (has_is_in u p.active ∙ on) in absurd (cc);
}

is_unknown : (p : StoreState) (st : Step) (why : Refusal) (u : ℕ) → end_of st ≡ Some u →
    change st (Refused why) ≡ Nothing → is_in p.active u ≡ false → MayFollow (numbers_active p) st (Refused why)
is_unknown p st why u end is off = record {
  begins = λ t e. absurd (cc);
  ends = λ t e. absurd (cc);
  ended = λ t e h. let same : u ≡ t = cc in let none = subst (λ (n : ℕ). has n (numbers_active p) ≡ false) same
      (has_is_in u p.active ∙ off) in absurd (cc);
  unknown = λ t e h. refl;
}

answers_of : (p : StoreState) (st : Step) (r : Reply) → IsFit p → MayAnswer p st r → MayFollow (numbers_active p) st r
answers_of p Begin (Begun u) fit may = record {
  begins = λ t e. let same : u ≡ t = cc in subst (λ (n : ℕ). has n (numbers_active p) ≡ false) same
      (is_new p u (has u (numbers_active p)) refl fit may.0);
  ends = λ t e. absurd (cc);
  ended = λ t e h. absurd (cc);
  unknown = λ t e h. absurd (cc);
}
answers_of p Begin Done fit may = no_end _ _ _ refl refl
answers_of p Begin (Found v) fit may = no_end _ _ _ refl refl
answers_of p Begin Absent fit may = no_end _ _ _ refl refl
answers_of p Begin (Rows rows) fit may = no_end _ _ _ refl refl
answers_of p Begin (Exists k) fit may = no_end _ _ _ refl refl
answers_of p Begin Missing fit may = no_end _ _ _ refl refl
answers_of p Begin (Deleted n) fit may = no_end _ _ _ refl refl
answers_of p Begin (Committed c) fit may = no_end _ _ _ refl refl
answers_of p Begin Aborted fit may = no_end _ _ _ refl refl
answers_of p Begin (Moved n run) fit may = no_end _ _ _ refl refl
answers_of p Begin MergeDone fit may = no_end _ _ _ refl refl
answers_of p Begin (Ended k by) fit may = no_end _ _ _ refl refl
answers_of p Begin Idle fit may = no_end _ _ _ refl refl
answers_of p Begin (Cleaned n) fit may = no_end _ _ _ refl refl
answers_of p Begin NoMark fit may = no_end _ _ _ refl refl
answers_of p Begin (Refused why) fit may = no_end _ _ _ refl refl
answers_of p (Do u op) r fit may = no_end _ _ _ (did_nothing u op r) refl
answers_of p (Commit u) (Begun t) fit may = absurd may
answers_of p (Commit u) Done fit may = absurd may
answers_of p (Commit u) (Found v) fit may = absurd may
answers_of p (Commit u) Absent fit may = absurd may
answers_of p (Commit u) (Rows rows) fit may = absurd may
answers_of p (Commit u) (Exists k) fit may = absurd may
answers_of p (Commit u) Missing fit may = absurd may
answers_of p (Commit u) (Deleted n) fit may = absurd may
answers_of p (Commit u) (Committed c) fit may = does_end p _ _ u refl refl may.0
answers_of p (Commit u) Aborted fit may = absurd may
answers_of p (Commit u) (Moved n run) fit may = absurd may
answers_of p (Commit u) MergeDone fit may = absurd may
answers_of p (Commit u) (Ended k by) fit may = absurd may
answers_of p (Commit u) Idle fit may = absurd may
answers_of p (Commit u) (Cleaned n) fit may = absurd may
answers_of p (Commit u) NoMark fit may = absurd may
answers_of p (Commit u) (Refused NoSuchTx) fit may = is_unknown p _ _ u refl refl may
answers_of p (Commit u) (Refused (Busy h)) fit may = absurd may
answers_of p (Commit u) (Refused TooManyTx) fit may = absurd may
answers_of p (Commit u) (Refused TooManyLocks) fit may = absurd may
answers_of p (Commit u) (Refused TooManyOps) fit may = absurd may
answers_of p (Commit u) (Refused TooManyRuns) fit may = absurd may
answers_of p (Commit u) (Refused NotRising) fit may = absurd may
answers_of p (Commit u) (Refused BadLimit) fit may = absurd may
answers_of p (Commit u) (Refused NoMemory) fit may = absurd may
answers_of p (Commit u) (Refused SeatFull) fit may = absurd may
answers_of p (Abort u) (Begun t) fit may = absurd may
answers_of p (Abort u) Done fit may = absurd may
answers_of p (Abort u) (Found v) fit may = absurd may
answers_of p (Abort u) Absent fit may = absurd may
answers_of p (Abort u) (Rows rows) fit may = absurd may
answers_of p (Abort u) (Exists k) fit may = absurd may
answers_of p (Abort u) Missing fit may = absurd may
answers_of p (Abort u) (Deleted n) fit may = absurd may
answers_of p (Abort u) (Committed c) fit may = absurd may
answers_of p (Abort u) Aborted fit may = does_end p _ _ u refl refl may
answers_of p (Abort u) (Moved n run) fit may = absurd may
answers_of p (Abort u) MergeDone fit may = absurd may
answers_of p (Abort u) (Ended k by) fit may = absurd may
answers_of p (Abort u) Idle fit may = absurd may
answers_of p (Abort u) (Cleaned n) fit may = absurd may
answers_of p (Abort u) NoMark fit may = absurd may
answers_of p (Abort u) (Refused NoSuchTx) fit may = is_unknown p _ _ u refl refl may
answers_of p (Abort u) (Refused (Busy h)) fit may = absurd may
answers_of p (Abort u) (Refused TooManyTx) fit may = absurd may
answers_of p (Abort u) (Refused TooManyLocks) fit may = absurd may
answers_of p (Abort u) (Refused TooManyOps) fit may = absurd may
answers_of p (Abort u) (Refused TooManyRuns) fit may = absurd may
answers_of p (Abort u) (Refused NotRising) fit may = absurd may
answers_of p (Abort u) (Refused BadLimit) fit may = absurd may
answers_of p (Abort u) (Refused NoMemory) fit may = absurd may
answers_of p (Abort u) (Refused SeatFull) fit may = absurd may
answers_of p (Merge limit) r fit may = no_end _ _ _ refl refl
answers_of p (Clean range limit) r fit may = no_end _ _ _ refl refl

-- ---- how long a reply may be

none_of_first : (b : Bool) (why : Refusal) (rest : Option Refusal) → cond b (Some why) rest ≡ None → (b ≡ false) ×
    (rest ≡ None)
none_of_first true why rest e = absurd (cc)
none_of_first false why rest e = (refl, e)

bounded_early : (full : Bool) (es : List Effect) (t : ℕ) (op : Op) → due_early full (state_at es) t op ≡ None →
    is_bounded op ≡ true
bounded_early full es t op e =
    let active = none_of_first _ NoSuchTx _ e in
    let few = none_of_first _ TooManyOps _ active.1 in
    let rising = none_of_first _ NotRising _ few.1 in
    not-false (is_bounded op) (none_of_first (not (is_bounded op)) BadLimit _ rising.1).0

room_within : (b : Bool) (n max : ℕ) → b ≡ true → n ≤ max → n ≤ (if b then max else 0)
room_within true n max is le = le
room_within false n max is le = absurd (cc)

rows_answered : (t : ℕ) (op : Op) (r : Reply) → IsAnswerOf op r → is_bounded op ≡ true → IsWithin (Do t op) r →
    count_rows r ≤ room_of (Do t op)
rows_answered t (Scan range max) (Rows rows) a b w = room_within (nat_le max 1000) (length rows) max
    (and_parts (nat_le 1 max) (nat_le max 1000) b).1 w
rows_answered t (ScanBack range max) (Rows rows) a b w = room_within (nat_le max 1000) (length rows) max
    (and_parts (nat_le 1 max) (nat_le max 1000) b).1 w
rows_answered t op (Rows rows) a b w = absurd a
rows_answered t op reply a b w = omega arith

refused_rows : (t : ℕ) (op : Op) (r : Reply) (why : Refusal) → r ≡ Refused why → count_rows r ≤ room_of (Do t op)
refused_rows t op r why e = subst (λ (q : Reply). count_rows q ≤ room_of (Do t op)) (sym e) (omega arith)

rows_formed : (early : Option Refusal) (full : Bool) (t : ℕ) (op : Op) (r : Reply) → FormedDo early full op r →
    (early ≡ None → is_bounded op ≡ true) → IsWithin (Do t op) r → count_rows r ≤ room_of (Do t op)
rows_formed (Some why) full t op r f b w = refused_rows t op r why f
rows_formed None true t op r f b w = ⊎_elim (λ (x : IsBusy r). refused_rows t op r (Busy x.0) x.1)
    (λ (e : r ≡ Refused TooManyLocks). refused_rows t op r TooManyLocks e) f
rows_formed None false t op r f b w =
    ⊎_elim
    (λ (x : IsBusy r). refused_rows t op r (Busy x.0) x.1)
    (λ (y : (r ≡ Refused NoMemory) ⊎ IsAnswerOf op r). ⊎_elim
    (λ (e : r ≡ Refused NoMemory). refused_rows t op r NoMemory e)
    (λ (a : IsAnswerOf op r). rows_answered t op r a (b refl) w) y)
    f

rows_within : (most_runs : ℕ) (es : List Effect) (st : Step) (r : Reply) → FormedAt most_runs es st r →
    IsWithin st r → count_rows r ≤ room_of st
rows_within most_runs es (Do t op) r f w = rows_formed
    (due_early (is_full most_runs (state_at es).runs r) (state_at es) t op)
    (is_one_too_many (locks_in (state_at es).active t) (lock_of op)) t op r f
    (bounded_early (is_full most_runs (state_at es).runs r) es t op) w
rows_within most_runs es Begin (Rows rows') f w = absurd f
rows_within most_runs es step (Rows rows') f w = absurd f
rows_within most_runs es step reply f w = omega arith

moves_answered : (op : Op) (r : Reply) → IsAnswerOf op r → moves_in r ≤ 64
moves_answered (Get k) (Moved n run) a = absurd a
moves_answered op (Moved n run) a = absurd a
moves_answered op reply a = omega arith

refused_moves : (r : Reply) (why : Refusal) → r ≡ Refused why → moves_in r ≤ 64
refused_moves r why e = subst (λ (q : Reply). moves_in q ≤ 64) (sym e) (omega arith)

moves_formed : (early : Option Refusal) (full : Bool) (op : Op) (r : Reply) → FormedDo early full op r → moves_in r ≤ 64
moves_formed (Some why) full op r f = refused_moves r why f
moves_formed None true op r f = ⊎_elim (λ (x : IsBusy r). refused_moves r (Busy x.0) x.1)
    (λ (e : r ≡ Refused TooManyLocks). refused_moves r TooManyLocks e) f
moves_formed None false op r f =
    ⊎_elim
    (λ (x : IsBusy r). refused_moves r (Busy x.0) x.1)
    (λ (y : (r ≡ Refused NoMemory) ⊎ IsAnswerOf op r). ⊎_elim (λ (e : r ≡ Refused NoMemory). refused_moves r NoMemory e)
    (λ (a : IsAnswerOf op r). moves_answered op r a) y)
    f

moves_within : (most_runs : ℕ) (es : List Effect) (st : Step) (r : Reply) → FormedAt most_runs es st r →
    IsWithin st r → moves_in r ≤ 64
moves_within most_runs es (Do t op) r f w = moves_formed
    (due_early (is_full most_runs (state_at es).runs r) (state_at es) t op)
    (is_one_too_many (locks_in (state_at es).active t) (lock_of op)) op r f
moves_within most_runs es (Merge limit) (Moved n' run') f w = w
moves_within most_runs es step (Moved n' run') f w = absurd f
moves_within most_runs es step reply f w = omega arith

pub last_event : (most_runs : ℕ) (es : List Effect) (h : Trace) (st : Step) (r : Reply) →
    EachEvent (FormedAt most_runs) es (h ++ (st, r) ∷ []) → (fs : List Effect) × FormedAt most_runs fs st r
last_event most_runs es [] st r each = (es, each.0)
last_event most_runs es (e ∷ h) st r each = last_event most_runs (es ++ serial.effect e.0 e.1 ∷ []) h st r each.1

-- ---- a step of the store

pub is_bounded_by : (h : Trace) (st : Step) (r : Reply) (p : StoreState) → IsSoundAt (h ++ (st, r) ∷ []) p →
    IsWithin st r → IsBoundedReply st r
is_bounded_by h st r p stands within =
    let last = last_event p.most_runs [] h st r stands.sound.sound.formed in
    record {
      fits = fits_formed p.most_runs last.0 st r last.1;
      rows = rows_within p.most_runs last.0 st r last.1 within;
      moves = moves_within p.most_runs last.0 st r last.1 within;
    }

pub goes : (h : Trace) (p p' : StoreState) (st : Step) (r : Reply) → HasTrace h p → IsFit p → MayAnswer p st r →
    p' ≡ state_after p st r → ((why : Refusal) → r ≡ Refused why → p' ≡ p) → Extends p ((st, r) ∷ []) p' →
    GoesOnWith h st r p'
goes h p p' st r has fit may step same on = record {
  here = record {
    stands = on.on h has.stands.at;
    active = ap numbers_active step ∙ numbers_after p st r ∙ ap (λ ts. numbers_with ts (change st r)) has.active ∙
        sym (active_from-snoc [] h (st, r));
  };
  refused = λ no. let w = why_refused r no in subst (HasTrace h) (sym (same w.0 w.1)) has;
  answers = subst (λ (ts : List ℕ). MayFollow ts st r) has.active (answers_of p st r fit may);
}

pub opens : (p : StoreState) → p.active ≡ [] → IsSoundAt [] p → HasTrace [] p
opens p none stands = record {
  stands = stands;
  active = ap (λ l. map (λ (x : Active). x.number) l) none;
}
