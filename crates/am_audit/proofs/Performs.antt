-- Operations and commits that the audit takes.
use Rattle.std.proofs.Common.{◌≡◌, ℕ, ◌+◌, ◌<◌, List, length, map, Bool, true, false, cond, refl, sym, ap, ◌∙◌}
use Rattle.std.proofs.Common.{arith, subst, Option, Some, None}
use Rattle.std.specs.Prelude.{◌==◌, ◌&&◌, ◌||◌, nat_le, not, filter}
use Rattle.std.proofs.lemmas.Bool.{both_ways, cond_both, false≢true, leb-false, not-false}
use Rattle.am_record.specs.Limits.{max_ops, max_runs}
use Rattle.am_record.specs.Refusals.{may_make_run, is_bounded}
use Rattle.am_record.specs.Plain.{PlainMap, Draft, fresh, has_new, answers_on, is_orderly, left_on}
use Rattle.am_record.specs.Asks.{lock_of, with_asked}
use Rattle.am_record.specs.declared.lock.Lock.{Lock}
use Rattle.am_record.specs.declared.step.Refusal.TheVariants.{NoSuchTx, NotRising, BadLimit, TooManyOps, TooManyRuns}
use Rattle.am_record.specs.declared.step.Op.{Op}
use Rattle.am_record.specs.declared.step.Op.TheVariants.{Load, Put}
use Rattle.am_record.specs.declared.step.Step.TheVariants.{Do, Commit}
use Rattle.am_record.specs.declared.step.Reply.{Reply}
use Rattle.am_record.specs.declared.step.Reply.TheVariants.{Committed, Done, Refused}
use Rattle.am_store_locks.specs.Table.{is_owner, with_locks, without_owner as released}
use Rattle.am_law_serial.specs.Trace.{Answered, Answers, Commits, Nothing, effect, runs_made, ops_of, replies_of}
use Rattle.am_law_serial.specs.Trace.{IsAnsweredAlone}
use Rattle.am_law_serial.specs.Machine.{State, is_open, body_in, locks_in, view, is_full, due_early, May}
use Rattle.am_audit_replies.specs.declared.event_fault.EventFault.{EventFault}
use Rattle.am_audit_replies.specs.declared.event_fault.EventFault.TheVariants.{Form, Busy, Answer, NoMemory}
use Rattle.am_audit_replies.specs.declared.active.Active.{Active}
use Rattle.am_audit.specs.declared.checker.Checker.{Checker}
use Rattle.am_audit_replies.specs.OwnAnswers.{PlacedAnswer, answered_of, Listed, listed, is_listed, own_in, with_own}
use Rattle.am_audit_replies.specs.OwnAnswers.{AreAnsweredOn}
use Rattle.am_audit.specs.Progress.{Progress, HasChecked, NextIn, IsRightOf, TakesEvent, IsEventFault}
use Rattle.am_audit_replies.specs.OwnAnswers.{left_by_all, IsFirstWrong, IsReplayFault}
use Rattle.am_audit_replies.specs.Refused.{refused_of}
use Rattle.am_audit.proofs.Progresses.{stands_behind, no_answer, answers, commits}
use Rattle.am_audit.proofs.EventSteps.{takes_still, is_owned}
use Rattle.am_audit.proofs.Bodies.{body_placed, own_placed, listed_open}

-- ---- operations

or_left_false : (a b : Bool) → (a || b) ≡ false → a ≡ false
or_left_false true b h = absurd (cc)
or_left_false false b h = refl

none_of_first : {A : Type 0} (b : Bool) (x : A) (o : Option A) → cond b (Some x) o ≡ None → b ≡ false
none_of_first true x o h = absurd (cc)
none_of_first false x o h = refl

rest_of_none : {A : Type 0} (b : Bool) (x : A) (o : Option A) → cond b (Some x) o ≡ None → o ≡ None
rest_of_none true x o h = absurd (cc)
rest_of_none false x o h = h

-- what may make a run, and has no early refusal due, finds room for a run
not_full : (full : Bool) (s : State) (t : ℕ) (op : Op) → due_early full s t op ≡ None →
    (may_make_run op && full) ≡ false
not_full full s t op none =
    none_of_first (may_make_run op && full) TooManyRuns None
    (rest_of_none (not (is_bounded op)) BadLimit _
    (rest_of_none (not (is_orderly op)) NotRising _
    (rest_of_none (nat_le max_ops (length (body_in s.active t))) TooManyOps _
    (rest_of_none (not (is_open s.active t)) NoSuchTx _ none))))

-- the runs that are counted after it are as many as may be at most
pub made_fits : (most_runs runs bound : ℕ) (s : State) (t : ℕ) (m : PlainMap) (op : Op) (reply : Reply) →
    due_early (is_full most_runs runs reply) s t op ≡ None → most_runs < bound → runs < bound →
    runs + runs_made m op reply < bound
made_fits most_runs runs bound s t m (Load pairs) Done none most few =
    let less = leb-false most_runs runs (or_left_false (nat_le most_runs runs)
    (nat_le max_runs runs && false) (not_full (is_full most_runs runs Done) s t (Load pairs) none)) in
    omega (arith, less, most)
made_fits most_runs runs bound s t m (Put pairs) Done none most few =
    let less = leb-false most_runs runs (or_left_false (nat_le most_runs runs)
    (nat_le max_runs runs && false) (not_full (is_full most_runs runs Done) s t (Put pairs) none)) in
    cond_both (has_new pairs m) 1 0 (λ n. runs + n < bound) (λ _. omega (arith, less, most)) (λ _. omega (arith, few))
made_fits most_runs runs bound s t m _ _ none most few = omega (arith, few)

pub open_of_none : (full : Bool) (s : State) (t : ℕ) (op : Op) → due_early full s t op ≡ None →
    is_open s.active t ≡ true
open_of_none full s t op none = not-false (is_open s.active t)
    (none_of_first (not (is_open s.active t)) NoSuchTx _ none)

pub refusal_nothing : (t : ℕ) (op : Op) (reply : Reply) → refused_of reply ≡ true → effect (Do t op) reply ≡ Nothing
refusal_nothing t op (Refused why) h = refl
refusal_nothing t op _ h = absurd (false≢true h)

answer_effect : (t : ℕ) (op : Op) (reply : Reply) → refused_of reply ≡ false → effect (Do t op) reply ≡ Answers t op
    reply
answer_effect t op (Refused why) h = absurd (false≢true (sym h))
answer_effect t op _ h = refl

-- the same but for the locks, which are the same too
restored : (p p' : Checker) (here : Progress) → HasChecked p here → p'.begun ≡ p.begun → p'.commits ≡ p.commits →
    p'.runs ≡ p.runs → map listed p'.active.items ≡ map listed p.active.items → p'.locks ≡ p.locks →
    p'.committed ≡ p.committed → HasChecked p' here
restored p p' here h b c r a l m = record {
  begun = b ∙ h.begun;
  commits = c ∙ h.commits;
  runs = r ∙ h.runs;
  active = a ∙ h.active;
  locks = l ∙ h.locks;
  committed = m ∙ h.committed;
  ordinary = h.ordinary;
}

pub takes_refused : (most_runs : ℕ) (p p' : Checker) (here : Progress) (t : ℕ) (op : Op) (reply : Reply) →
    HasChecked p here →
    refused_of reply ≡ true → IsRightOf most_runs here.state (Do t op) reply →
    p'.begun ≡ p.begun → p'.commits ≡ p.commits → p'.runs ≡ p.runs → map listed p'.active.items ≡ map listed
    p.active.items → p'.locks ≡ p.locks → p'.committed ≡ p.committed → TakesEvent most_runs here (Do t op) reply p'
takes_refused most_runs p p' here t op reply h refused right b c r a l m = takes_still most_runs p' here (Do t op) reply
    (refusal_nothing t op reply refused) right (restored p p' here h b c r a l m)

module _ (full : Bool) (p : Checker) (here : Progress) (h : HasChecked p here) (t : ℕ) (op : Op)
    (none : due_early full here.state t op ≡ None) where
  abbrev s : State
  s = here.state

  pub takes_answer : (most_runs : ℕ) (p' : Checker) (reply : Reply) (n : ℕ) (asked : Option Lock) → n ≡ here.count →
      asked ≡ lock_of op → refused_of reply ≡ false → IsRightOf most_runs s (Do t op) reply → p'.begun ≡ p.begun →
      p'.commits ≡ p.commits → p'.runs ≡ p.runs + runs_made (view s t).map op reply →
      map listed p'.active.items ≡ with_own t
      (n, (op, reply)) (map listed p.active.items) →
      p'.locks ≡ with_locks p.locks t (with_asked (locks_in s.active t) asked) → p'.committed ≡ p.committed →
      TakesEvent most_runs here (Do t op) reply p'
  takes_answer most_runs p' reply n asked position lock answered right b c r a l m =
      let is = answer_effect t op reply answered in
      record {
        right = record { said = right; next = subst (NextIn s) (sym is) tt };
        stands = stands_behind p' here (Do t op) reply (Answers t op reply) is
            (answers p p' here.bodies s h here.count t op reply (open_of_none full s t op none) b c r
            (a ∙ ap (λ k. with_own t (k, (op, reply)) (map listed p.active.items)) position)
            (l ∙ ap (λ o. with_locks p.locks t (with_asked (locks_in s.active t) o)) lock) m);
      }

-- what the transaction sees, by its operations that are kept
pub seen_by : (p : Checker) (here : Progress) (h : HasChecked p here) (all : List Active) → all ≡ p.active.items →
    (t : ℕ) →
    is_open here.state.active t ≡ true → left_by_all (own_in (map listed all) t) p.committed ≡ view here.state t
seen_by p here h all same t on =
    (λ i. left_by_all (own_placed p here h all same t on i) (h.committed i)) ∙
    ap (λ (done : List Answered). left_on (ops_of done) (fresh here.state.committed))
    (sym (body_placed p here h all same t on))

pub stays_fresh : (p : Checker) (here : Progress) → HasChecked p here → p.committed ≡ fresh p.committed.map
stays_fresh p here h = h.committed ∙ ap (λ (d : Draft). fresh d.map) (sym h.committed)

-- the runs that are counted, as the machine counts them
pub made_by : (full : Bool) (p : Checker) (here : Progress) (h : HasChecked p here) (t : ℕ) (op : Op) (reply : Reply) →
    due_early full here.state t op ≡ None → (all : List Active) → all ≡ p.active.items → (n : ℕ) →
    n ≡ runs_made (left_by_all (own_in (map listed all) t) p.committed).map op reply →
    n ≡ runs_made (view here.state t).map op reply
made_by full p here h t op reply none all same n made = made ∙ ap (λ (d : Draft). runs_made d.map op reply)
    (seen_by p here h all same t (open_of_none full here.state t op none))

-- ---- commits

pub commit_nothing : (t : ℕ) (reply : Reply) → ((c : ℕ) → reply ≡ Committed c → ⊥) → effect (Commit t) reply ≡ Nothing
commit_nothing t (Committed c) h = absurd (h c refl)
commit_nothing t _ h = refl

abbrev MayCommit : State → ℕ → ℕ → Type 0
MayCommit s t n = (is_open s.active t ≡ true) × (n ≡ s.commits + 1)

pub may_commit_with : (most_runs : ℕ) (s : State) (t : ℕ) (reply : Reply) (n : ℕ) → reply ≡ Committed n →
    May most_runs s (Commit t) reply →
    MayCommit s t n
may_commit_with most_runs s t reply n is f = let P : Reply → Type 0 = λ r. May most_runs s (Commit t) r in subst P is f

module _ (most_runs : ℕ) (p : Checker) (here : Progress) (h : HasChecked p here) (t : ℕ) (reply : Reply) (n : ℕ)
    (is : reply ≡ Committed n)
    (formed : May most_runs here.state (Commit t) reply) where
  abbrev s1 : State
  s1 = here.state

  pub on : is_open s1.active t ≡ true
  on = (may_commit_with most_runs s1 t reply n is formed).0

  pub owner_ends : is_owner p.locks t ≡ true
  owner_ends = is_owned p here h t ∙ on

  pub listed_here : (all : List Active) → all ≡ p.active.items → is_listed (map listed all) t ≡ false → ⊥
  listed_here all same off = both_ways (is_open s1.active t) (sym (listed_open p here h all same t) ∙ off) on

  commits_effect : effect (Commit t) reply ≡ Commits t
  commits_effect = ap (effect (Commit t)) is

  module _ (all : List Active) (same : all ≡ p.active.items) (own : List PlacedAnswer)
      (found : own ≡ own_in (map listed all) t) where
    own_seen : own ≡ here.bodies t
    own_seen = found ∙ own_placed p here h all same t on

    -- the first wrong answer is a fault of the commit
    pub replay_flaw : (event_fault : EventFault) → IsReplayFault own p.committed event_fault →
        IsEventFault most_runs here (Commit t) reply event_fault
    replay_flaw (Answer position) w = record {
      t = t;
      formed = formed;
      commit = commits_effect;
      answer = subst (λ (own : List PlacedAnswer). IsFirstWrong own (fresh s1.committed) position) own_seen
          (let P : Draft → Type 0 = λ d. IsFirstWrong own d position in subst P h.committed w);
    }
    replay_flaw NoMemory w = tt
    replay_flaw Form w = absurd w
    replay_flaw Busy w = absurd w

    pub takes_commit : (p' : Checker) (left : Draft) → AreAnsweredOn own p.committed →
        left ≡ left_by_all own p.committed →
        p'.begun ≡ p.begun → p'.commits ≡ n → p'.runs ≡ p.runs → map listed p'.active.items ≡ filter
        (λ (x : Listed). not (x.0 == t)) (map listed p.active.items) → p'.locks ≡ released p.locks t →
        p'.committed ≡ fresh left.map → TakesEvent most_runs here (Commit t) reply p'
    takes_commit p' left alone is_left b c r a l m =
        let body = body_placed p here h all same t on in
        let alone' : IsAnsweredAlone (body_in s1.active t) s1.committed =
        subst (λ (done : List Answered). IsAnsweredAlone done s1.committed) (sym body)
        (subst (λ d. replies_of (answered_of (here.bodies t)) ≡ answers_on (ops_of (answered_of (here.bodies t))) d)
        h.committed
        (subst (λ (own : List PlacedAnswer). AreAnsweredOn own p.committed) own_seen alone)) in
        let view_is : left ≡ view s1 t =
        is_left ∙ (λ i. left_by_all (own_seen i) (h.committed i)) ∙
        ap (λ (done : List Answered). left_on (ops_of done) (fresh s1.committed)) (sym body) in
        record {
          right = record {
            said = record { formed = formed; busy = tt };
            next = subst (NextIn s1) (sym commits_effect) alone';
          };
          stands = stands_behind p' here (Commit t) reply (Commits t) commits_effect
              (no_answer p' here _ (Commits t) (λ u. refl) (commits p p' here.bodies s1 h t b
              (c ∙ (may_commit_with most_runs s1 t reply n is formed).1) r a l
              (m ∙ ap (λ (d : Draft). fresh d.map) view_is)));
        }
