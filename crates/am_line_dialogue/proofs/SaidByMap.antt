-- What a sound trace answers a session alone is what is said by the plain map.
use Rattle.std.proofs.Common.{◌≡◌, ℕ, ◌+◌, nat_le, length, List, [], ◌∷◌, ◌++◌, Bool, true, false, cond, not, ◌&&◌}
use Rattle.std.proofs.Common.{◌||◌, Option, Some, None, refl, sym, ap, ◌∙◌, subst}
use Rattle.std.specs.Prelude.{option_map}
use Rattle.std.proofs.lemmas.Bool.{false≢true}
use Rattle.std.proofs.lemmas.Option.{none-some, same_Some}
use Rattle.std.proofs.lemmas.List.{length-map, map-append}
use Rattle.am_record.specs.Sessions.{active_after}
use Rattle.am_record.specs.OrderedKey.{OrderedKey}
use Rattle.am_record.specs.Records.{Records}
use Rattle.std.specs.FinMap.{get, contains_key}
use Rattle.std.proofs.lemmas.Cmp.{nat_eq_equiv}
use Rattle.am_record.specs.Plain.{PlainMap, Draft, fresh, answer, found, exists_or_done, went_back, least_taken, left}
use Rattle.am_record.specs.Plain.{left_on, is_orderly}
use Rattle.am_record.specs.Asks.{lock_of, locks_of, clashes}
use Rattle.am_record.specs.declared.step.Op.{Op}
use Rattle.am_record.specs.declared.step.Op.TheVariants as op
use Rattle.am_record.specs.declared.step.Reply.{Reply}
use Rattle.am_record.specs.declared.step.Reply.TheVariants as reply
use Rattle.am_record.specs.declared.step.Refusal.{Refusal}
use Rattle.am_record.specs.declared.step.Refusal.TheVariants as why
use Rattle.am_law_serial.specs.Trace.{Answered, ops_of, Answers, Commits, Aborts, effect_of_do, runs_made}
use Rattle.am_law_serial.specs.Machine as machine
use Rattle.am_record.specs.Refusals.{refusal_before_lock, or_else, lock_refusal, is_one_too_many, is_bounded}
use Rattle.am_record.specs.Refusals.{may_make_run}
use Rattle.am_law_serial.specs.Machine.{Transaction, is_full, says_full, due, due_early, due_lock, next, view}
use Rattle.am_line_dialogue.specs.Session.{staged_after}
use Rattle.am_line_dialogue.specs.Alone.{Alone}
use Rattle.am_line_dialogue.specs.Conversation.{SessionPoint}
use Rattle.am_line_dialogue.specs.Say as say
use Rattle.am_line_dialogue.specs.Say.{refusal_due, state_did, wants_memory}
use Rattle.am_line_dialogue.specs.declared.response.Response.TheVariants.{Replied}

-- a machine with one active transaction, or none: the one that was begun last, with its answered operations; and what
-- waits in its session
pub record Where : Type 0 where
  pub begun : ℕ
  pub commits : ℕ
  pub runs : ℕ
  pub committed : PlainMap
  pub own : Option (List Answered)
  pub staged : Records

abbrev pub actives : ℕ → Option (List Answered) → List Transaction
actives begun None = []
actives begun (Some body) = (begun, body) ∷ []

abbrev pub machine_at : Where → machine.State
machine_at w = record {
  begun = w.begun;
  commits = w.commits;
  runs = w.runs;
  committed = w.committed;
  active = actives w.begun w.own;
}

abbrev pub state_at : Where → say.DialogueState
state_at w = record {
  begun = w.begun;
  commits = w.commits;
  runs = w.runs;
  committed = w.committed;
  own = option_map ops_of w.own;
  staged = w.staged;
}

-- the session alone, and the point where it stands
abbrev pub alone_at : Where → Alone
alone_at w = record { active = option_map (λ _. w.begun) w.own; commits = w.commits }

abbrev pub point_at : Where → SessionPoint Alone
point_at w = (alone_at w, w.staged)

-- ---- refusals

abbrev no_want : Refusal → Type 0
no_want w = wants_memory (Replied (reply.Refused w)) ≡ false

early_found : (a b c d : Bool) (late : Option Refusal) (w : Refusal) → ((v : Refusal) → late ≡ Some v → no_want v)
    → or_else (cond a (Some why.TooManyOps) (cond b (Some why.NotRising)
    (cond c (Some why.BadLimit) (cond d (Some why.TooManyRuns) None)))) late ≡ Some w → no_want w
early_found true b c d late w l h = subst no_want (same_Some _ _ h) refl
early_found false true c d late w l h = subst no_want (same_Some _ _ h) refl
early_found false false true d late w l h = subst no_want (same_Some _ _ h) refl
early_found false false false true late w l h = subst no_want (same_Some _ _ h) refl
early_found false false false false late w l h = l w h

late_found : (is_too_many : Bool) (w : Refusal) → lock_refusal None is_too_many ≡ Some w → no_want w
late_found true w h = subst no_want (same_Some _ _ h) refl
late_found false w h = absurd (none-some w h)

-- ---- answers

abbrev pub is_answer : Reply → Bool
is_answer reply.Done = true
is_answer (reply.Found v) = true
is_answer reply.Absent = true
is_answer (reply.Rows rows) = true
is_answer (reply.Exists k) = true
is_answer reply.Missing = true
is_answer (reply.Deleted n) = true
is_answer reply.NoMark = true
is_answer _ = false

found_answers : (v : Option (List ℕ)) → is_answer (found v) ≡ true
found_answers None = refl
found_answers (Some v) = refl

either_answers : (b : Bool) (r s : Reply) → is_answer r ≡ true → is_answer s ≡ true → is_answer (cond b r s) ≡ true
either_answers true r s h k = h
either_answers false r s h k = k

load_answers : (o : Option OrderedKey) → is_answer (exists_or_done o) ≡ true
load_answers None = refl
load_answers (Some k) = refl

back_answers : (saved : List PlainMap) → is_answer (went_back saved) ≡ true
back_answers [] = refl
back_answers (m ∷ ms) = refl

pub answer_answers : (op : Op) (d : Draft) → is_answer (answer op d) ≡ true
answer_answers (op.Get k) d = found_answers (get d.map k)
answer_answers (op.Insert k v) d = either_answers (contains_key d.map k) _ _ refl refl
answer_answers (op.Replace k v) d = either_answers (contains_key d.map k) _ _ refl refl
answer_answers (op.Delete k) d = either_answers (contains_key d.map k) _ _ refl refl
answer_answers (op.Load records) d = load_answers (least_taken records d.map)
answer_answers op.Back d = back_answers d.saved
answer_answers o d = refl

-- an answer wants no memory, is an operation of its transaction, and ends none
pub record Counts (r : Reply) : Type 0 where
  pub found : wants_memory (Replied r) ≡ false
  pub effect : (t : ℕ) (op : Op) → effect_of_do t op r ≡ Answers t op r
  pub did : (s : say.DialogueState) (ops : List Op) (op : Op) →
      state_did s ops op r ≡ record s {
        runs = s.runs + runs_made (left ops s.committed) op r;
        own = Some (ops ++ op ∷ []);
      }
  pub active : (a : Option ℕ) → active_after a r ≡ a
  pub staged : (rs : Records) → staged_after rs r ≡ rs

pub answer_counts : (r : Reply) → is_answer r ≡ true → Counts r
answer_counts reply.Done h = record {
  found = refl;
  effect = λ t op. refl;
  did = λ s ops op. refl;
  active = λ a. refl;
  staged = λ rs. refl;
}
answer_counts (reply.Found v) h = record {
  found = refl;
  effect = λ t op. refl;
  did = λ s ops op. refl;
  active = λ a. refl;
  staged = λ rs. refl;
}
answer_counts reply.Absent h = record {
  found = refl;
  effect = λ t op. refl;
  did = λ s ops op. refl;
  active = λ a. refl;
  staged = λ rs. refl;
}
answer_counts (reply.Rows rows) h = record {
  found = refl;
  effect = λ t op. refl;
  did = λ s ops op. refl;
  active = λ a. refl;
  staged = λ rs. refl;
}
answer_counts (reply.Exists k) h = record {
  found = refl;
  effect = λ t op. refl;
  did = λ s ops op. refl;
  active = λ a. refl;
  staged = λ rs. refl;
}
answer_counts reply.Missing h = record {
  found = refl;
  effect = λ t op. refl;
  did = λ s ops op. refl;
  active = λ a. refl;
  staged = λ rs. refl;
}
answer_counts (reply.Deleted n) h = record {
  found = refl;
  effect = λ t op. refl;
  did = λ s ops op. refl;
  active = λ a. refl;
  staged = λ rs. refl;
}
answer_counts reply.NoMark h = record {
  found = refl;
  effect = λ t op. refl;
  did = λ s ops op. refl;
  active = λ a. refl;
  staged = λ rs. refl;
}
answer_counts _ h = absurd (false≢true h)

module _ (begun commits runs : ℕ) (m : PlainMap) (body : List Answered) (staged : Records) where
  abbrev here : Where
  here = record { begun = begun; commits = commits; runs = runs; committed = m; own = Some body; staged = staged }

  abbrev ops : List Op
  ops = ops_of body

  pub one_view : view (machine_at here) begun ≡ left_on ops (fresh m)
  one_view = λ i. left_on (ops_of (cond (nat_eq_equiv.refl begun i) body [])) (fresh m)

  -- where as many runs may be made as may have entries, no reply says more
  enough : (a b : Bool) → (a || (a && b)) ≡ a
  enough true b = refl
  enough false b = refl

  early : (op : Op) (r : Reply) → due_early (is_full 65535 runs r) (machine_at here) begun op ≡
      refusal_before_lock true (length body) (nat_le 65535 runs) op
  early op r =
      ap (λ b. refusal_before_lock (b || false) (length (cond b body [])) (is_full 65535 runs r) op)
      (nat_eq_equiv.refl begun)
      ∙ ap (λ b. refusal_before_lock true (length body) b op) (enough (nat_le 65535 runs) (says_full r))

  late : (op : Op) → due_lock (machine_at here) begun op ≡ lock_refusal None
      (is_one_too_many (locks_of ops) (lock_of op))
  late op = ap
      (λ b. lock_refusal (cond (not b && clashes (lock_of op) (locks_of ops)) (Some begun) None)
      (is_one_too_many (locks_of (ops_of (cond b body []))) (lock_of op)))
      (nat_eq_equiv.refl begun)

  -- the refusal that the machine owes is the one that is due alone
  pub due_is : (op : Op) (r : Reply) → due (is_full 65535 runs r) (machine_at here) begun op ≡
      refusal_due (state_at here) ops op
  due_is op r =
      (λ i. or_else (early op r i) (late op i))
      ∙ ap (λ n. or_else (refusal_before_lock true n (nat_le 65535 runs) op)
      (lock_refusal None (is_one_too_many (locks_of ops) (lock_of op))))
      (sym (length-map body (λ (a : Answered). a.0)))

  -- it is never want of memory
  pub due_found : (op : Op) (w : Refusal) → refusal_due (state_at here) ops op ≡ Some w →
      wants_memory (Replied (reply.Refused w)) ≡ false
  due_found op w h =
      early_found (nat_le 4096 (length ops)) (not (is_orderly op)) (not (is_bounded op))
      (may_make_run op && nat_le 65535 runs)
      (lock_refusal None (is_one_too_many (locks_of ops) (lock_of op))) w
      (late_found (is_one_too_many (locks_of ops) (lock_of op))) h

  -- ---- steps

  pub next_did : (op : Op) (r : Reply) → next (machine_at here) (Answers begun op r) ≡ machine_at
      (record here { runs = runs + runs_made (left ops m) op r; own = Some (body ++ (op, r) ∷ []) })
  next_did op r = λ i. record (machine_at here) {
    runs = runs + runs_made (one_view i).map op r;
    active = cond (nat_eq_equiv.refl begun i) (begun, body ++ (op, r) ∷ []) (begun, body) ∷ [];
  }

  pub next_committed : next (machine_at here) (Commits begun) ≡ machine_at
      (record here { commits = commits + 1; committed = left ops m; own = None })
  next_committed = λ i. record (machine_at here) {
    commits = commits + 1;
    committed = (one_view i).map;
    active = cond (not (nat_eq_equiv.refl begun i)) ((begun, body) ∷ []) [];
  }

  pub next_aborted : next (machine_at here) (Aborts begun) ≡ machine_at (record here { own = None })
  next_aborted = λ i. record (machine_at here) {
    active = cond (not (nat_eq_equiv.refl begun i)) ((begun, body) ∷ []) [];
  }

  pub ops_did : (op : Op) (r : Reply) → ops_of (body ++ (op, r) ∷ []) ≡ ops ++ op ∷ []
  ops_did op r = map-append (λ (a : Answered). a.0) body ((op, r) ∷ [])
