-- The machine's state is that of its trace, and what it may do keeps the invariant.
use Rattle.std.proofs.Common.{◌≡◌, ◌≢◌, ℕ, ◌+◌, ◌<◌, List, [], ◌∷◌, ◌++◌, length, map, Bool, true, false, cond, refl}
use Rattle.std.proofs.Common.{sym}
use Rattle.std.proofs.Common.{ap, ◌∙◌, subst, ⊎_elim, ◌⊎◌, Option, Some, None, arith, append_assoc, length-append}
use Rattle.std.specs.Prelude.{◌&&◌, ◌||◌, ◌==◌, not, filter, MatchOption}
use Rattle.std.specs.FinMap.{contains_key, get, empty}
use Rattle.std.proofs.lemmas.Bool.{eq-eqb, ne_eqb, not-false}
use Rattle.std.proofs.lemmas.Cmp.{nat_eq_equiv}
use Rattle.std.proofs.lemmas.List.{append-nil, map-append}
use Rattle.std.proofs.lemmas.List.Elements.{filter-append}
use Rattle.am_record.specs.declared.step.Refusal.{Refusal}
use Rattle.am_record.specs.declared.step.Refusal.TheVariants.{NoSuchTx, TooManyTx, TooManyOps, TooManyRuns}
use Rattle.am_record.specs.declared.step.Refusal.TheVariants.{NotRising, BadLimit, NoMemory}
use Rattle.am_record.specs.declared.lock.Lock.{Lock}
use Rattle.am_record.specs.declared.step.Op.{Op}
use Rattle.am_record.specs.declared.step.Op.TheVariants.{Get, Insert, Replace, Delete, Load, Back}
use Rattle.am_record.specs.declared.step.Step.{Step}
use Rattle.am_record.specs.declared.step.Step.TheVariants.{Begin, Do, Commit, Abort}
use Rattle.am_record.specs.declared.step.Reply.{Reply}
use Rattle.am_record.specs.declared.step.Reply.TheVariants.{Done, Begun, Exists, Missing, Committed, Aborted, Refused}
use Rattle.am_record.specs.OrderedKey.{OrderedKey}
use Rattle.am_record.specs.Plain.{PlainMap, Draft, fresh, answer, left_on, is_orderly, found, exists_or_done}
use Rattle.am_record.specs.Plain.{least_taken, went_back}
use Rattle.am_record.specs.Asks.{lock_of, clashes, locks_of}
use Rattle.am_record.specs.ByNumber.{with_changed}
use Rattle.am_record.proofs.Lists.{AllByRecursion-always}
use Rattle.am_record.proofs.ByNumber.{of_number-told, with_changed-map, without_number-map}
use Rattle.am_record.proofs.Owners as owners
use Rattle.am_record.specs.Events.{Event}
use Rattle.am_law_serial.specs.Trace.{Trace, Answered, Effect, Begins, Answers, Commits, Aborts, Nothing, effect}
use Rattle.am_law_serial.specs.Trace.{effect_of_do, effects, ops_of, left_by_bodies, runs_made}
use Rattle.am_record.specs.Refusals.{may_make_run, or_else, lock_refusal}
use Rattle.am_law_serial.specs.Machine.{State, Transaction, start, is_open, locks_in, view, blocker, due_early}
use Rattle.am_law_serial.specs.Machine.{due_lock}
use Rattle.am_law_serial.specs.Machine.{is_full, due, May, extended, without_transaction, next, Runs, after_run}
use Rattle.am_law_serial.proofs.Views.{View, view_of, view_of-push, push, among, active_in, committed_in, with_body}
use Rattle.am_law_serial.proofs.Views.{seen_in, state_of, is_open-with_body, body_in-with_body}
use Rattle.am_law_serial.proofs.Serial.{Inv, MayAnswer, MayBe, push_inv, none, none_inv, same_committed_bodies}
use Rattle.am_law_serial.proofs.Serial.{commits_committed}

-- ---- the state after an event

pub after_run-push : (trace : Trace) (s : State) (e : Event) → after_run s (trace ++ e ∷ []) ≡ next (after_run s trace)
    (effect e.0 e.1)
after_run-push [] s e = refl
after_run-push (x ∷ trace) s e = after_run-push trace (next s (effect x.0 x.1)) e

pub extended-with_body : (t : ℕ) (done : Answered) (f : ℕ → List Answered) (ts : List ℕ) →
    with_changed (λ (x : Transaction). x.0) (extended done) t (map (with_body f) ts) ≡ map
    (with_body (λ u. cond (t == u) (f u ++ done ∷ []) (f u))) ts
extended-with_body t done f ts =
    let g : ℕ → List Answered = λ u. cond (t == u) (f u ++ done ∷ []) (f u) in
    with_changed-map (λ (x : Transaction). x.0) (extended done) (with_body f) (with_body g) t ts
    (AllByRecursion-always (λ u. u ≡ t → extended done (with_body f u) ≡ with_body g u)
    (λ u e i. (u, cond (sym (eq-eqb t u (sym e)) i) (f u ++ done ∷ []) (f u))) ts)
    (λ u d i. (u, cond (sym (ne_eqb t u (λ e. d (sym e))) i) (f u ++ done ∷ []) (f u)))

pub without_transaction-with_body : (t : ℕ) (f : ℕ → List Answered) (ts : List ℕ) →
    without_transaction t (map (with_body f) ts) ≡ map (with_body f) (filter (λ x. not (x == t)) ts)
without_transaction-with_body t f = without_number-map (λ u. u) (λ (x : Transaction). x.0) (with_body f) (λ x. refl) t

pub not_among_push : (ended : List ℕ) (t x : ℕ) →
    not (among (ended ++ t ∷ []) x) ≡ (not (among ended x) && not (x == t))
not_among_push [] t x = elim (t == x) as (λ b. not (b || false) ≡ not b) [ true ↦ refl | false ↦ refl ] ∙
    ap not (nat_eq_equiv.symm t x)
not_among_push (e ∷ ended) t x =
    elim (e == x) as (λ b. not (b || among (ended ++ t ∷ []) x) ≡ (not (b || among ended x) && not (x == t))) [
      | true ↦ refl
      | false ↦ not_among_push ended t x
    ]

pub filter_twice : (p q r : ℕ → Bool) → ((x : ℕ) → r x ≡ (p x && q x)) → (xs : List ℕ) →
    filter r xs ≡ filter q (filter p xs)
filter_twice p q r h [] = refl
filter_twice p q r h (x ∷ xs) =
    ap (λ b. cond b (x ∷ filter r xs) (filter r xs)) (h x)
    ∙ elim (p x) as (λ b. cond (b && q x) (x ∷ filter r xs) (filter r xs) ≡ filter q
    (cond b (x ∷ filter p xs) (filter p xs))) [
      | true ↦ ap (λ ys. cond (q x) (x ∷ ys) ys) (filter_twice p q r h xs)
      | false ↦ filter_twice p q r h xs
    ]

pub same_state : (b b' c c' r r' : ℕ) (m m' : PlainMap) (a a' : List Transaction) → b ≡ b' → c ≡ c' → r ≡ r' → m ≡ m' →
    a ≡ a' →
    ◌≡◌ {A = State} (record { begun = b; commits = c; runs = r; committed = m; active = a }) (record {
      begun = b';
      commits = c';
      runs = r';
      committed = m';
      active = a';
    })
same_state b b' c c' r r' m m' a a' pb pc pr pm pa i = record {
  begun = pb i;
  commits = pc i;
  runs = pr i;
  committed = pm i;
  active = pa i;
}

pub ended_active : (v : View) (t : ℕ) → map (with_body v.body) (active_in (push v (Aborts t))) ≡ without_transaction t
    (map (with_body v.body) (active_in v))
ended_active v t =
    ap (map (with_body v.body)) (filter_twice (λ x. not (among v.ended x)) (λ x. not (x == t))
    (λ x. not (among (v.ended ++ t ∷ []) x)) (not_among_push v.ended t) v.begun)
    ∙ sym (without_transaction-with_body t v.body (active_in v))

pub begun_active : (v : View) (t : ℕ) → among v.ended t ≡ false → v.body t ≡ [] →
    map (with_body v.body) (active_in (push v (Begins t))) ≡ map (with_body v.body) (active_in v) ++ (t, []) ∷ []
begun_active v t e none =
    ap (map (with_body v.body)) (filter-append (λ x. not (among v.ended x)) v.begun (t ∷ []) ∙
    ap (λ b. active_in v ++ cond (not b) (t ∷ []) []) e)
    ∙ map-append (with_body v.body) (active_in v) (t ∷ [])
    ∙ ap (λ (done : List Answered). map (with_body v.body) (active_in v) ++ (t, done) ∷ []) none

pub view-state_of : (v : View) (t : ℕ) → among (active_in v) t ≡ true →
    view (state_of v) t ≡ left_on (ops_of (v.body t)) (fresh (committed_in v))
view-state_of v t on = ap (λ (done : List Answered). left_on (ops_of done) (fresh (committed_in v)))
    (body_in-with_body v.body (active_in v) t on)

-- how many runs an operation makes on what the transaction sees
pub made_by : (v : View) (t : ℕ) (op : Op) (reply : Reply) → among (active_in v) t ≡ true →
    v.runs + runs_made (seen_in v t) op reply ≡ v.runs + runs_made (view (state_of v) t).map op reply
made_by v t op reply on = ap (λ (d : Draft). v.runs + runs_made d.map op reply) (sym (view-state_of v t on))

-- the machine's state after an event is that of the trace with the event
pub state_of-push : (v : View) (e : Effect) → Inv v → MayBe v e → state_of (push v e) ≡ next (state_of v) e
state_of-push v (Begins t) inv may =
    let above : length v.begun < t = omega arith in
    let fresh = inv.fresh t above in
    same_state _ _ _ _ _ _ _ _ _ _ (length-append v.begun (t ∷ [])) refl refl refl (begun_active v t fresh.1 fresh.2)
state_of-push v (Answers t op reply) inv may =
    same_state _ _ _ _ _ _ _ _ _ _ refl refl (made_by v t op reply may.active)
    (ap (λ bodies. left_by_bodies bodies empty) (same_committed_bodies v inv t op reply may.active))
    (sym (extended-with_body t (op, reply) v.body (active_in v)))
state_of-push v (Commits t) inv may =
    same_state _ _ _ _ _ _ _ _ _ _ refl (length-append v.committers (t ∷ [])) refl (commits_committed v inv t may ∙
    sym (ap (λ d. d.map) (view-state_of v t may))) (ended_active v t)
state_of-push v (Aborts t) inv may =
    same_state _ _ _ _ _ _ _ _ _ _ refl refl refl refl (ended_active v t)
state_of-push v Nothing inv may = refl

-- ---- what the machine may do

pub none_of_first : {A : Type 0} (b : Bool) (x : A) (o : Option A) → cond b (Some x) o ≡ None → (b ≡ false) × (o ≡ None)
none_of_first true x o h = absurd (cc)
none_of_first false x o h = (refl, h)

pub none_of_both : (a b : Option Refusal) → or_else a b ≡ None → (a ≡ None) × (b ≡ None)
none_of_both None b h = (refl, h)
none_of_both (Some why) b h = absurd (cc)

pub not_busy : (o : Option ℕ) (full : Bool) → lock_refusal o full ≡ None → o ≡ None
not_busy None full h = refl
not_busy (Some h') full h = absurd (cc)

pub nobody_blocks : (txs : List Transaction) (t : ℕ) (asked : Option Lock) → blocker txs t asked ≡ None → (u : ℕ) →
    is_open txs u ≡ true → u ≢ t → clashes asked (locks_in txs u) ≡ false
nobody_blocks txs t asked none u on n =
    subst (λ (ls : List Lock). clashes asked ls ≡ false)
    (sym (of_number-told (λ (x : Transaction). x.0) (λ x. x.1) [] (λ done. locks_of (ops_of done)) txs u))
    (owners.nobody_blocks (λ (x : Transaction). x.0) (λ x. locks_of (ops_of x.1)) [] txs t asked none u on n)

pub no_blocker : (f : ℕ → List Answered) (t : ℕ) (asked : Option Lock) (ts : List ℕ) →
    blocker (map (with_body f) ts) t asked ≡ None → (u : ℕ) → among ts u ≡ true → u ≢ t →
    clashes asked (locks_of (ops_of (f u))) ≡ false
no_blocker f t asked ts none u on n =
    subst (λ (done : List Answered). clashes asked (locks_of (ops_of done)) ≡ false) (body_in-with_body f ts u on)
    (nobody_blocks (map (with_body f) ts) t asked none u (is_open-with_body f ts u ∙ on) n)

-- an answer is no refusal
pub answer_is_answer : (t : ℕ) (op : Op) (d : Draft) → effect_of_do t op (answer op d) ≡ Answers t op (answer op d)
answer_is_answer t (Get k) d = at_found (get d.map k)
  where
    at_found : (o : Option (List ℕ)) → effect_of_do t (Get k) (found o) ≡ Answers t (Get k) (found o)
    at_found None = refl
    at_found (Some v) = refl
answer_is_answer t (Insert k v) d = elim (contains_key d.map k) as
    (λ b. effect_of_do t (Insert k v) (cond b (Exists k) Done) ≡ Answers t (Insert k v) (cond b (Exists k) Done))
    [ true ↦ refl | false ↦ refl ]
answer_is_answer t (Replace k v) d = elim (contains_key d.map k) as
    (λ b. effect_of_do t (Replace k v) (cond b Done Missing) ≡ Answers t (Replace k v) (cond b Done Missing))
    [ true ↦ refl | false ↦ refl ]
answer_is_answer t (Delete k) d = elim (contains_key d.map k) as
    (λ b. effect_of_do t (Delete k) (cond b Done Missing) ≡ Answers t (Delete k) (cond b Done Missing))
    [ true ↦ refl | false ↦ refl ]
answer_is_answer t (Load records) d = at_taken (least_taken records d.map)
  where
    at_taken : (taken : Option OrderedKey) → effect_of_do t (Load records) (exists_or_done taken) ≡ Answers t
        (Load records)
        (exists_or_done taken)
    at_taken None = refl
    at_taken (Some k) = refl
answer_is_answer t Back d = at_saved d.saved
  where
    at_saved : (ms : List PlainMap) → effect_of_do t Back (went_back ms) ≡ Answers t Back (went_back ms)
    at_saved [] = refl
    at_saved (m ∷ ms) = refl
answer_is_answer t op d = refl

-- the operation is granted
pub may_answer : (v : View) (t : ℕ) (op : Op) → due false (state_of v) t op ≡ None →
    MayAnswer v t op (answer op (view (state_of v) t))
may_answer v t op none_due =
    let s = state_of v in
    let both = none_of_both (due_early false s t op) (due_lock s t op) none_due in
    let open_ = none_of_first (not (is_open s.active t)) NoSuchTx _ both.0 in
    let few = none_of_first _ TooManyOps _ open_.1 in
    let rising = none_of_first (not (is_orderly op)) NotRising _ few.1 in
    let on = sym (is_open-with_body v.body (active_in v) t) ∙ not-false (is_open s.active t) open_.0 in
    record {
      active = on;
      orderly = not-false (is_orderly op) rising.0;
      free = no_blocker v.body t (lock_of op) (active_in v) (not_busy _ _ both.1);
      answered = ap (answer op) (view-state_of v t on);
    }

-- whether a further run may be made refuses no operation that is granted
pub none_without : (full : Bool) (s : State) (t : ℕ) (op : Op) → due full s t op ≡ None → due false s t op ≡ None
none_without false s t op h = h
none_without true s t op h = at _ _ _ _ (may_make_run op) (due_lock s t op) h
  where
    at : (a b c d load : Bool) (later : Option Refusal) → or_else (cond a (Some NoSuchTx) (cond b (Some TooManyOps)
        (cond c (Some NotRising) (cond d (Some BadLimit) (cond (load && true) (Some TooManyRuns) None))))) later ≡
        None →
        or_else (cond a (Some NoSuchTx) (cond b (Some TooManyOps) (cond c (Some NotRising) (cond d (Some BadLimit)
        (cond (load && false) (Some TooManyRuns) None))))) later ≡ None
    at true b c d load later k = absurd (cc)
    at false true c d load later k = absurd (cc)
    at false false true d load later k = absurd (cc)
    at false false false true load later k = absurd (cc)
    at false false false false true later k = absurd (cc)
    at false false false false false later k = k

do_may_be : (full : Bool) (v : View) (t : ℕ) (op : Op) (reply : Reply) (d : Option Refusal) →
    due full (state_of v) t op ≡ d → MatchOption d ((reply ≡ answer op (view (state_of v) t)) ⊎
    (reply ≡ Refused NoMemory))
    (λ why. reply ≡ Refused why) →
    MayBe v (effect_of_do t op reply)
do_may_be full v t op reply (Some why) is h = subst (λ r. MayBe v (effect_of_do t op r)) (sym h) tt
do_may_be full v t op reply None is h =
    ⊎_elim
    (λ e. subst (λ r. MayBe v (effect_of_do t op r)) (sym e)
    (subst (MayBe v) (sym (answer_is_answer t op (view (state_of v) t)))
    (may_answer v t op (none_without full (state_of v) t op is))))
    (λ e. subst (λ r. MayBe v (effect_of_do t op r)) (sym e) tt)
    h

pub may_be : (most_runs : ℕ) (v : View) (step : Step) (reply : Reply) → May most_runs (state_of v) step reply →
    MayBe v (effect step reply)
may_be most_runs v Begin (Begun t) h = h.0
may_be most_runs v Begin (Refused TooManyTx) h = tt
may_be most_runs v (Do t op) reply h = do_may_be (is_full most_runs (state_of v).runs reply) v t op reply
    (due (is_full most_runs (state_of v).runs reply) (state_of v) t op) refl h
may_be most_runs v (Commit t) (Committed c) h = sym (is_open-with_body v.body (active_in v) t) ∙ h.0
may_be most_runs v (Abort t) Aborted h = sym (is_open-with_body v.body (active_in v) t) ∙ h
may_be most_runs v _ _ h = tt

-- ---- whole runs

pub record Follows (es : List Effect) (s : State) : Type 0 where
  pub kept : Inv (view_of es)
  pub is : s ≡ state_of (view_of es)

pub step_follows : (most_runs : ℕ) (es : List Effect) (s : State) (e : Event) → Follows es s → May most_runs s e.0 e.1 →
    Follows (es ++ effect e.0 e.1 ∷ []) (next s (effect e.0 e.1))
step_follows most_runs es s e f m =
    let v = view_of es in
    let change = effect e.0 e.1 in
    let may = may_be most_runs v e.0 e.1 (subst (λ x. May most_runs x e.0 e.1) f.is m) in
    record {
      kept = subst Inv (sym (view_of-push es change)) (push_inv v change f.kept may);
      is = ap (λ x. next x change) f.is ∙ sym (state_of-push v change f.kept may) ∙
          ap state_of (sym (view_of-push es change));
    }

pub run_follows : (most_runs : ℕ) (trace : Trace) (es : List Effect) (s : State) → Follows es s →
    Runs most_runs s trace →
    Follows (es ++ effects trace) (after_run s trace)
run_follows most_runs [] es s f r = subst (λ l. Follows l s) (sym (append-nil es)) f
run_follows most_runs (e ∷ trace) es s f r =
    let change = effect e.0 e.1 in
    subst (λ l. Follows l (after_run (next s change) trace)) (append_assoc es (change ∷ []) (effects trace))
    (run_follows most_runs trace (es ++ change ∷ []) (next s change) (step_follows most_runs es s e f r.0) r.1)

pub from_start : (most_runs : ℕ) (trace : Trace) → Runs most_runs start trace →
    Follows (effects trace) (after_run start trace)
from_start most_runs trace r = run_follows most_runs trace [] start (record { kept = none_inv; is = refl }) r
