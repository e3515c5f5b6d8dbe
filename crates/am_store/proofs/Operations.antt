-- What an operation that is refused, that wants memory, and that is done leave of what is kept.
use Rattle.std.proofs.Common.{◌≡◌, ◌<◌, ◌≤◌, ◌+◌, ◌++◌, ◌⊎◌, inl, inr, ℕ, List, length, take, Bool, true, false}
use Rattle.std.proofs.Common.{cond, Option, Some, None, refl, sym, ap, ◌∙◌, subst, ⊎_elim, arith}
use Rattle.std.specs.Prelude.{nat_le, ◌&&◌, ◌||◌, MatchOption}
use Rattle.std.specs.FinMap.{get, contains_key}
use Rattle.std.proofs.lemmas.Bool.{leb-false, leb-true, le-leb, or_right, or_left, cases_Bool}
use Rattle.am_record.specs.Interval.{Interval}
use Rattle.am_record.specs.OrderedKey.{OrderedKey}
use Rattle.am_record.specs.Plain.{PlainMap, found, exists_or_done, least_taken}
use Rattle.am_record.specs.Asks.{lock_of, with_asked}
use Rattle.am_record.specs.declared.lock.Lock.{Lock as TheLock}
use Rattle.am_record.specs.declared.step.Refusal.{Refusal}
use Rattle.am_record.specs.declared.step.Refusal.TheVariants.{NoSuchTx, TooManyOps, NotRising, BadLimit, TooManyRuns}
use Rattle.am_record.specs.declared.step.Refusal.TheVariants.{NoMemory}
use Rattle.am_record.specs.declared.step.Op.{Op}
use Rattle.am_record.specs.declared.step.Op.TheVariants.{Get, Insert, Replace, Delete, Load, Back}
use Rattle.am_record.specs.declared.step.Step.TheVariants.{Do}
use Rattle.am_record.specs.declared.step.Reply.{Reply}
use Rattle.am_record.specs.declared.step.Reply.TheVariants.{Done, NoMark, Exists, Missing, Refused}
use Rattle.am_index.specs.Content.{content}
use Rattle.am_index_parts.specs.Catalogs.{runs_in}
use Rattle.am_index_parts.specs.Partitions.{Partitions}
use Rattle.am_store_undo.specs.Log.{Log}
use Rattle.am_record.specs.Marks.{since_mark, has_mark}
use Rattle.am_store_locks.specs.Table.{locks_owned, with_locks}
use Rattle.am_store_tx.specs.Active.{is_active_in, ops_in, undo_log_of}
use Rattle.am_store_tx.specs.Txs.{Txs, IsConsistent, with_log, txs_after_op}
use Rattle.am_record.specs.ByNumber.{with_changed}
use Rattle.am_record.proofs.ByNumber.{has_number-with_changed, of_number-kept}
use Rattle.am_store_tx.specs.declared.transaction.Transaction.{Transaction}
use Rattle.am_record.specs.Refusals.{refusal_before_lock, may_make_run, is_one_too_many, lock_refusal, or_else}
use Rattle.am_law_serial.specs.Trace.{runs_made}
use Rattle.am_law_effect.specs.Laws.{taken_back}
use Rattle.am_law_effect.specs.Store.{with_wish}
use Rattle.am_law_effect.specs.Operations.{changed, noted, notes_left, marks_left, wished}
use Rattle.am_law_sound.specs.Represents.{stored_answer}
use Rattle.am_law_sound.specs.StoreState.{is_in, in_table, MayAnswer, refusal_in, takes_memory, state_after_op}
use Rattle.am_law_sound.specs.StoreState.{with_op, taken_back_to_mark, blocker_in}
use Rattle.am_store.specs.StoreContent.{state_kept, actives}
use Rattle.am_store.specs.Memory.{adds_ninth_lock, may_want_room}
use Rattle.am_store_operations.specs.Memory.{wants_room}
use Rattle.am_store.specs.Admission.{lock_refusal_for, IsLockRefusal, HasLocks, IsLockGranted, wish_of}
use Rattle.am_store_operations.specs.OperationSteps.{MayWantRoom}
use Rattle.am_store.specs.OperationSteps.{Works, LeavesAllAlone}
use Rattle.am_store.proofs.Actives.{is_in-actives, ops-actives, notes-actives, marks-actives, locks-actives}
use Rattle.am_store.proofs.Actives.{actives-did}
use Rattle.am_store.proofs.Actives.{actives-undid}

-- ---- refusals that are due

-- nothing is due before the lock
pub record IsClear (active : Bool) (ops : ℕ) (full : Bool) (op : Op) : Type 0 where
  pub is_active : active ≡ true
  pub few : nat_le 4096 ops ≡ false

pub cleared : (active : Bool) (ops : ℕ) (full : Bool) (op : Op) → None ≡ refusal_before_lock active ops full op →
    IsClear active ops full op
cleared true ops full op e = record { is_active = refl; few = by_test (nat_le 4096 ops) _ e }
  where
    by_test : (b : Bool) (later : Option Refusal) → None ≡ cond b (Some TooManyOps) later → b ≡ false
    by_test true later e = cc
    by_test false later e = refl
cleared false ops full op e = cc

module _ (most_runs : ℕ) (parts : Partitions) (t : Txs) (wishes : List Interval) (commits tx : ℕ) (op : Op) where
  -- whether no further run may be made
  abbrev full : Bool
  full = nat_le most_runs parts.runs || nat_le 65535 (runs_in parts.entries)

  first_is : refusal_before_lock (is_active_in t.active tx) (ops_in t.active tx) full op ≡ refusal_before_lock
      (is_in (actives t) tx) (in_table (actives t) tx).ops full op
  first_is = λ i. refusal_before_lock (sym (is_in-actives (locks_owned t.locks) t.active tx) i)
      (sym (ops-actives (locks_owned t.locks) t.active tx) i) full op

  due_at : (first : Option Refusal) → first ≡ refusal_before_lock (is_active_in t.active tx) (ops_in t.active tx)
      full op
      → refusal_in (state_kept most_runs parts t wishes commits) tx op ≡ or_else first
      (lock_refusal (blocker_in (actives t) tx (lock_of op))
      (is_one_too_many (in_table (actives t) tx).locks (lock_of op)))
  due_at first e = ap (λ (o : Option Refusal). or_else o
      (lock_refusal (blocker_in (actives t) tx (lock_of op))
      (is_one_too_many (in_table (actives t) tx).locks (lock_of op)))) (sym (e ∙ first_is))

  due_then : None ≡ refusal_before_lock (is_active_in t.active tx) (ops_in t.active tx) full op →
      refusal_in (state_kept most_runs parts t wishes commits) tx op ≡ lock_refusal_for t tx (lock_of op)
  due_then e =
      let a = (cleared (is_active_in t.active tx) (ops_in t.active tx) full op e).is_active in
      due_at None e ∙ (λ i. lock_refusal (blocker_in (actives t) tx (lock_of op))
      (is_one_too_many (locks-actives (locks_owned t.locks) t.active tx a i) (lock_of op)))

  abbrev Says : Reply → Option Refusal → Type 0
  Says reply due = MatchOption due ((reply ≡ stored_answer op (in_table (actives t) tx).marks (content parts.entries)) ⊎
      ((reply ≡ Refused NoMemory) × (takes_memory op ≡ true))) (λ why. reply ≡ Refused why)

  pub says_first : (why : Refusal) → Some why ≡ refusal_before_lock (is_active_in t.active tx) (ops_in t.active tx)
      full op → MayAnswer (state_kept most_runs parts t wishes commits) (Do tx op) (Refused why)
  says_first why e = subst (Says (Refused why)) (sym (due_at (Some why) e)) refl

  -- ---- a refused lock

  needs : (op : Op) (own : List TheLock) → adds_ninth_lock own (lock_of op) ≡ true → takes_memory op ≡ true
  needs Back own e = cc
  needs op own e = refl

  pub says_lock : (why : Refusal) → None ≡ refusal_before_lock (is_active_in t.active tx) (ops_in t.active tx)
      full op → IsLockRefusal t tx (lock_of op) why → MayAnswer (state_kept most_runs parts t wishes commits) (Do tx op)
      (Refused why)
  says_lock why e r = ⊎_elim
      (λ due. subst (Says (Refused why)) (sym (due_then e ∙ due)) refl)
      (λ wants. subst (Says (Refused why)) (sym (due_then e ∙ wants.1))
      (inr (ap Refused wants.0, needs op (locks_owned t.locks tx) wants.2)))
      r

  never : (o : Option ℕ) (b : Bool) → lock_refusal o b ≡ Some NoMemory → ⊥
  never (Some h) b e = cc
  never None true e = cc
  never None false e = cc

  by_lock : adds_ninth_lock (in_table (actives t) tx).locks (lock_of op) ≡ true →
      may_want_room (state_kept most_runs parts t wishes commits) (in_table (actives t) tx) op ≡ true
  by_lock e = or_left (adds_ninth_lock (in_table (actives t) tx).locks (lock_of op))
      (wants_room op parts.entries (in_table (actives t) tx).notes (in_table (actives t) tx).marks) e

  pub wants_lock : (why : Refusal) → None ≡ refusal_before_lock (is_active_in t.active tx) (ops_in t.active tx)
      full op → IsLockRefusal t tx (lock_of op) why → Refused why ≡ Refused NoMemory
      → may_want_room (state_kept most_runs parts t wishes commits) (in_table (actives t) tx) op ≡ true
  wants_lock why e r is =
      let same : why ≡ NoMemory = cc in
      let a = (cleared (is_active_in t.active tx) (ops_in t.active tx) full op e).is_active in
      ⊎_elim
      (λ due. absurd (never (blocker_in (actives t) tx (lock_of op))
      (is_one_too_many (locks_owned t.locks tx) (lock_of op)) (due ∙ ap Some same)))
      (λ wants. by_lock (ap (λ own. adds_ninth_lock own (lock_of op))
      (locks-actives (locks_owned t.locks) t.active tx a) ∙ wants.2))
      r

  -- ---- no memory beside the lock's

  room_needs : (op : Op) (log : Log) → MayWantRoom op parts.entries log → takes_memory op ≡ true
  room_needs Back log w = cc
  room_needs op log w = refl

  pub says_room : (parts' : Partitions) (log : Log) → None ≡ refusal_before_lock (is_active_in t.active tx)
      (ops_in t.active tx) full op → lock_refusal_for t tx (lock_of op) ≡ None
      → MayWantRoom op parts.entries log → MayAnswer (state_kept most_runs parts t wishes commits) (Do tx op)
      (Refused NoMemory)
  says_room parts' log e due w = subst (Says (Refused NoMemory)) (sym (due_then e ∙ due))
      (inr (refl, room_needs op log w))

  pub wants_memory : (log : Log) → log ≡ undo_log_of t.active tx → MayWantRoom op parts.entries log →
      may_want_room (state_kept most_runs parts t wishes commits) (in_table (actives t) tx) op ≡ true
  wants_memory log e w =
      let notes = ap (λ (l : Log). l.notes) e ∙ sym (notes-actives (locks_owned t.locks) t.active tx) in
      let marks = ap (λ (l : Log). l.marks) e ∙ sym (marks-actives (locks_owned t.locks) t.active tx) in
      or_right (adds_ninth_lock (in_table (actives t) tx).locks (lock_of op))
      (wants_room op parts.entries (in_table (actives t) tx).notes (in_table (actives t) tx).marks)
      ((λ i. wants_room op parts.entries (sym notes i) (sym marks i)) ∙ w)

  pub idle : (t1 t2 t3 : Txs) (parts' : Partitions) (held : ℕ) → IsConsistent t →
      HasLocks t tx (with_asked (locks_owned t.locks tx) (lock_of op)) t1 → LeavesAllAlone parts t1 tx parts' t2
      → held ≡ length (locks_owned t.locks tx) → t3 ≡ record t2
      { locks = with_locks t2.locks tx (take held (locks_owned t2.locks tx)) } → state_kept most_runs parts' t3 wishes
      commits ≡
      state_kept most_runs parts t wishes commits
  idle t1 t2 t3 parts' held ok has stays before cut =
      let notes = stays.untouched.notes ∙ (λ i. (undo_log_of (has.active i) tx).notes) in
      let marks = stays.untouched.marks ∙ (λ i. (undo_log_of (has.active i) tx).marks) in
      let same = actives-undid t t1 t2 t3 tx held (lock_of op) stays.log ok has stays.written before cut notes marks in
      let begun : t3.begun ≡ t.begun = (λ i. (cut i).begun) ∙ (λ i. (stays.written i).begun) ∙ has.begun in
      λ i. record {
        most_runs = most_runs;
        entries = stays.untouched.entries i;
        wishes = wishes;
        begun = begun i;
        commits = commits;
        runs = stays.untouched.runs i;
        active = same i;
      }

  -- ---- an operation that is done

  abbrev IsAnswer : Reply → Type 0
  IsAnswer (Refused why) = ⊥
  IsAnswer reply = Unit {0}

  answered_found : (v : Option (List ℕ)) → IsAnswer (found v)
  answered_found None = tt
  answered_found (Some v) = tt

  answered_or : (b : Bool) (x y : Reply) → IsAnswer x → IsAnswer y → IsAnswer (cond b x y)
  answered_or true x y h k = h
  answered_or false x y h k = k

  answered_taken : (o : Option OrderedKey) → IsAnswer (exists_or_done o)
  answered_taken None = tt
  answered_taken (Some k) = tt

  answered : (op : Op) (marks : List ℕ) (m : PlainMap) → IsAnswer (stored_answer op marks m)
  answered (Get k) marks m = answered_found (get m k)
  answered (Insert k v) marks m = answered_or (contains_key m k) (Exists k) Done tt tt
  answered (Replace k v) marks m = answered_or (contains_key m k) Done Missing tt tt
  answered (Delete k) marks m = answered_or (contains_key m k) Done Missing tt tt
  answered (Load records) marks m = answered_taken (least_taken records m)
  answered Back marks m = answered_or (has_mark marks) Done NoMark tt tt
  answered op marks m = tt

  done_by : (reply : Reply) → IsAnswer reply → state_after_op (state_kept most_runs parts t wishes commits) tx op
      reply ≡ record {
        most_runs = most_runs;
        entries = changed (taken_back_to_mark (state_kept most_runs parts t wishes commits) tx) parts.runs op reply
            parts.entries;
        wishes = with_wish wishes (wished op reply);
        begun = t.begun;
        commits = commits;
        runs = parts.runs + runs_made (content parts.entries) op reply;
        active = with_changed (λ x. x.number) (with_op op reply (noted parts.runs op reply parts.entries)) tx
            (actives t);
      }
  done_by (Refused why) h = absurd h
  done_by reply h = refl

  wished_found : (k : OrderedKey) (v : Option (List ℕ)) → wished (Get k) (found v) ≡ wish_of (Get k)
  wished_found k None = refl
  wished_found k (Some v) = refl

  wished_is : (op : Op) (marks : List ℕ) (m : PlainMap) → wished op (stored_answer op marks m) ≡ wish_of op
  wished_is (Get k) marks m = wished_found k (get m k)
  wished_is op marks m = refl

  pub says_done : (t1 t2 : Txs) (parts' : Partitions) (reply : Reply) →
      None ≡ refusal_before_lock (is_active_in t.active tx) (ops_in t.active tx) full op →
      IsLockGranted t tx (lock_of op) t1
      → Works op reply parts t1 tx parts' t2 → MayAnswer (state_kept most_runs parts t wishes commits) (Do tx op) reply
  says_done t1 t2 parts' reply e grant w =
      let marks = (λ i. (undo_log_of (grant.locks.active i) tx).marks) ∙
      sym (marks-actives (locks_owned t.locks) t.active tx) in
      subst (Says reply) (sym (due_then e ∙ grant.due))
      (inl (w.done.said ∙ (λ i. stored_answer op (marks i) (content parts.entries))))

  pub after_done : (t1 t2 t3 : Txs) (parts' : Partitions) (wishes' : List Interval) (reply : Reply) → IsConsistent t →
      HasLocks t tx (with_asked (locks_owned t.locks tx) (lock_of op)) t1
      → Works op reply parts t1 tx parts' t2 → t3 ≡ txs_after_op t2 tx → wishes' ≡ with_wish wishes (wish_of op)
      → state_kept most_runs parts' t3 wishes' commits ≡ state_after_op (state_kept most_runs parts t wishes commits) tx
      op reply
  after_done t1 t2 t3 parts' wishes' reply ok has w count wish =
      let log : undo_log_of t1.active tx ≡ undo_log_of t.active tx = λ i. undo_log_of (has.active i) tx in
      let notes = w.done.notes ∙ (λ i. noted parts.runs op reply parts.entries ++
      notes_left op reply (log i).marks (log i).notes) in
      let marks = w.done.marks ∙ (λ i. marks_left op reply (length (log i).notes) (log i).marks) in
      let all = actives-did t t1 t2 t3 tx op reply (noted parts.runs op reply parts.entries) w.log ok has w.written
      count notes marks in
      let begun : t3.begun ≡ t.begun = (λ i. (count i).begun) ∙ (λ i. (w.written i).begun) ∙ has.begun in
      let es = w.done.entries
      ∙ (λ i. changed (taken_back (since_mark (log i).marks (log i).notes) parts.entries) parts.runs op reply
      parts.entries)
      ∙ (λ i. changed (taken_back (since_mark (sym (marks-actives (locks_owned t.locks) t.active tx) i)
      (sym (notes-actives (locks_owned t.locks) t.active tx) i)) parts.entries) parts.runs op reply
      parts.entries) in
      let ws = wish ∙ ap (with_wish wishes) (sym (ap (wished op) w.done.said ∙
      wished_is op (undo_log_of t1.active tx).marks
      (content parts.entries))) in
      let is = subst IsAnswer (sym w.done.said) (answered op (undo_log_of t1.active tx).marks
      (content parts.entries)) in
      (λ i. record {
        most_runs = most_runs;
        entries = es i;
        wishes = ws i;
        begun = begun i;
        commits = commits;
        runs = w.done.runs i;
        active = all i;
      }) ∙ sym (done_by reply is)

-- ---- a run may be made

-- where one may be, there is a number for it
pub has_number : (active : Bool) (ops most_runs runs open_runs : ℕ) (op : Op) → most_runs ≤ 4294967294 →
    None ≡ refusal_before_lock active ops (nat_le most_runs runs || nat_le 65535 open_runs) op →
    (may_make_run op && nat_le 4294967294 runs) ≡ false
has_number active ops most_runs runs open_runs op few none = ⊎_elim
    (λ yes. let made : nat_le most_runs runs ≡ true = le-leb most_runs runs
    (omega (arith, few, leb-true 4294967294 runs yes)) in
    ap (λ b. may_make_run op && b) (yes ∙ sym (or_left (nat_le most_runs runs) (nat_le 65535 open_runs) made)) ∙
    no_load _ _ _ _ (may_make_run op && (nat_le most_runs runs || nat_le 65535 open_runs)) none)
    (λ no. ap (λ b. may_make_run op && b) no ∙ and_no (may_make_run op))
    (cases_Bool (nat_le 4294967294 runs))
  where
    and_no : (b : Bool) → (b && false) ≡ false
    and_no true = refl
    and_no false = refl

    no_load : (a b c d load : Bool) → None ≡ cond a (Some NoSuchTx) (cond b (Some TooManyOps)
        (cond c (Some NotRising) (cond d (Some BadLimit) (cond load (Some TooManyRuns) None)))) → load ≡ false
    no_load true b c d load e = absurd (cc)
    no_load false true c d load e = absurd (cc)
    no_load false false true d load e = absurd (cc)
    no_load false false false true load e = absurd (cc)
    no_load false false false false true e = absurd (cc)
    no_load false false false false false e = refl

-- ---- it stays active, with few operations

pub active_then : (t t1 t2 : Txs) (tx : ℕ) (log : Log) → t1.active ≡ t.active → t2 ≡ with_log t1 tx log →
    is_active_in t.active tx ≡ true → is_active_in t2.active tx ≡ true
active_then t t1 t2 tx log same written a =
    (λ i. is_active_in (written i).active tx) ∙ has_number-with_changed (λ (x : Transaction). x.number)
    (λ x. record x { log = log }) tx
    (λ x. refl) t1.active tx ∙ (λ i. is_active_in (same i) tx) ∙ a

pub few_then : (t t1 t2 : Txs) (tx : ℕ) (log : Log) → t1.active ≡ t.active → t2 ≡ with_log t1 tx log →
    nat_le 4096 (ops_in t.active tx) ≡ false → ops_in t2.active tx < 4096
few_then t t1 t2 tx log same written few =
    let less = leb-false 4096 (ops_in t.active tx) few in
    let is : ops_in t2.active tx ≡ ops_in t.active tx =
    (λ i. ops_in (written i).active tx) ∙ of_number-kept (λ (x : Transaction). x.number) (λ x. record x { log = log })
    tx (λ x. x.ops) 0
    (λ x. refl) (λ x. refl) t1.active tx ∙ (λ i. ops_in (same i) tx) in
    omega (arith, less, is)
