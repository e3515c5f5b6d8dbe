-- The table of transactions, seen as the list of the active ones.
use Rattle.std.proofs.Common.{◌≡◌, ◌≢◌, ◌+◌, ℕ, List, [], ◌∷◌, ◌++◌, length, map, take, Option, true}
use Rattle.std.proofs.Common.{false, cond, ◌==◌, refl, sym, ap, ◌∙◌, subst, ⊎_elim}
use Rattle.std.specs.List.{AllByRecursion}
use Rattle.std.proofs.lemmas.Bool.{cases_Bool, both_ways, eqb-true, eqb-false, eq-eqb, ne_eqb}
use Rattle.std.proofs.lemmas.List.{map-append}
use Rattle.am_record.specs.Asks.{lock_of, with_asked}
use Rattle.am_record.specs.declared.lock.Lock.{Lock}
use Rattle.am_record.specs.declared.step.Op.{Op}
use Rattle.am_record.specs.declared.step.Reply.{Reply}
use Rattle.am_record.specs.ByNumber.{of_number, with_changed, without_number, RiseBy}
use Rattle.am_record.proofs.Bodies.{asked_behind}
use Rattle.am_record.proofs.Lists.{AllByRecursion-map}
use Rattle.am_record.proofs.ByNumber.{has_number-map, of_number-map, of_number-told, of_number-known, of_number-none}
use Rattle.am_record.proofs.ByNumber.{map-there, with_changed-map, with_changed-twice, without_number-with_changed}
use Rattle.am_record.proofs.ByNumber.{without_number-map, has_number-without_number, RiseBy-map, RiseBy-map_back}
use Rattle.am_record.proofs.ByNumber.{AreOnce-RiseBy, each_found}
use Rattle.std.proofs.lemmas.Simd.{map-map}
use Rattle.am_store_locks.specs.OwnerLocks.{OwnerLocks}
use Rattle.am_store_locks.specs.Table.{is_owner, locks_owned, entered, with_locks, without_owner}
use Rattle.am_store_locks.proofs.Laws.{locks_owned-with_locks, locks_owned-with_locks_other, locks_owned-entered}
use Rattle.am_store_locks.proofs.Laws.{locks_owned-without_owner}
use Rattle.am_store_undo.specs.declared.note.Note.{Note}
use Rattle.am_store_undo.specs.Log.{Log}
use Rattle.am_store_tx.specs.declared.transaction.Transaction.{Transaction}
use Rattle.am_store_tx.specs.Active.{tx_numbers, is_active_in, ops_in, undo_log_of, no_notes, new_transaction}
use Rattle.am_store_tx.specs.Txs.{Txs, IsConsistent, txs_after_begin}
use Rattle.am_store_tx.specs.Txs as txs
use Rattle.am_law_effect.specs.Operations.{notes_left, marks_left}
use Rattle.am_law_sound.specs.StoreState.{Active, is_in, in_table, newcomer, without_tx, with_op}
use Rattle.am_law_sound.specs.Tables.{owners_of}
use Rattle.am_law_sound.specs.Tables as tables
use Rattle.am_store.specs.StoreContent.{active_with, actives}
use Rattle.am_store.specs.Admission.{HasLocks}

-- ---- what is known of a transaction

abbrev number : Transaction → ℕ
number x = x.number

abbrev number_of : Active → ℕ
number_of x = x.number

module _ (locks : ℕ → List Lock) where
  pub is_in-actives : (xs : List Transaction) (t : ℕ) → is_in (map (active_with locks) xs) t ≡ is_active_in xs t
  is_in-actives = has_number-map number number_of (active_with locks) (λ x. refl)

  of_actives : {A : Type 0} (told : Active → A) (what : Transaction → A) →
      ((x : Transaction) → told (active_with locks x) ≡ what x) → (xs : List Transaction) (t : ℕ) →
      told (in_table (map (active_with locks) xs) t) ≡ of_number number what (told (newcomer 0)) xs t
  of_actives told what says xs t =
      of_number-told number_of (λ x. x) (newcomer 0) told (map (active_with locks) xs) t
      ∙ of_number-map number number_of (active_with locks) (λ x. refl) what told (told (newcomer 0)) says xs t

  pub ops-actives : (xs : List Transaction) (t : ℕ) → (in_table (map (active_with locks) xs) t).ops ≡ ops_in xs t
  ops-actives = of_actives (λ x. x.ops) (λ x. x.ops) (λ x. refl)

  pub notes-actives : (xs : List Transaction) (t : ℕ) → (in_table (map (active_with locks) xs) t).notes ≡
      (undo_log_of xs t).notes
  notes-actives xs t = of_actives (λ x. x.notes) (λ x. x.log.notes) (λ x. refl) xs t
      ∙ sym (of_number-told number (λ x. x.log) no_notes (λ log. log.notes) xs t)

  pub marks-actives : (xs : List Transaction) (t : ℕ) → (in_table (map (active_with locks) xs) t).marks ≡
      (undo_log_of xs t).marks
  marks-actives xs t = of_actives (λ x. x.marks) (λ x. x.log.marks) (λ x. refl) xs t
      ∙ sym (of_number-told number (λ x. x.log) no_notes (λ log. log.marks) xs t)

  pub locks-actives : (xs : List Transaction) (t : ℕ) → is_active_in xs t ≡ true →
      (in_table (map (active_with locks) xs) t).locks ≡ locks t
  locks-actives xs t on = of_actives (λ x. x.locks) (λ x. locks x.number) (λ x. refl) xs t
      ∙ of_number-known number (λ x. locks x.number) [] (λ ls. ls ≡ locks t) t (λ x e. ap locks e) xs on

  -- ---- by rising number

  pub rise-actives : (xs : List Transaction) → RiseBy number xs → tables.AreByNumber (map (active_with locks) xs)
  rise-actives = RiseBy-map number number_of (active_with locks) (λ x. refl)

  -- ---- one transaction ends

  pub ended-actives : (t : ℕ) (xs : List Transaction) →
      map (active_with locks) (without_number number t xs) ≡ without_tx t (map (active_with locks) xs)
  ended-actives t xs = sym (without_number-map number number_of (active_with locks) (λ x. refl) t xs)

-- other locks of transactions that aren't there
pub same_locks : (locks locks' : ℕ → List Lock) (xs : List Transaction) →
    ((n : ℕ) → is_active_in xs n ≡ true → locks' n ≡ locks n) → map (active_with locks') xs ≡ map (active_with locks) xs
same_locks locks locks' xs h = map-there number (active_with locks') (active_with locks) xs (λ x on i. record {
  number = x.number;
  ops = x.ops;
  locks = h x.number on i;
  notes = x.log.notes;
  marks = x.log.marks;
})

pub actives-txs_after_end : (t : Txs) (tx : ℕ) → actives (txs.txs_after_end t tx) ≡ without_tx tx (actives t)
actives-txs_after_end t tx =
    let left = without_number number tx t.active in
    same_locks (locks_owned t.locks) (locks_owned (without_owner t.locks tx)) left
    (λ n on. locks_owned-without_owner t.locks tx n
    (λ e. both_ways (is_active_in left n) (ap (is_active_in left) e ∙ has_number-without_number number tx t.active) on))
    ∙ ended-actives (locks_owned t.locks) tx t.active

-- ---- one transaction begins

pub actives-txs_after_begin : (t : Txs) → is_owner t.locks (t.begun + 1) ≡ false → actives (txs_after_begin t) ≡ actives
    t ++ newcomer (t.begun + 1) ∷ []
actives-txs_after_begin t none =
    map-append (active_with (locks_owned (entered t.locks (t.begun + 1)))) t.active (new_transaction (t.begun + 1) ∷ [])
    ∙ (λ i. same_locks (locks_owned t.locks) (locks_owned (entered t.locks (t.begun + 1))) t.active
    (λ n a. locks_owned-entered t.locks (t.begun + 1) n) i
    ++ record {
      number = t.begun + 1;
      ops = 0;
      locks = (locks_owned-entered t.locks (t.begun + 1) (t.begun + 1) ∙
          of_number-none (λ (h : OwnerLocks). h.owner) (λ h. h.locks) [] (t.begun + 1) t.locks none) i;
      notes = [];
      marks = [];
    } ∷ [])

-- ---- the log of one is changed

pub txs_after_end-with_log : (t : Txs) (tx : ℕ) (log : Log) → txs.txs_after_end (txs.with_log t tx log) tx ≡
    txs.txs_after_end t tx
txs_after_end-with_log t tx log = λ i. record {
  begun = t.begun;
  active = without_number-with_changed number (λ x. record x { log = log }) tx (λ x. refl) t.active i;
  locks = without_owner t.locks tx;
}

-- ---- the locks as a table of their own

abbrev owners : List OwnerLocks → List ℕ
owners hs = map (λ (h : OwnerLocks). h.owner) hs

abbrev Finds : (ℕ → List Lock) → List OwnerLocks → Type 0
Finds look hs = AllByRecursion (λ (h : OwnerLocks). look h.owner ≡ h.locks) hs

by_owner : (look : ℕ → List Lock) (xs : List Transaction) (hs : List OwnerLocks) → owners hs ≡ tx_numbers xs →
    Finds look hs → owners_of (map (active_with look) xs) ≡ hs
by_owner look [] [] e f = refl
by_owner look [] (h ∷ hs) e f = cc
by_owner look (x ∷ xs) [] e f = cc
by_owner look (x ∷ xs) (h ∷ hs) e f =
    let here : h.owner ≡ x.number = cc in
    let rest : owners hs ≡ tx_numbers xs = cc in
    let locks : look x.number ≡ h.locks = ap look (sym here) ∙ f.0 in
    let tail = by_owner look xs hs rest f.1 in
    λ i. record { owner = sym here i; locks = locks i } ∷ tail i

pub owners_of-actives : (t : Txs) → IsConsistent t → owners_of (actives t) ≡ t.locks
owners_of-actives t ok =
    let owner : OwnerLocks → ℕ = λ h. h.owner in
    let rise : RiseBy owner t.locks = RiseBy-map_back owner (λ n. n) owner (λ h. refl) t.locks
    (subst (RiseBy (λ n. n)) (sym ok.owners) (RiseBy-map number (λ n. n) number (λ x. refl) t.active ok.rise)) in
    by_owner (locks_owned t.locks) t.active t.locks ok.owners
    (each_found owner (λ h. h.locks) [] t.locks (AreOnce-RiseBy owner t.locks rise))

-- ---- one operation of a transaction

-- the logs that stand under the number are this one
abbrev HaveLog : ℕ → Log → List Transaction → Type 0
HaveLog tx log xs = AllByRecursion (λ (x : Transaction). x.number ≡ tx → x.log ≡ log) xs

have_log : (tx : ℕ) (xs : List Transaction) → RiseBy number xs → HaveLog tx (undo_log_of xs tx) xs
have_log tx xs r = AllByRecursion-map (λ x. undo_log_of xs x.number ≡ x.log)
    (λ x. x.number ≡ tx → x.log ≡ undo_log_of xs tx)
    (λ x found same. sym found ∙ ap (undo_log_of xs) same) xs
    (each_found number (λ x. x.log) no_notes xs (AreOnce-RiseBy number xs r))

module _ (look look' : ℕ → List Lock) (tx : ℕ) (op : Op) (reply : Reply) (new : List Note) (log log' : Log)
    (own : look' tx ≡ with_asked (look tx) (lock_of op)) (others : (u : ℕ) → u ≢ tx → look' u ≡ look u)
    (notes : log'.notes ≡ new ++ notes_left op reply log.marks log.notes)
    (marks : log'.marks ≡ marks_left op reply (length log.notes) log.marks) where
  -- the log is changed, and the operation is counted
  abbrev did : Transaction → Transaction
  did x = record x { ops = x.ops + 1; log = log' }

  abbrev then : Transaction → Active
  then x = active_with look' (cond (x.number == tx) (did x) x)

  did_one : (x : Transaction) → (x.number ≡ tx → x.log ≡ log) → x.number ≡ tx →
      with_op op reply new (active_with look x) ≡ then x
  did_one x has is =
      let on = eq-eqb x.number tx is in
      let l = has is in
      let locks : look' x.number ≡ with_asked (look x.number) (lock_of op) = ap look' is ∙ own ∙
      ap (λ n. with_asked (look n) (lock_of op)) (sym is) in
      let ns = notes ∙ (λ i. new ++ notes_left op reply (sym l i).marks (sym l i).notes) in
      let ms = marks ∙ (λ i. marks_left op reply (length (sym l i).notes) (sym l i).marks) in
      sym ((λ i. active_with look' (cond (on i) (did x) x))
      ∙ (λ i. record { number = x.number; ops = x.ops + 1; locks = locks i; notes = ns i; marks = ms i }))

  did_not : (x : Transaction) → x.number ≢ tx → active_with look x ≡ then x
  did_not x other =
      let off = ne_eqb x.number tx other in
      sym ((λ i. active_with look' (cond (off i) (did x) x)) ∙ (λ i. record {
        number = x.number;
        ops = x.ops;
        locks = others x.number other i;
        notes = x.log.notes;
        marks = x.log.marks;
      }))

  did_each : (xs : List Transaction) → HaveLog tx log xs
      → map (active_with look') (with_changed number (λ x. record x { ops = x.ops + 1 }) tx
      (with_changed number (λ x. record x { log = log' }) tx xs)) ≡ with_changed number_of (with_op op reply new) tx
      (map (active_with look) xs)
  did_each xs h =
      ap (map (active_with look')) (with_changed-twice number (λ x. record x { log = log' }) tx
      (λ x. record x { ops = x.ops + 1 }) (λ x. refl) xs)
      ∙ map-map (active_with look') (λ x. cond (x.number == tx) (did x) x) xs
      ∙ sym (with_changed-map number_of (with_op op reply new) (active_with look) then tx xs
      (AllByRecursion-map (λ x. x.number ≡ tx → x.log ≡ log)
      (λ x. x.number ≡ tx → with_op op reply new (active_with look x) ≡ then x) did_one xs h) did_not)

-- a lock is granted, the log is changed, and the operation is counted
pub actives-did : (t t1 t2 t3 : Txs) (tx : ℕ) (op : Op) (reply : Reply) (new : List Note) (log' : Log) →
    IsConsistent t → HasLocks t tx (with_asked (locks_owned t.locks tx) (lock_of op)) t1
    → t2 ≡ txs.with_log t1 tx log' → t3 ≡ txs.txs_after_op t2 tx
    → log'.notes ≡ new ++ notes_left op reply (undo_log_of t.active tx).marks (undo_log_of t.active tx).notes →
    log'.marks ≡ marks_left op reply (length (undo_log_of t.active tx).notes) (undo_log_of t.active tx).marks
    → actives t3 ≡ with_changed number_of (with_op op reply new) tx (actives t)
actives-did t t1 t2 t3 tx op reply new log' ok has written counted notes marks =
    (λ i. actives (counted i))
    ∙ (λ i. actives (txs.txs_after_op (written i) tx))
    ∙ (λ i. map (active_with (locks_owned t1.locks)) (with_changed number (λ x. record x { ops = x.ops + 1 }) tx
    (with_changed number (λ x. record x { log = log' }) tx (has.active i))))
    ∙ did_each (locks_owned t.locks) (locks_owned t1.locks) tx op reply new (undo_log_of t.active tx) log' has.holds
    has.others notes marks t.active (have_log tx t.active ok.rise)

-- ---- an operation that came to nothing

module _ (look look' : ℕ → List Lock) (tx : ℕ) (log log' : Log) (same : (u : ℕ) → look' u ≡ look u)
    (notes : log'.notes ≡ log.notes) (marks : log'.marks ≡ log.marks) where
  undid_one : (x : Transaction) → (x.number ≡ tx → x.log ≡ log) →
      active_with look' (cond (x.number == tx) (record x { log = log' }) x) ≡ active_with look x
  undid_one x has = ⊎_elim
      (λ here.
      let l = has (eqb-true x.number tx here) in
      let ns = notes ∙ (λ i. (sym l i).notes) in
      let ms = marks ∙ (λ i. (sym l i).marks) in
      (λ i. active_with look' (cond (here i) (record x { log = log' }) x))
      ∙ (λ i. record { number = x.number; ops = x.ops; locks = same x.number i; notes = ns i; marks = ms i }))
      (λ other.
      (λ i. active_with look' (cond (other i) (record x { log = log' }) x))
      ∙ (λ i. record {
        number = x.number;
        ops = x.ops;
        locks = same x.number i;
        notes = x.log.notes;
        marks = x.log.marks;
      }))
      (cases_Bool (x.number == tx))

  undid_each : (xs : List Transaction) → HaveLog tx log xs →
      map (active_with look') (with_changed number (λ x. record x { log = log' }) tx xs) ≡ map
      (active_with look)
      xs
  undid_each [] h = refl
  undid_each (x ∷ xs) h = λ i. undid_one x h.0 i ∷ undid_each xs h.1 i

-- the lock is cut again, and the log is as it was
pub actives-undid : (t t1 t2 t3 : Txs) (tx held : ℕ) (asked : Option Lock) (log' : Log) → IsConsistent t →
    HasLocks t tx (with_asked (locks_owned t.locks tx) asked) t1
    → t2 ≡ txs.with_log t1 tx log' → held ≡ length (locks_owned t.locks tx) →
    t3 ≡ record t2 { locks = with_locks t2.locks tx (take held (locks_owned t2.locks tx)) }
    → log'.notes ≡ (undo_log_of t.active tx).notes → log'.marks ≡ (undo_log_of t.active tx).marks
    → actives t3 ≡ actives t
actives-undid t t1 t2 t3 tx held asked log' ok has written before cut notes marks =
    let inner = take held (locks_owned t1.locks tx) in
    let own : inner ≡ locks_owned t.locks tx = (λ i. take (before i) (has.holds i)) ∙
    asked_behind (locks_owned t.locks tx) asked in
    let same : (u : ℕ) → locks_owned (with_locks t1.locks tx inner) u ≡ locks_owned t.locks u = λ u. ⊎_elim
    (λ yes. let is : u ≡ tx = eqb-true u tx yes in ap (locks_owned (with_locks t1.locks tx inner)) is ∙
    locks_owned-with_locks t1.locks tx inner has.owner ∙ own ∙ ap (locks_owned t.locks) (sym is))
    (λ other. let differs : u ≢ tx = eqb-false u tx other in locks_owned-with_locks_other t1.locks tx inner u differs ∙
    has.others u differs)
    (cases_Bool (u == tx)) in
    (λ i. actives (cut i))
    ∙ (λ i. actives (let s : Txs = written i in record s
    { locks = with_locks s.locks tx (take held (locks_owned s.locks tx)) }))
    ∙ (λ i. map (active_with (locks_owned (with_locks t1.locks tx inner)))
    (with_changed number (λ x. record x { log = log' }) tx (has.active i)))
    ∙ undid_each (locks_owned t.locks) (locks_owned (with_locks t1.locks tx inner)) tx (undo_log_of t.active tx) log'
    same
    notes marks t.active (have_log tx t.active ok.rise)
