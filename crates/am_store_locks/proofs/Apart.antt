-- Owners stay apart.
use Rattle.std.proofs.Common.{◌≡◌, ℕ, List, [], ◌∷◌, ◌++◌, get_or, take, map, filter, Bool, true, false, cond, not}
use Rattle.std.proofs.Common.{◌&&◌, ◌||◌, ◌==◌, ◌≢◌, subst, All, Some, option_map, option_to_list, find, refl, sym, ap}
use Rattle.std.proofs.Common.{◌∙◌}
use Rattle.std.specs.List.{list_any}
use Rattle.std.proofs.lemmas.List.Elements.{All-nil, All-cons, All-head, All-tail, All-push, All-filter, All-map}
use Rattle.std.proofs.lemmas.List.Elements.{All-take}
use Rattle.std.proofs.lemmas.List.Folds.{Any-from_list_any, list_any_none}
use Rattle.std.proofs.lemmas.Bool.{eqb-true, eqb-false, both_ways}
use Rattle.am_record.specs.OrderedKey.{OrderedKey}
use Rattle.am_record.specs.Interval.{within}
use Rattle.am_record.specs.Locks.{conflicts, is_covered, is_exclusive, with_lock}
use Rattle.am_record.specs.declared.lock.Lock.{Lock}
use Rattle.am_store_locks.specs.OwnerLocks.{OwnerLocks, has_conflict, is_exclusive_at, NoConflicts, AreApart}
use Rattle.am_store_locks.specs.Table.{is_owner, locks_owned, entered, with_locks, blockers, exclusive_holders}
use Rattle.am_store_locks.specs.Table.{AreAllApart}
use Rattle.am_store_locks.proofs.Conflicts.{NoConflicts-comm, exclusive-conflicts}

-- ---- entering

either_false : (x y : Bool) → (x || y) ≡ false → (x ≡ false) × (y ≡ false)
either_false true y e = cc
either_false false y e = (refl, e)

all_fail : {X : Type 0} (p : X → Bool) (xs : List X) → list_any p xs ≡ false → All (λ x. p x ≡ false) xs
all_fail p [] e = All-nil (λ x. p x ≡ false)
all_fail p (x ∷ xs) e = let parts = either_false (p x) (list_any p xs) e in All-cons (λ x. p x ≡ false) x xs parts.0
    (all_fail p xs parts.1)

pub AreAllApart-entered : (table : List OwnerLocks) (tx : ℕ) → AreAllApart table → is_owner table tx ≡ false →
    AreAllApart (entered table tx)
AreAllApart-entered [] tx a n = (All-nil _, tt)
AreAllApart-entered (h ∷ table) tx a n =
    let parts = either_false (h.owner == tx) (is_owner table tx) n in (
      All-push (AreApart h) table _ a.0 (record {
        numbers = eqb-false h.owner tx parts.0;
        locks = λ k d b. All-nil _;
      }),
      AreAllApart-entered table tx a.1 parts.1,
    )

-- ---- leaving

pub AreAllApart-filter : (p : OwnerLocks → Bool) (table : List OwnerLocks) → AreAllApart table →
    AreAllApart (filter p table)
AreAllApart-filter p [] a = tt
AreAllApart-filter p (h ∷ table) a =
    elim (p h) as (λ b. AreAllApart (cond b (h ∷ filter p table) (filter p table))) [
      | true ↦ (All-filter p (AreApart h) table a.0, AreAllApart-filter p table a.1)
      | false ↦ AreAllApart-filter p
          table a.1
    ]

-- ---- other locks for one owner

-- these locks don't conflict with those of an owner of another number
abbrev pub Spares : ℕ → List Lock → OwnerLocks → Type 0
Spares tx locks h = h.owner ≢ tx → NoConflicts locks h.locks

apart : (tx : ℕ) (locks : List Lock) (x y : OwnerLocks) (b c : Bool) → (x.owner == tx) ≡ b → (y.owner == tx) ≡ c →
    Spares tx locks x → Spares tx locks y → AreApart x y
    → AreApart (cond b (record { owner = x.owner; locks = locks }) x)
    (cond c (record { owner = y.owner; locks = locks }) y)
apart tx locks x y true true e f p q a = absurd (a.numbers (eqb-true _ _ e ∙ sym (eqb-true _ _ f)))
apart tx locks x y true false e f p q a = record { numbers = a.numbers; locks = q (eqb-false y.owner tx f) }
apart tx locks x y false true e f p q a = record {
  numbers = a.numbers;
  locks = NoConflicts-comm locks x.locks (p (eqb-false x.owner tx e));
}
apart tx locks x y false false e f p q a = a

pub AreAllApart-with_locks : (table : List OwnerLocks) (tx : ℕ) (locks : List Lock) → AreAllApart table →
    All (Spares tx locks) table → AreAllApart (with_locks table tx locks)
AreAllApart-with_locks [] tx locks a s = tt
AreAllApart-with_locks (h ∷ table) tx locks a s = (
  All-map (AreApart (cond (h.owner == tx) (record h { locks = locks }) h))
      (λ (g : OwnerLocks). cond (g.owner == tx) (record g { locks = locks }) g) table
      (λ k d b. apart tx locks h (get_or table k d) _ _ refl refl (All-head (Spares tx locks) h table s)
      (All-tail (Spares tx locks) h table s k d b) (a.0 k d b)),
  AreAllApart-with_locks table tx locks a.1 (All-tail (Spares tx locks) h table s),
)

-- ---- which locks spare the others

pub spares_none : (x : OwnerLocks) (table : List OwnerLocks) (tx : ℕ) → All (AreApart x) table →
    NoConflicts x.locks (locks_owned table tx)
spares_none x [] tx a = λ k d b. All-nil _
spares_none x (h ∷ table) tx a =
    elim (h.owner == tx) as (λ b. NoConflicts x.locks (cond b h.locks (locks_owned table tx))) [
      | true ↦ (All-head (AreApart x) h table a).locks
      | false ↦ spares_none x table tx
          (All-tail (AreApart x) h table a)
    ]

head_spares : (x : OwnerLocks) (table : List OwnerLocks) (tx : ℕ) (b : Bool) → (x.owner == tx) ≡ b →
    All (AreApart x) table → Spares tx (cond b x.locks (locks_owned table tx)) x
head_spares x table tx true e a = λ n. absurd (n (eqb-true _ _ e))
head_spares x table tx false e a = λ _. NoConflicts-comm x.locks (locks_owned table tx) (spares_none x table tx a)

-- an owner's own locks spare the others
pub Spares-own : (table : List OwnerLocks) (tx : ℕ) → AreAllApart table → All (Spares tx (locks_owned table tx)) table
Spares-own [] tx a = All-nil _
Spares-own (x ∷ table) tx a =
    All-cons (Spares tx (locks_owned (x ∷ table) tx)) x table (head_spares x table tx _ refl a.0)
    (elim (x.owner == tx) as (λ b. All (Spares tx (cond b x.locks (locks_owned table tx))) table)
    [ true ↦ (λ k d b _. (a.0 k d b).locks) | false ↦ Spares-own table tx a.1 ])

pub Spares-take : (table : List OwnerLocks) (tx n : ℕ) (locks : List Lock) → All (Spares tx locks) table →
    All (Spares tx (take n locks)) table
Spares-take table tx n locks s = λ k d b e. All-take (λ l. All (λ m. conflicts l m ≡ false) (get_or table k d).locks) n
    locks (s k d b e)

pub Spares-push : (table : List OwnerLocks) (tx : ℕ) (locks : List Lock) (asked : Lock) → All (Spares tx locks) table →
    All (λ h. h.owner ≢ tx → has_conflict asked h ≡ false) table → All (Spares tx (locks ++ asked ∷ [])) table
Spares-push table tx locks asked s free = λ k d b e. All-push
    (λ l. All (λ m. conflicts l m ≡ false) (get_or table k d).locks) locks asked (s k d b e)
    (all_fail (conflicts asked) (get_or table k d).locks (free k d b e))

pub Spares-with_lock : (table : List OwnerLocks) (tx : ℕ) (locks : List Lock) (asked : Lock) →
    All (Spares tx locks) table → All (λ h. h.owner ≢ tx → has_conflict asked h ≡ false) table →
    All (Spares tx (with_lock locks asked)) table
Spares-with_lock table tx locks asked s free =
    elim (is_covered locks asked) as (λ b. All (Spares tx (cond b locks (locks ++ asked ∷ []))) table)
    [ true ↦ s | false ↦ Spares-push table tx locks asked s free ]

-- where nobody blocks the asked lock, each other owner's locks are free of conflicts with it
freed : (h : OwnerLocks) (rest : List OwnerLocks) (tx : ℕ) (asked : Lock) (b c : Bool) → (h.owner == tx) ≡ b →
    has_conflict asked h ≡ c
    → map (λ (g : OwnerLocks). g.owner) (cond (not b && c) (h ∷ rest) rest) ≡ [] →
    (h.owner ≢ tx → has_conflict asked h ≡ false) × (map (λ (g : OwnerLocks). g.owner) rest ≡ [])
freed h rest tx asked true c e f n = (λ k. absurd (k (eqb-true _ _ e)), n)
freed h rest tx asked false true e f n = cc
freed h rest tx asked false false e f n = (λ _. f, n)

pub blockers-none : (table : List OwnerLocks) (tx : ℕ) (asked : Lock) → blockers table tx asked ≡ [] →
    All (λ h. h.owner ≢ tx → has_conflict asked h ≡ false) table
blockers-none [] tx asked e = All-nil _
blockers-none (h ∷ table) tx asked e =
    let parts = freed h _ tx asked _ _ refl refl e in
    All-cons (λ h. h.owner ≢ tx → has_conflict asked h ≡ false) h table parts.0 (blockers-none table tx asked parts.1)

-- ---- exclusive locks on one key

pub filter_none : {X : Type 0} (p : X → Bool) (xs : List X) → All (λ x. p x ≡ false) xs → filter p xs ≡ []
filter_none p [] a = refl
filter_none p (x ∷ xs) a =
    ap (λ b. cond b (x ∷ filter p xs) (filter p xs)) (All-head (λ x. p x ≡ false) x xs a) ∙
    filter_none p xs (All-tail (λ x. p x ≡ false) x xs a)

not_true : (b : Bool) → (b ≡ true → ⊥) → b ≡ false
not_true true h = absurd (h refl)
not_true false h = refl

not_both : (key : OrderedKey) (h g : OwnerLocks) → AreApart h g → is_exclusive_at key h ≡ true →
    is_exclusive_at key g ≡ false
not_both key h g a e =
    let holds : Lock → Bool = λ l. is_exclusive l.mode && within l.range key in
    let some = Any-from_list_any holds h.locks e in
    list_any_none holds g.locks (λ j d c. not_true (holds (get_or g.locks j d)) (λ t.
    both_ways (conflicts (get_or h.locks some.0 some.1) (get_or g.locks j d))
    (a.locks some.0 some.1 some.2 j d c)
    (exclusive-conflicts _ _ key (subst (λ (l : Lock). holds l ≡ true) (sym some.3) some.4) t)))

found : (key : OrderedKey) (h : OwnerLocks) (table : List OwnerLocks) (b : Bool) → is_exclusive_at key h ≡ b →
    All (AreApart h) table
    → exclusive_holders table key ≡ option_to_list
    (option_map (λ (g : OwnerLocks). g.owner) (find (is_exclusive_at key) table))
    → map (λ (g : OwnerLocks). g.owner) (cond b (h ∷ filter (is_exclusive_at key) table)
    (filter (is_exclusive_at key) table)) ≡ option_to_list
    (option_map (λ (g : OwnerLocks). g.owner) (cond b (Some h) (find (is_exclusive_at key) table)))
found key h table true e a rest = ap (λ gs. h.owner ∷ map (λ (g : OwnerLocks). g.owner) gs)
    (filter_none (is_exclusive_at key) table (λ k d b. not_both key h (get_or table k d) (a k d b) e))
found key h table false e a rest = rest

-- one owner at most holds an exclusive lock on a key: the first one found
pub exclusive_holders-find : (table : List OwnerLocks) (key : OrderedKey) → AreAllApart table →
    exclusive_holders table key ≡ option_to_list (option_map (λ (h : OwnerLocks). h.owner)
    (find (is_exclusive_at key) table))
exclusive_holders-find [] key a = refl
exclusive_holders-find (h ∷ table) key a = found key h table _ refl a.0 (exclusive_holders-find table key a.1)

-- ---- what a call makes of its owner

-- some of an owner's locks
pub AreAllApart-take : (table : List OwnerLocks) (tx n : ℕ) → AreAllApart table →
    AreAllApart (with_locks table tx (take n (locks_owned table tx)))
AreAllApart-take table tx n a = AreAllApart-with_locks table tx _ a
    (Spares-take table tx n (locks_owned table tx) (Spares-own table tx a))

-- one lock more, which nobody blocks
pub AreAllApart-with_lock : (table : List OwnerLocks) (tx : ℕ) (asked : Lock) → AreAllApart table →
    blockers table tx asked ≡ [] → AreAllApart (with_locks table tx (with_lock (locks_owned table tx) asked))
AreAllApart-with_lock table tx asked a free =
    AreAllApart-with_locks table tx _ a (Spares-with_lock table tx (locks_owned table tx) asked (Spares-own table tx a)
    (blockers-none table tx asked free))
