-- No answer to an operation is longer than its longest one.
use Rattle.std.proofs.Common.{◌≡◌, ℕ, ◌+◌, ◌*◌, ◌≤◌, length, take, cond, not, ◌&&◌, List, [], ◌∷◌, ◌++◌}
use Rattle.std.proofs.Common.{inl, inr, true, false, decimal, refl, sym, ap, ◌∙◌, subst, arith}
use Rattle.std.specs.Prelude.{codes, nat_le, Option, Some, None}
use Rattle.std.specs.List.{AllByRecursion}
use Rattle.std.proofs.lemmas.Bool.{cond_both, cases_Bool, true≢false, leb-true, and_parts}
use Rattle.std.proofs.lemmas.List.{length-append, length-take}
use Rattle.std.proofs.lemmas.Fmt.{length-decimal-le}
use Rattle.am_record.specs.Limits.{max_ops}
use Rattle.am_record.specs.OrderedKey.{OrderedKey}
use Rattle.am_record.specs.Asks.{lock_of, locks_of}
use Rattle.am_record.specs.Interval.{within}
use Rattle.am_record.specs.Plain.{PlainMap, Records, Draft, fresh, answer, left_on, found, exists_or_done}
use Rattle.am_record.specs.Plain.{went_back, is_orderly, rows_where}
use Rattle.am_record.specs.Refusals.{is_bounded, is_one_too_many, lock_refusal, or_else, refusal_before_lock}
use Rattle.am_record.specs.Refusals.{may_make_run, is_row_limit}
use Rattle.am_record.specs.declared.step.Op.{Op}
use Rattle.am_record.specs.declared.step.Op.TheVariants.{Get, Scan, ScanBack, Insert, Replace, Set, Delete, DeleteRange}
use Rattle.am_record.specs.declared.step.Op.TheVariants.{Load, Put, Lock, Mark, Back}
use Rattle.am_record.specs.declared.step.Reply.{Reply}
use Rattle.am_record.specs.declared.step.Reply.TheVariants.{Done, Found, Absent, Rows, Exists, Missing, Deleted}
use Rattle.am_record.specs.declared.step.Reply.TheVariants.{NoMark, Begun, Committed, Aborted, Moved, MergeDone, Ended}
use Rattle.am_record.specs.declared.step.Reply.TheVariants.{Idle, Cleaned, Refused}
use Rattle.am_record.specs.declared.step.Refusal.{Refusal}
use Rattle.am_line_text.specs.Keys.{printed_key}
use Rattle.am_line_wire.specs.Replies.{text_of, row_words, rows_words}
use Rattle.am_replica.specs.Bodies.{refusal_behind, reply_by, reply_behind}
use Rattle.am_replica_trials.specs.Bounds.{IsShortRow, TellsShort}
use Rattle.am_replica_trials.specs.Trials.{most_rows, longest_answer}

-- ---- rows

row_short : (row : OrderedKey × List ℕ) → IsShortRow row → length (row_words row) ≤ 98
row_short row short =
    let field = length-append (printed_key row.0) (0x3D ∷ row.1) in
    let key = short.key in
    let value = short.value in
    omega (arith, field, key, value)

rows_short : (rows : Records) → AllByRecursion IsShortRow rows → length (rows_words rows) ≤ 98 * length rows
rows_short [] short = omega arith
rows_short (row ∷ rows) short =
    let both = length-append (row_words row) (rows_words rows) in
    let one = row_short row short.0 in
    let others = rows_short rows short.1 in
    omega (arith, both, one, others)

-- a number of rows has four digits at most
digits : (n : ℕ) → n ≤ 1000 → length (decimal n) ≤ 4
digits n few = length-decimal-le 4 n (omega arith) (omega (arith, few)) (omega (arith, few))

-- ---- replies to operations

-- what an operation that isn't refused may be answered, by so many rows at most
abbrev MayTell : ℕ → Reply → Type 0
MayTell most Done = Unit {0}
MayTell most (Found value) = Unit {0}
MayTell most Absent = Unit {0}
MayTell most (Rows rows) = (length rows ≤ most) × (most ≤ 1000)
MayTell most (Exists key) = Unit {0}
MayTell most Missing = Unit {0}
MayTell most (Deleted n) = n ≤ 1000
MayTell most NoMark = Unit {0}
MayTell most reply = ⊥

told_short : (most : ℕ) (reply : Reply) → MayTell most reply → TellsShort reply → length (text_of reply) ≤
    110 + 98 * most
told_short most Done may short = omega arith
told_short most (Found value) may short =
    let whole = length-append (codes "VAL " ++ value) (10 ∷ []) in
    let word = length-append (codes "VAL ") value in
    omega (arith, whole, word, short)
told_short most Absent may short = omega arith
told_short most (Rows rows) may short =
    let whole = length-append ((codes "ROWS " ++ decimal (length rows)) ++ rows_words rows) (10 ∷ []) in
    let parts = length-append (codes "ROWS " ++ decimal (length rows)) (rows_words rows) in
    let head = length-append (codes "ROWS ") (decimal (length rows)) in
    let few = may.0 in
    let most_few = may.1 in
    let number = digits (length rows) (omega (arith, few, most_few)) in
    let all = rows_short rows short in
    omega (arith, whole, parts, head, number, all, few)
told_short most (Exists key) may short =
    let whole = length-append (codes "EXISTS " ++ printed_key key) (10 ∷ []) in
    let word = length-append (codes "EXISTS ") (printed_key key) in
    omega (arith, whole, word, short)
told_short most Missing may short = omega arith
told_short most (Deleted n) may short =
    let whole = length-append (codes "DELETED " ++ decimal n) (10 ∷ []) in
    let word = length-append (codes "DELETED ") (decimal n) in
    let number = digits n may in
    omega (arith, whole, word, number)
told_short most NoMark may short = omega arith
told_short most (Begun tx) may short = absurd may
told_short most (Committed number) may short = absurd may
told_short most Aborted may short = absurd may
told_short most (Moved n run) may short = absurd may
told_short most MergeDone may short = absurd may
told_short most (Ended key holder) may short = absurd may
told_short most Idle may short = absurd may
told_short most (Cleaned n) may short = absurd may
told_short most (Refused why) may short = absurd may

-- ---- answers

taken_few : (most : ℕ) (rows : Records) → length (take most rows) ≤ most
taken_few most rows =
    let taken = length-take most rows in
    omega (arith, taken)

few_rows : (most : ℕ) → is_row_limit most ≡ true → most ≤ 1000
few_rows most bounded = leb-true most 1000 (and_parts (nat_le 1 most) (nat_le most 1000) bounded).1

may_find : (most : ℕ) (value : Option (List ℕ)) → MayTell most (found value)
may_find most None = tt
may_find most (Some v) = tt

may_exist : (most : ℕ) (key : Option OrderedKey) → MayTell most (exists_or_done key)
may_exist most None = tt
may_exist most (Some k) = tt

may_go_back : (most : ℕ) (saved : List PlainMap) → MayTell most (went_back saved)
may_go_back most [] = tt
may_go_back most (m ∷ ms) = tt

may_answer : (op : Op) (d : Draft) → is_bounded op ≡ true → MayTell (most_rows op) (answer op d)
may_answer (Get k) d bounded = may_find 0 _
may_answer (Scan range max) d bounded = (taken_few max _, few_rows max bounded)
may_answer (ScanBack range max) d bounded = (taken_few max _, few_rows max bounded)
may_answer (Insert k v) d bounded = cond_both _ (Exists k) Done (MayTell 0) (λ e. tt) (λ e. tt)
may_answer (Replace k v) d bounded = cond_both _ Done Missing (MayTell 0) (λ e. tt) (λ e. tt)
may_answer (Set k v) d bounded = tt
may_answer (Delete k) d bounded = cond_both _ Done Missing (MayTell 0) (λ e. tt) (λ e. tt)
may_answer (DeleteRange range max) d bounded =
    let few = few_rows max bounded in
    let taken = taken_few max (rows_where (within range) d.map) in
    omega (arith, few, taken)
may_answer (Load records) d bounded = may_exist 0 _
may_answer (Put records) d bounded = tt
may_answer (Lock lock) d bounded = tt
may_answer Mark d bounded = tt
may_answer Back d bounded = may_go_back 0 d.saved

-- ---- refusals

-- one that has a short text, where there is one
abbrev IsShortRefusal : Option Refusal → Type 0
IsShortRefusal None = Unit {0}
IsShortRefusal (Some why) = length (text_of (Refused why)) ≤ 110

or_short : (first later : Option Refusal) → IsShortRefusal first → IsShortRefusal later →
    IsShortRefusal (or_else first later)
or_short None later a b = b
or_short (Some why) later a b = a

refused_short : (own : List Op) (op : Op) → IsShortRefusal (refusal_behind own op)
refused_short own op =
    or_short (refusal_before_lock true (length own) false op)
    (lock_refusal None (is_one_too_many (locks_of own) (lock_of op)))
    (cond_both (nat_le max_ops (length own)) _ _ IsShortRefusal (λ e. omega arith) (λ e.
    cond_both (not (is_orderly op)) _ _ IsShortRefusal (λ e. omega arith) (λ e.
    cond_both (not (is_bounded op)) _ _ IsShortRefusal (λ e. omega arith) (λ e.
    cond_both (may_make_run op && false) _ _ IsShortRefusal (λ e. omega arith) (λ e. tt)))))
    (cond_both (is_one_too_many (locks_of own) (lock_of op)) _ _ IsShortRefusal (λ e. omega arith) (λ e. tt))

-- there is one
abbrev IsRefusal : Option Refusal → Type 0
IsRefusal None = ⊥
IsRefusal (Some why) = Unit {0}

or_refused : (first later : Option Refusal) → IsRefusal first → IsRefusal (or_else first later)
or_refused None later is = absurd is
or_refused (Some why) later is = tt

unbounded : (own : List Op) (op : Op) → is_bounded op ≡ false → IsRefusal (refusal_behind own op)
unbounded own op not_bounded =
    or_refused (refusal_before_lock true (length own) false op)
    (lock_refusal None (is_one_too_many (locks_of own) (lock_of op)))
    (cond_both (nat_le max_ops (length own)) _ _ IsRefusal (λ e. tt) (λ e.
    cond_both (not (is_orderly op)) _ _ IsRefusal (λ e. tt) (λ e.
    cond_both (not (is_bounded op)) _ _ IsRefusal (λ e. tt)
    (λ e. absurd (true≢false (sym (ap not not_bounded) ∙ e))))))

bounded_or_refused : (own : List Op) (op : Op) → refusal_behind own op ≡ None → is_bounded op ≡ true
bounded_or_refused own op none = elim (cases_Bool (is_bounded op)) [
  | inl is ↦ is
  | inr isnt ↦ absurd (subst IsRefusal none (unbounded own op isnt))
]

pub answers_short : (own : List Op) (m : PlainMap) (op : Op) → TellsShort (reply_behind own m op) →
    length (text_of (reply_behind own m op)) ≤ longest_answer op
answers_short own m op short = by (refusal_behind own op) refl short
  where
    by : (refusal : Option Refusal) → refusal_behind own op ≡ refusal →
        TellsShort (reply_by refusal (answer op (left_on own (fresh m)))) →
        length (text_of (reply_by refusal (answer op (left_on own (fresh m))))) ≤ longest_answer op
    by None is short =
        let bounded = bounded_or_refused own op is in
        let rows = ap (λ b. cond b (98 * most_rows op) 0) bounded in
        let told = told_short (most_rows op) (answer op (left_on own (fresh m)))
        (may_answer op (left_on own (fresh m)) bounded) short in
        omega (arith, rows, told)
    by (Some why) is short =
        let refused = subst IsShortRefusal is (refused_short own op) in
        omega (arith, refused)
