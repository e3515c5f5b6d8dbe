-- Whole bodies: they depend on the keys under their locks, and leave each key as it is that they haven't exclusively
-- locked.
use Rattle.std.proofs.Common.{◌≡◌, List, [], ◌∷◌, ◌++◌, Bool, true, false, refl, sym, ◌∙◌, ⊎_elim, inl, inr, ◌⊎◌}
use Rattle.std.proofs.Common.{Option, Some, None}
use Rattle.std.specs.Prelude.{◌||◌, not}
use Rattle.std.specs.List.{list_any}
use Rattle.std.specs.FinMap.{get}
use Rattle.std.proofs.lemmas.Bool.{false≢true, both_ways, and_parts, and_from, or_cases, or_left, or_right, cond_both}
use Rattle.std.proofs.lemmas.Bool.{false_from_ne_true}
use Rattle.std.proofs.lemmas.List.Folds.{list_any-append}
use Rattle.am_record.specs.OrderedKey.{OrderedKey}
use Rattle.am_record.specs.Interval.{key_le, within, encloses, meets}
use Rattle.am_record.specs.declared.lock.Mode.{Mode}
use Rattle.am_record.specs.declared.lock.Mode.TheVariants.{Shared, Exclusive}
use Rattle.am_record.specs.declared.lock.Lock.{Lock}
use Rattle.am_record.specs.declared.step.Op.{Op}
use Rattle.am_record.specs.Plain.{PlainMap, Draft, fresh, answer, draft_after, answers_on, left_on, answers, left}
use Rattle.am_record.specs.Plain.{is_orderly}
use Rattle.am_record.specs.Locks.{is_exclusive, are_compatible, covers, conflicts, is_covered, with_lock}
use Rattle.am_record.specs.Asks.{lock_of, with_asked, clashes, locks_from, locks_of, has_key, owns_key, holds, owns}
use Rattle.am_record.proofs.KeyOrder.{key_le_trans, encloses_key}
use Rattle.am_record.proofs.Bodies.{answers_on_push, locks_from_push}
use Rattle.am_law_serial.specs.Agreement.{Agree, Alike, Has}
use Rattle.am_law_serial.proofs.Maps.{of_asked, reads, writes, Within}
use Rattle.am_law_serial.proofs.Drafts.{fresh_alike, same_answer, still_alike, fresh_has, still_has}

abbrev pub AllOrderly : List Op → Type 0
AllOrderly [] = Unit {0}
AllOrderly (op ∷ ops) = (is_orderly op ≡ true) × AllOrderly ops

pub orderly_push : (ops : List Op) (op : Op) → AllOrderly ops → is_orderly op ≡ true → AllOrderly (ops ++ op ∷ [])
orderly_push [] op h k = (k, tt)
orderly_push (o ∷ ops) op h k = (h.0, orderly_push ops op h.1 k)

-- what an operation may read is in S, and what it may write in X
pub record InScope (S X : OrderedKey → Bool) (op : Op) : Type 0 where
  pub orderly : is_orderly op ≡ true
  pub reads : Within (reads op) S
  pub writes : Within (writes op) X

abbrev pub AllInScope : (OrderedKey → Bool) → (OrderedKey → Bool) → List Op → Type 0
AllInScope S X [] = Unit {0}
AllInScope S X (op ∷ ops) = InScope S X op × AllInScope S X ops

module _ (S X : OrderedKey → Bool) where
  answers_alike : (ops : List Op) (d e : Draft) → AllInScope S X ops → Alike S d e → answers_on ops d ≡ answers_on ops e
  answers_alike [] d e s a = refl
  answers_alike (op ∷ ops) d e s a =
      let first = same_answer op d e s.0.orderly s.0.reads a in
      let rest = answers_alike ops (draft_after op d) (draft_after op e) s.1
      (still_alike op d e s.0.orderly s.0.reads a) in
      λ i. first i ∷ rest i

  left_alike : (ops : List Op) (d e : Draft) → AllInScope S X ops → Alike S d e →
      Alike S (left_on ops d) (left_on ops e)
  left_alike [] d e s a = a
  left_alike (op ∷ ops) d e s a = left_alike ops (draft_after op d) (draft_after op e) s.1
      (still_alike op d e s.0.orderly s.0.reads a)

  left_has : (ops : List Op) (d : Draft) (q : OrderedKey) (m : PlainMap) → AllInScope S X ops → X q ≡ false →
      Has q m d → Has q m (left_on ops d)
  left_has [] d q m s h a = a
  left_has (op ∷ ops) d q m s h a = left_has ops (draft_after op d) q m s.1 h
      (still_has op d q m s.0.orderly (false_from_ne_true (writes op q) (λ e. both_ways (X q) h (s.0.writes.at q e))) a)

  -- a body alone on maps that agree on what it may read
  pub answers_local : (ops : List Op) (m n : PlainMap) → AllInScope S X ops → Agree S m n →
      answers ops m ≡ answers ops n
  answers_local ops m n s a = answers_alike ops (fresh m) (fresh n) s (fresh_alike a)

  pub view_local : (ops : List Op) (m n : PlainMap) → AllInScope S X ops → Agree S m n →
      Alike S (left_on ops (fresh m)) (left_on ops (fresh n))
  view_local ops m n s a = left_alike ops (fresh m) (fresh n) s (fresh_alike a)

  pub left_local : (ops : List Op) (m n : PlainMap) → AllInScope S X ops → Agree S m n →
      Agree S (left ops m) (left ops n)
  left_local ops m n s a = (view_local ops m n s a).map

  -- nothing that it may not write changes, neither in the map nor in what it saved
  pub view_frame : (ops : List Op) (m : PlainMap) (q : OrderedKey) → AllInScope S X ops → X q ≡ false →
      Has q m (left_on ops (fresh m))
  view_frame ops m q s h = left_has ops (fresh m) q m s h (fresh_has q m)

  pub left_frame : (ops : List Op) (m : PlainMap) (q : OrderedKey) → AllInScope S X ops → X q ≡ false →
      get (left ops m) q ≡ get m q
  left_frame ops m q s h = (view_frame ops m q s h).map

pub answers_push : (ops : List Op) (op : Op) (m : PlainMap) → answers (ops ++ op ∷ []) m ≡ answers ops m ++
    answer op (left_on ops (fresh m)) ∷ []
answers_push ops op m = answers_on_push ops op (fresh m)

-- ---- locks

pub list_any_weaker : {A : Type 0} (p q : A → Bool) → ((x : A) → p x ≡ true → q x ≡ true) → (xs : List A) →
    list_any p xs ≡ true → list_any q xs ≡ true
list_any_weaker p q w [] h = absurd (false≢true h)
list_any_weaker p q w (x ∷ xs) h =
    ⊎_elim (λ here. or_left (q x) (list_any q xs) (w x here))
    (λ later. or_right (q x) (list_any q xs) (list_any_weaker p q w xs later)) (or_cases (p x) (list_any p xs) h)

-- the test that goes from a lock to each that covers it
pub record GoesUp (test : Lock → Bool) : Type 0 where
  pub up : (own asked : Lock) → covers own asked ≡ true → test asked ≡ true → test own ≡ true

module _ (test : Lock → Bool) where
  with_lock_keeps : (locks : List Lock) (asked : Lock) → list_any test locks ≡ true →
      list_any test (with_lock locks asked) ≡ true
  with_lock_keeps locks asked h =
      cond_both (is_covered locks asked) locks (locks ++ asked ∷ []) (λ ls. list_any test ls ≡ true)
      (λ _. h)
      (λ _. list_any-append test locks (asked ∷ []) ∙ or_left (list_any test locks) (list_any test (asked ∷ [])) h)

  with_lock_has : GoesUp test → (locks : List Lock) (asked : Lock) → test asked ≡ true →
      list_any test (with_lock locks asked) ≡ true
  with_lock_has g locks asked h =
      cond_both (is_covered locks asked) locks (locks ++ asked ∷ []) (λ ls. list_any test ls ≡ true)
      (λ c. list_any_weaker (λ own. covers own asked) test (λ own k. g.up own asked k h) locks c)
      (λ _. list_any-append test locks (asked ∷ []) ∙ or_right (list_any test locks) (list_any test (asked ∷ []))
      (or_left (test asked) false h))

  with_lock_only : (locks : List Lock) (asked : Lock) → list_any test (with_lock locks asked) ≡ true →
      (list_any test locks ≡ true) ⊎ (test asked ≡ true)
  with_lock_only locks asked =
      cond_both (is_covered locks asked) locks (locks ++ asked ∷ []) (λ ls. list_any test ls ≡ true →
      (list_any test locks ≡ true) ⊎ (test asked ≡ true))
      (λ _ h. inl h)
      (λ _ h. ⊎_elim (λ old. inl old) (λ new. ⊎_elim (λ k. inr k) (λ k. absurd (false≢true k))
      (or_cases (test asked) false new))
      (or_cases (list_any test locks) (list_any test (asked ∷ [])) (sym (list_any-append test locks (asked ∷ [])) ∙ h)))

  -- the same where perhaps nothing is asked for
  pub asked_keeps : (locks : List Lock) (asked : Option Lock) → list_any test locks ≡ true →
      list_any test (with_asked locks asked) ≡ true
  asked_keeps locks None h = h
  asked_keeps locks (Some asked) h = with_lock_keeps locks asked h

  pub asked_has : GoesUp test → (locks : List Lock) (asked : Option Lock) → of_asked test asked ≡ true →
      list_any test (with_asked locks asked) ≡ true
  asked_has g locks None h = absurd (false≢true h)
  asked_has g locks (Some asked) h = with_lock_has g locks asked h

  pub asked_only : (locks : List Lock) (asked : Option Lock) → list_any test (with_asked locks asked) ≡ true →
      (list_any test locks ≡ true) ⊎ (of_asked test asked ≡ true)
  asked_only locks None h = inl h
  asked_only locks (Some asked) h = with_lock_only locks asked h

  locks_from_keeps : (ops : List Op) (locks : List Lock) → list_any test locks ≡ true →
      list_any test (locks_from locks ops) ≡ true
  locks_from_keeps [] locks h = h
  locks_from_keeps (op ∷ ops) locks h = locks_from_keeps ops (with_asked locks (lock_of op))
      (asked_keeps locks (lock_of op) h)

pub locks_of-push : (ops : List Op) (op : Op) → locks_of (ops ++ op ∷ []) ≡ with_asked (locks_of ops) (lock_of op)
locks_of-push ops op = locks_from_push ops op []

has_key_up : (q : OrderedKey) → GoesUp (has_key q)
has_key_up q = record {
  up = λ own asked c h. encloses_key own.range asked.range q
      (and_parts (encloses own.range asked.range) (is_exclusive own.mode || not (is_exclusive asked.mode)) c).0 h;
}

stronger : (own asked : Bool) → (own || not asked) ≡ true → asked ≡ true → own ≡ true
stronger true asked h k = refl
stronger false true h k = absurd (false≢true h)
stronger false false h k = absurd (false≢true k)

pub owns_key_up : (q : OrderedKey) → GoesUp (owns_key q)
owns_key_up q = record {
  up = λ own asked c h.
      let a = and_parts (encloses own.range asked.range) (is_exclusive own.mode || not (is_exclusive asked.mode)) c in
      let b = and_parts (is_exclusive asked.mode) (within asked.range q) h in
      and_from (is_exclusive own.mode) (within own.range q)
      (stronger (is_exclusive own.mode) (is_exclusive asked.mode) a.1 b.0)
      (encloses_key own.range asked.range q a.0 b.1);
}

pub owns_holds : (locks : List Lock) (q : OrderedKey) → owns locks q ≡ true → holds locks q ≡ true
owns_holds locks q = list_any_weaker (owns_key q) (has_key q)
    (λ l h. (and_parts (is_exclusive l.mode) (within l.range q) h).1) locks

pub writes_reads : (op : Op) (q : OrderedKey) → writes op q ≡ true → reads op q ≡ true
writes_reads op q = at (lock_of op)
  where
    at : (asked : Option Lock) → of_asked (owns_key q) asked ≡ true → of_asked (has_key q) asked ≡ true
    at None h = h
    at (Some l) h = (and_parts (is_exclusive l.mode) (within l.range q) h).1

scope_from : (ops : List Op) (locks : List Lock) → AllOrderly ops → AllInScope (holds (locks_from locks ops))
    (owns (locks_from locks ops)) ops
scope_from [] locks o = tt
scope_from (op ∷ ops) locks o = (
  record {
    orderly = o.0;
    reads = record {
      at = λ q h. locks_from_keeps (has_key q) ops (with_asked locks (lock_of op))
          (asked_has (has_key q) (has_key_up q) locks (lock_of op) h);
    };
    writes = record {
      at = λ q h. locks_from_keeps (owns_key q) ops (with_asked locks (lock_of op))
          (asked_has (owns_key q) (owns_key_up q) locks (lock_of op) h);
    };
  },
  scope_from ops (with_asked locks (lock_of op)) o.1,
)

-- a body stays within its locks
pub scope_of : (ops : List Op) → AllOrderly ops → AllInScope (holds (locks_of ops)) (owns (locks_of ops)) ops
scope_of ops o = scope_from ops [] o

-- no key that the first locks have is exclusively held by the others
pub record Apart (a b : List Lock) : Type 0 where
  pub at : (q : OrderedKey) → holds a q ≡ true → owns b q ≡ true → ⊥

clash_left : (a b : Mode) → is_exclusive a ≡ true → not (are_compatible a b) ≡ true
clash_left Exclusive Shared h = refl
clash_left Exclusive Exclusive h = refl
clash_left Shared b h = absurd (false≢true h)

clash_right : (a b : Mode) → is_exclusive b ≡ true → not (are_compatible a b) ≡ true
clash_right Shared Exclusive h = refl
clash_right Exclusive Exclusive h = refl
clash_right a Shared h = absurd (false≢true h)

common_key : (a b : Lock) (q : OrderedKey) → has_key q a ≡ true → has_key q b ≡ true →
    not (are_compatible a.mode b.mode) ≡ true → conflicts a b ≡ true
common_key a b q h k x =
    let ha = and_parts (key_le a.range.lo q) (key_le q a.range.hi) h in
    let hb = and_parts (key_le b.range.lo q) (key_le q b.range.hi) k in
    and_from (meets a.range b.range) (not (are_compatible a.mode b.mode))
    (and_from (key_le a.range.lo b.range.hi) (key_le b.range.lo a.range.hi)
    (key_le_trans a.range.lo q b.range.hi ha.0 hb.1) (key_le_trans b.range.lo q a.range.hi hb.0 ha.1)) x

-- what is asked for and conflicts with none of these: what it has they don't own, and what it owns they don't have
pub not_owned : (asked : Option Lock) (locks : List Lock) (q : OrderedKey) → clashes asked locks ≡ false →
    of_asked (has_key q) asked ≡ true → owns locks q ≡ true → ⊥
not_owned None locks q free h o = false≢true h
not_owned (Some asked) locks q free h o = both_ways (list_any (conflicts asked) locks) free
    (list_any_weaker (owns_key q) (conflicts asked) (λ l k.
    let parts = and_parts (is_exclusive l.mode) (within l.range q) k in
    common_key asked l q h parts.1 (clash_right asked.mode l.mode parts.0)) locks o)

pub not_held : (asked : Option Lock) (locks : List Lock) (q : OrderedKey) → clashes asked locks ≡ false →
    of_asked (owns_key q) asked ≡ true → holds locks q ≡ true → ⊥
not_held None locks q free o h = false≢true o
not_held (Some asked) locks q free o h =
    let parts = and_parts (is_exclusive asked.mode) (within asked.range q) o in
    both_ways (list_any (conflicts asked) locks) free (list_any_weaker (has_key q) (conflicts asked) (λ l k.
    common_key asked l q parts.1 k (clash_left asked.mode l.mode parts.0)) locks h)

-- what one transaction leaves is to another the same as before, where their locks are apart
pub answers_apart : (ops others : List Op) (m : PlainMap) → AllOrderly ops → AllOrderly others →
    Apart (locks_of ops) (locks_of others) → answers ops m ≡ answers ops (left others m)
answers_apart ops others m o p apart =
    answers_local (holds (locks_of ops)) (owns (locks_of ops)) ops m (left others m) (scope_of ops o)
    (record {
      at = λ q h. sym (left_frame (holds (locks_of others)) (owns (locks_of others)) others m q
          (scope_of others p) (false_from_ne_true (owns (locks_of others) q) (λ e. apart.at q h e)));
    })

pub scope_within : (S S' X : OrderedKey → Bool) → Within S S' → (ops : List Op) → AllInScope S X ops →
    AllInScope S' X ops
scope_within S S' X w [] s = tt
scope_within S S' X w (op ∷ ops) s = (
  record {
    orderly = s.0.orderly;
    reads = record { at = λ q h. w.at q (s.0.reads.at q h) };
    writes = s.0.writes;
  },
  scope_within S S' X w ops s.1,
)
