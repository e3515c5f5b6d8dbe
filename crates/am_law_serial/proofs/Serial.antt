-- Every run of the machine is serial and steady.
use Rattle.std.proofs.Common.{◌≡◌, ◌≢◌, ℕ, ◌+◌, ◌<◌, ◌≤◌, List, [], ◌∷◌, ◌++◌, length, map, Bool, true, false, cond}
use Rattle.std.proofs.Common.{refl, sym, ap, ◌∙◌, subst, ⊎_elim, inl, inr, ◌⊎◌, arith, length-append}
use Rattle.std.specs.Prelude.{◌==◌, filter}
use Rattle.std.specs.FinMap.{empty}
use Rattle.std.proofs.lemmas.Bool.{false≢true, both_ways, or_parts, or_cases, or_left, or_right, cases_lt, cond_both}
use Rattle.std.proofs.lemmas.Bool.{false_from_ne_true, eqb-true, eqb-false, eq-eqb}
use Rattle.std.proofs.lemmas.List.{map-append}
use Rattle.am_record.specs.declared.lock.Lock.{Lock}
use Rattle.am_record.specs.declared.step.Op.{Op}
use Rattle.am_record.specs.declared.step.Reply.{Reply}
use Rattle.am_record.specs.Plain.{PlainMap, fresh, answer, answers, left_on, left, is_orderly}
use Rattle.am_record.specs.Asks.{lock_of, with_asked, clashes, locks_of, has_key, owns_key, holds, owns}
use Rattle.am_law_serial.specs.Trace.{Answered, Effect, Begins, Answers, Commits, Aborts, Nothing, left_by_bodies}
use Rattle.am_law_serial.specs.Trace.{ops_of}
use Rattle.am_law_serial.specs.Trace.{IsAnsweredAlone, AreAnsweredInTurn}
use Rattle.am_law_serial.proofs.Bodies.{AllOrderly, orderly_push, Apart, locks_of-push, asked_only, not_owned, not_held}
use Rattle.am_law_serial.proofs.Bodies.{answers_apart, answers_push}
use Rattle.am_law_serial.proofs.Views.{View, push, among, active_in, active_parts, active_from, among_push}
use Rattle.am_law_serial.proofs.Views.{among_push_old}
use Rattle.am_law_serial.proofs.Views.{among_push_last, among_push_none, committed_in, same_bodies}

abbrev pub held_in : View → ℕ → List Lock
held_in v t = locks_of (ops_of (v.body t))

-- no number stands twice
abbrev pub AreDistinct : List ℕ → Type 0
AreDistinct [] = Unit {0}
AreDistinct (t ∷ ts) = (among ts t ≡ false) × AreDistinct ts

AreDistinct-push : (ts : List ℕ) (x : ℕ) → AreDistinct ts → among ts x ≡ false → AreDistinct (ts ++ x ∷ [])
AreDistinct-push [] x d h = (refl, tt)
AreDistinct-push (t ∷ ts) x d h =
    let parts = or_parts (t == x) (among ts x) h in
    (among_push_none ts x t d.0 (eqb-false t x parts.0), AreDistinct-push ts x d.1 parts.1)

-- the numbers rise, all above n
abbrev pub IsRisingFrom : ℕ → List ℕ → Type 0
IsRisingFrom n [] = Unit {0}
IsRisingFrom n (t ∷ ts) = (n < t) × IsRisingFrom t ts

pub IsRisingFrom-push : (n : ℕ) (ts : List ℕ) (x : ℕ) → IsRisingFrom n ts → n < x →
    ((u : ℕ) → among ts u ≡ true → u < x) → IsRisingFrom n (ts ++ x ∷ [])
IsRisingFrom-push n [] x r h b = (h, tt)
IsRisingFrom-push n (t ∷ ts) x r h b = (
  r.0,
  IsRisingFrom-push t ts x r.1
      (b t (or_left (t == t) (among ts t) (eq-eqb t t refl))) (λ u k. b u (or_right (t == u) (among ts u) k)),
)

pub IsRisingFrom-weaker : (m n : ℕ) (ts : List ℕ) → m ≤ n → IsRisingFrom n ts → IsRisingFrom m ts
IsRisingFrom-weaker m n [] h r = tt
IsRisingFrom-weaker m n (t ∷ ts) h r = let above = r.0 in (omega arith, r.1)

pub IsRisingFrom-filter : (n : ℕ) (p : ℕ → Bool) (ts : List ℕ) → IsRisingFrom n ts → IsRisingFrom n (filter p ts)
IsRisingFrom-filter n p [] r = tt
IsRisingFrom-filter n p (t ∷ ts) r =
    let above = r.0 in
    cond_both (p t) (t ∷ filter p ts) (filter p ts) (IsRisingFrom n)
    (λ _. (r.0, IsRisingFrom-filter t p ts r.1))
    (λ _. IsRisingFrom-filter n p ts (IsRisingFrom-weaker n t ts (omega arith) r.1))

pub above_all : (n : ℕ) (ts : List ℕ) → IsRisingFrom n ts → (u : ℕ) → among ts u ≡ true → n < u
above_all n [] r u h = absurd (false≢true h)
above_all n (t ∷ ts) r u h =
    let above = r.0 in
    ⊎_elim
    (λ here. let e : t ≡ u = eqb-true t u here in omega arith)
    (λ later. let more : t < u = above_all t ts r.1 u later in omega arith)
    (or_cases (t == u) (among ts u) h)

-- what holds of every trace that the machine makes
pub record Inv (v : View) : Type 0 where
  pub fresh : (t : ℕ) → length v.begun < t → (among v.begun t ≡ false) × (among v.ended t ≡ false) × (v.body t ≡ [])
  pub once : AreDistinct v.begun
  pub rising : IsRisingFrom 0 v.begun
  pub closed : (t : ℕ) → among v.committers t ≡ true → among v.ended t ≡ true
  pub orderly : (t : ℕ) → AllOrderly (ops_of (v.body t))
  pub apart : (t u : ℕ) → among (active_in v) t ≡ true → among (active_in v) u ≡ true → t ≢ u →
      Apart (held_in v t) (held_in v u)
  pub serial : AreAnsweredInTurn (map v.body v.committers) empty
  pub steady : (t : ℕ) → among (active_in v) t ≡ true → IsAnsweredAlone (v.body t) (committed_in v)

-- what an event may be
pub record MayAnswer (v : View) (t : ℕ) (op : Op) (reply : Reply) : Type 0 where
  pub active : among (active_in v) t ≡ true
  pub orderly : is_orderly op ≡ true
  pub free : (u : ℕ) → among (active_in v) u ≡ true → u ≢ t → clashes (lock_of op) (held_in v u) ≡ false
  pub answered : reply ≡ answer op (left_on (ops_of (v.body t)) (fresh (committed_in v)))

abbrev pub MayBe : View → Effect → Type 0
MayBe v (Begins t) = t ≡ length v.begun + 1
MayBe v (Answers t op reply) = MayAnswer v t op reply
MayBe v (Commits t) = among (active_in v) t ≡ true
MayBe v (Aborts t) = among (active_in v) t ≡ true
MayBe v Nothing = Unit {0}

pub by_contradiction : (a b : ℕ) → (b ≤ a → ⊥) → a < b
by_contradiction a b h = ⊎_elim (λ lt. lt) (λ le. absurd (h le)) (cases_lt a b)

-- ---- the empty trace

abbrev pub none : View
none = record { begun = []; ended = []; committers = []; runs = 0; body = λ _. [] }

-- ---- a transaction begins

module _ (v : View) (inv : Inv v) (t0 : ℕ) (new : t0 ≡ length v.begun + 1) where
  pub begins_was : (t : ℕ) → among (active_in (push v (Begins t0))) t ≡ true → (among (active_in v) t ≡ true) ⊎ (t ≡ t0)
  begins_was t h =
      let parts = active_parts (push v (Begins t0)) t h in
      ⊎_elim (λ old. inl (active_from v t old parts.1)) (λ e. inr e) (among_push v.begun t0 t parts.0)

  pub no_body : (t : ℕ) → t ≡ t0 → v.body t ≡ []
  no_body t e = let above : length v.begun < t = omega arith in (inv.fresh t above).2

  begins_inv : Inv (push v (Begins t0))
  begins_inv = record {
    fresh = λ t h.
        let longer = length-append v.begun (t0 ∷ []) in
        let above : length v.begun < t = omega arith in
        let apart : t ≢ t0 = λ e. let no : ⊥ = omega arith in no in
        (among_push_none v.begun t0 t (inv.fresh t above).0 apart, (inv.fresh t above).1, (inv.fresh t above).2);
    rising = IsRisingFrom-push 0 v.begun t0 inv.rising (omega arith) (λ u h. by_contradiction u t0 (λ le.
        let above : length v.begun < u = omega arith in both_ways (among v.begun u) (inv.fresh u above).0 h));
    once = let above : length v.begun < t0 = omega arith in AreDistinct-push v.begun t0 inv.once (inv.fresh t0 above).0;
    closed = inv.closed;
    orderly = inv.orderly;
    apart = λ t u ht hu n. record {
      at = λ q a b.
          ⊎_elim
          (λ old. ⊎_elim
          (λ old'. (inv.apart t u old old' n).at q a b)
          (λ e. false≢true (subst (λ (done : List Answered). owns (locks_of (ops_of done)) q ≡ true) (no_body u e) b))
          (begins_was u hu))
          (λ e. false≢true (subst (λ (done : List Answered). holds (locks_of (ops_of done)) q ≡ true) (no_body t e) a))
          (begins_was t ht);
    };
    serial = inv.serial;
    steady = λ t ht. ⊎_elim (inv.steady t) (λ e. subst (λ done. IsAnsweredAlone done (committed_in v))
        (sym (no_body t e)) refl) (begins_was t ht);
  }

-- ---- an operation is answered

module _ (v : View) (inv : Inv v) (t0 : ℕ) (op : Op) (reply : Reply) (on : among (active_in v) t0 ≡ true) where
  abbrev new_body : ℕ → List Answered
  new_body t = cond (t0 == t) (v.body t ++ (op, reply) ∷ []) (v.body t)

  -- what holds of the old body, and of the one that the operation is put to
  at_body : (P : ℕ → List Answered → Type 0) → (t : ℕ) → P t0 (v.body t0 ++ (op, reply) ∷ []) →
      (t0 ≢ t → P t (v.body t)) → P t (new_body t)
  at_body P t here there =
      cond_both (t0 == t) (v.body t ++ (op, reply) ∷ []) (v.body t) (P t)
      (λ e. subst (λ u. P u (v.body u ++ (op, reply) ∷ [])) (eqb-true t0 t e) here)
      (λ e. there (eqb-false t0 t e))

  not_committed : among v.committers t0 ≡ false
  not_committed = false_from_ne_true (among v.committers t0)
      (λ e. both_ways (among v.ended t0) (active_parts v t0 on).1 (inv.closed t0 e))

  pub same_committed_bodies : map new_body v.committers ≡ map v.body v.committers
  same_committed_bodies = same_bodies v t0 (op, reply) v.committers not_committed

module _ (v : View) (inv : Inv v) (t0 : ℕ) (op : Op) (reply : Reply) (may : MayAnswer v t0 op reply) where
  abbrev body' : ℕ → List Answered
  body' t = new_body v inv t0 op reply may.active t

  ops_push : (done : List Answered) → ops_of (done ++ (op, reply) ∷ []) ≡ ops_of done ++ op ∷ []
  ops_push done = map-append (λ (a : Answered). a.0) done ((op, reply) ∷ [])

  locks_push : (done : List Answered) → locks_of (ops_of (done ++ (op, reply) ∷ [])) ≡ with_asked
      (locks_of (ops_of done)) (lock_of op)
  locks_push done = ap locks_of (ops_push done) ∙ locks_of-push (ops_of done) op

  new_alone : IsAnsweredAlone (v.body t0 ++ (op, reply) ∷ []) (committed_in v)
  new_alone =
      let done = v.body t0 in
      let m = committed_in v in
      map-append (λ (a : Answered). a.1) done ((op, reply) ∷ [])
      ∙ ap (λ rs. rs ++ reply ∷ []) (inv.steady t0 may.active)
      ∙ ap (λ r. answers (ops_of done) m ++ r ∷ []) may.answered
      ∙ sym (answers_push (ops_of done) op m)
      ∙ ap (λ ops. answers ops m) (sym (ops_push done))

  new_apart : (u : ℕ) → among (active_in v) u ≡ true → t0 ≢ u →
      Apart (locks_of (ops_of (v.body t0 ++ (op, reply) ∷ []))) (held_in v u)
  new_apart u hu n = record {
    at = λ q a b.
        ⊎_elim
        (λ old. (inv.apart t0 u may.active hu n).at q old b)
        (λ h. not_owned (lock_of op) (held_in v u) q (may.free u hu (λ e. n (sym e))) h b)
        (asked_only (has_key q) (held_in v t0) (lock_of op)
        (subst (λ ls. holds ls q ≡ true) (locks_push (v.body t0)) a));
  }

  apart_new : (t : ℕ) → among (active_in v) t ≡ true → t ≢ t0 →
      Apart (held_in v t) (locks_of (ops_of (v.body t0 ++ (op, reply) ∷ [])))
  apart_new t ht n = record {
    at = λ q a b.
        ⊎_elim
        (λ old. (inv.apart t t0 ht may.active n).at q a old)
        (λ o. not_held (lock_of op) (held_in v t) q (may.free t ht n) o a)
        (asked_only (owns_key q) (held_in v t0) (lock_of op)
        (subst (λ ls. owns ls q ≡ true) (locks_push (v.body t0)) b));
  }

  answers_inv : Inv (push v (Answers t0 op reply))
  answers_inv = record {
    fresh = λ t h. (
      (inv.fresh t h).0,
      (inv.fresh t h).1,
      at_body v inv t0 op reply may.active (λ t done. length v.begun < t → done ≡ []) t
          (λ above. absurd (both_ways (among v.begun t0) (inv.fresh t0 above).0 (active_parts v t0 may.active).0))
          (λ _ above. (inv.fresh t above).2) h,
    );
    once = inv.once;
    rising = inv.rising;
    closed = inv.closed;
    orderly = λ t. at_body v inv t0 op reply may.active (λ t done. AllOrderly (ops_of done)) t
        (subst AllOrderly (sym (ops_push (v.body t0)))
        (orderly_push (ops_of (v.body t0)) op (inv.orderly t0) may.orderly))
        (λ _. inv.orderly t);
    apart = λ t u ht hu n.
        at_body v inv t0 op reply may.active (λ t done. among (active_in v) t ≡ true → t ≢ u →
        Apart (locks_of (ops_of done)) (locks_of (ops_of (body' u)))) t
        (λ _ n. at_body v inv t0 op reply may.active (λ u done. among (active_in v) u ≡ true → t0 ≢ u →
        Apart (locks_of (ops_of (v.body t0 ++ (op, reply) ∷ []))) (locks_of (ops_of done))) u
        (λ _ n. absurd (n refl))
        (λ _ hu n. new_apart u hu n) hu n)
        (λ _ ht n. at_body v inv t0 op reply may.active (λ u done. among (active_in v) u ≡ true → t ≢ u →
        Apart (held_in v t) (locks_of (ops_of done))) u
        (λ _ n. apart_new t ht n)
        (λ _ hu n. inv.apart t u ht hu n) hu n)
        ht n;
    serial = subst (λ bodies. AreAnsweredInTurn bodies empty) (sym (same_committed_bodies v inv t0 op reply may.active))
        inv.serial;
    steady = λ t ht. subst (λ bodies. IsAnsweredAlone (body' t) (left_by_bodies bodies empty))
        (sym (same_committed_bodies v inv t0 op reply may.active))
        (at_body v inv t0 op reply may.active (λ t done. among (active_in v) t ≡ true →
        IsAnsweredAlone done (committed_in v)) t
        (λ _. new_alone)
        (λ _ ht. inv.steady t ht) ht);
  }

-- ---- a transaction ends

module _ (v : View) (inv : Inv v) (t0 : ℕ) (on : among (active_in v) t0 ≡ true) where
  pub ends_was : (t : ℕ) → among (active_in (push v (Aborts t0))) t ≡ true → (among (active_in v) t ≡ true) × (t ≢ t0)
  ends_was t h =
      let parts = active_parts (push v (Aborts t0)) t h in (
        active_from v t parts.0 (false_from_ne_true (among v.ended t)
            (λ e. both_ways (among (v.ended ++ t0 ∷ []) t) parts.1 (among_push_old v.ended t0 t e))),
        λ e. both_ways (among (v.ended ++ t0 ∷ []) t) parts.1
            (subst (λ x. among (v.ended ++ t0 ∷ []) x ≡ true) (sym e) (among_push_last v.ended t0)),
      )

  ended_fresh : (t : ℕ) → length v.begun < t → (among v.begun t ≡ false) × (among (v.ended ++ t0 ∷ []) t ≡ false) ×
      (v.body t ≡ [])
  ended_fresh t h =
      let was = inv.fresh t h in (
        was.0,
        among_push_none v.ended t0 t was.1 (λ e. both_ways (among v.begun t) was.0
            (subst (λ x. among v.begun x ≡ true) (sym e) (active_parts v t0 on).0)),
        was.2,
      )

  aborts_inv : Inv (push v (Aborts t0))
  aborts_inv = record {
    fresh = ended_fresh;
    once = inv.once;
    rising = inv.rising;
    closed = λ t h. among_push_old v.ended t0 t (inv.closed t h);
    orderly = inv.orderly;
    apart = λ t u ht hu n. inv.apart t u (ends_was t ht).0 (ends_was u hu).0 n;
    serial = inv.serial;
    steady = λ t ht. inv.steady t (ends_was t ht).0;
  }

  pub left_by_bodies-push : (bodies : List (List Answered)) (b : List Answered) (m : PlainMap) →
      left_by_bodies (bodies ++ b ∷ []) m ≡ left (ops_of b) (left_by_bodies bodies m)
  left_by_bodies-push [] b m = refl
  left_by_bodies-push (c ∷ bodies) b m = left_by_bodies-push bodies b (left (ops_of c) m)

  in_turn_push : (bodies : List (List Answered)) (b : List Answered) (m : PlainMap) → AreAnsweredInTurn bodies m →
      IsAnsweredAlone b (left_by_bodies bodies m) → AreAnsweredInTurn (bodies ++ b ∷ []) m
  in_turn_push [] b m h k = (k, tt)
  in_turn_push (c ∷ bodies) b m h k = (h.0, in_turn_push bodies b (left (ops_of c) m) h.1 k)

  bodies_push : map v.body (v.committers ++ t0 ∷ []) ≡ map v.body v.committers ++ v.body t0 ∷ []
  bodies_push = map-append v.body v.committers (t0 ∷ [])

  pub commits_committed : committed_in (push v (Commits t0)) ≡ left (ops_of (v.body t0)) (committed_in v)
  commits_committed = ap (λ bodies. left_by_bodies bodies empty) bodies_push ∙
      left_by_bodies-push (map v.body v.committers) (v.body t0) empty

  commits_inv : Inv (push v (Commits t0))
  commits_inv = record {
    fresh = ended_fresh;
    once = inv.once;
    rising = inv.rising;
    closed = λ t h. ⊎_elim (λ old. among_push_old v.ended t0 t (inv.closed t old))
        (λ e. subst (λ x. among (v.ended ++ t0 ∷ []) x ≡ true) (sym e) (among_push_last v.ended t0))
        (among_push v.committers t0 t h);
    orderly = inv.orderly;
    apart = λ t u ht hu n. inv.apart t u (ends_was t ht).0 (ends_was u hu).0 n;
    serial = subst (λ bodies. AreAnsweredInTurn bodies empty) (sym bodies_push)
        (in_turn_push (map v.body v.committers) (v.body t0) empty inv.serial (inv.steady t0 on));
    steady = λ t ht.
        let was = ends_was t ht in
        inv.steady t was.0
        ∙ answers_apart (ops_of (v.body t)) (ops_of (v.body t0)) (committed_in v) (inv.orderly t) (inv.orderly t0)
        (inv.apart t t0 was.0 on was.1)
        ∙ ap (answers (ops_of (v.body t))) (sym commits_committed);
  }

pub none_inv : Inv none
none_inv = record {
  fresh = λ t h. (refl, refl, refl);
  once = tt;
  rising = tt;
  closed = λ t h. absurd (false≢true h);
  orderly = λ t. tt;
  apart = λ t u ht hu n. absurd (false≢true ht);
  serial = tt;
  steady = λ t ht. absurd (false≢true ht);
}

-- one more event keeps it
pub push_inv : (v : View) (e : Effect) → Inv v → MayBe v e → Inv (push v e)
push_inv v (Begins t) inv may = begins_inv v inv t may
push_inv v (Answers t op reply) inv may = answers_inv v inv t op reply may
push_inv v (Commits t) inv may = commits_inv v inv t may
push_inv v (Aborts t) inv may = aborts_inv v inv t may
push_inv v Nothing inv may = inv
