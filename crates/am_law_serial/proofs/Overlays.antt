-- The bodies of all that is active over one map: each key is as its owner leaves it, and else as the map has it.
use Rattle.std.proofs.Common.{◌≡◌, ◌≢◌, ℕ, List, [], ◌∷◌, ◌++◌, map, Bool, true, false, cond, refl, sym, ap, ◌∙◌, subst}
use Rattle.std.proofs.Common.{⊎_elim, inl, inr, ◌⊎◌}
use Rattle.std.specs.Prelude.{◌||◌, ◌==◌, not, filter}
use Rattle.std.specs.FinMap.{get, same_map}
use Rattle.std.proofs.lemmas.Bool.{false≢true, both_ways, not-true, or_cases, or_left, or_right, or_parts, cond_both}
use Rattle.std.proofs.lemmas.Bool.{cond-true, cond-false, cases_Bool, false_from_ne_true, eqb-true, eqb-false, eq-eqb}
use Rattle.std.proofs.lemmas.Bool.{ne_eqb, not_from_false}
use Rattle.am_record.specs.OrderedKey.{OrderedKey, key_cmp-total, key_cmp-exact}
use Rattle.am_record.specs.declared.lock.Lock.{Lock}
use Rattle.am_record.specs.declared.step.Op.{Op}
use Rattle.am_record.specs.declared.step.Op.TheVariants.{Back}
use Rattle.am_record.specs.declared.step.Reply.{Reply}
use Rattle.am_record.specs.Plain.{PlainMap, Draft, fresh, answer, draft_after, map_answer, map_after, left_on, left}
use Rattle.am_record.specs.Plain.{is_orderly}
use Rattle.am_record.specs.Asks.{lock_of, with_asked, clashes, locks_of, has_key, holds, owns}
use Rattle.am_record.proofs.Bodies.{left_on_push}
use Rattle.am_law_serial.specs.Laws.{is_back}
use Rattle.am_law_serial.specs.Trace.{Answered, left_by_bodies, ops_of, runs_made}
use Rattle.am_law_serial.specs.Agreement.{Agree}
use Rattle.am_law_serial.proofs.Maps.{Within, agree_refl, answer_local, after_local, after_frame, runs_made_local}
use Rattle.am_law_serial.proofs.Maps.{reads}
use Rattle.am_law_serial.proofs.Maps.{writes}
use Rattle.am_law_serial.proofs.Bodies.{AllOrderly, Apart, owns_holds, writes_reads, scope_of, scope_within, left_local}
use Rattle.am_law_serial.proofs.Bodies.{left_frame, asked_only, not_owned}
use Rattle.am_law_serial.proofs.Views.{among, among_filter, among_filter_from}
use Rattle.am_law_serial.proofs.Serial.{AreDistinct}

abbrev pub locks_by : (ℕ → List Answered) → ℕ → List Lock
locks_by f t = locks_of (ops_of (f t))

-- transactions that don't hinder each other
pub record Crowd (f : ℕ → List Answered) (ts : List ℕ) : Type 0 where
  pub once : AreDistinct ts
  pub orderly : (t : ℕ) → AllOrderly (ops_of (f t))
  pub apart : (t u : ℕ) → among ts t ≡ true → among ts u ≡ true → t ≢ u → Apart (locks_by f t) (locks_by f u)

rest_of : {f : ℕ → List Answered} {x : ℕ} {ts : List ℕ} → Crowd f (x ∷ ts) → Crowd f ts
rest_of {f} {x} {ts} c = record {
  once = c.once.1;
  orderly = c.orderly;
  apart = λ t u ht hu n. c.apart t u (or_right (x == t) (among ts t) ht) (or_right (x == u) (among ts u) hu) n;
}

first_in : (x : ℕ) (ts : List ℕ) → among (x ∷ ts) x ≡ true
first_in x ts = or_left (x == x) (among ts x) (eq-eqb x x refl)

not_first : {f : ℕ → List Answered} {x : ℕ} {ts : List ℕ} → Crowd f (x ∷ ts) → (t : ℕ) → among ts t ≡ true → t ≢ x
not_first {f} {x} {ts} c t h e = both_ways (among ts x) c.once.0 (subst (λ y. among ts y ≡ true) e h)

module _ (f : ℕ → List Answered) where
  -- a key that none of them owns
  pub crowd_frame : (ts : List ℕ) (m : PlainMap) (q : OrderedKey) → Crowd f ts →
      ((u : ℕ) → among ts u ≡ true → owns (locks_by f u) q ≡ false) → get (left_by_bodies (map f ts) m) q ≡ get m q
  crowd_frame [] m q c free = refl
  crowd_frame (x ∷ ts) m q c free =
      crowd_frame ts (left (ops_of (f x)) m) q (rest_of c) (λ u h. free u (or_right (x == u) (among ts u) h))
      ∙ left_frame (holds (locks_by f x)) (owns (locks_by f x)) (ops_of (f x)) m q
      (scope_of (ops_of (f x)) (c.orderly x)) (free x (first_in x ts))

  -- keys that none but t owns are as t alone leaves them
  pub crowd_own : (S : OrderedKey → Bool) (t : ℕ) (ts : List ℕ) (m n : PlainMap) → Crowd f ts → among ts t ≡ true →
      Within (holds (locks_by f t)) S → ((u : ℕ) → among ts u ≡ true → u ≢ t → (q : OrderedKey) → S q ≡ true →
      owns (locks_by f u) q ≡ false) → Agree S m n → Agree S (left_by_bodies (map f ts) m) (left (ops_of (f t)) n)
  crowd_own S t [] m n c on w free a = absurd (false≢true on)
  crowd_own S t (x ∷ ts) m n c on w free a =
      ⊎_elim
      (λ here.
      let e : t ≡ x = sym (eqb-true x t here) in
      let same : Agree S (left (ops_of (f x)) m) (left (ops_of (f t)) n) =
      subst (λ y. Agree S (left (ops_of (f y)) m) (left (ops_of (f t)) n)) e
      (left_local S (owns (locks_by f t)) (ops_of (f t)) m n
      (scope_within (holds (locks_by f t)) S (owns (locks_by f t)) w (ops_of (f t))
      (scope_of (ops_of (f t)) (c.orderly t))) a) in
      record {
        at = λ q h.
            crowd_frame ts (left (ops_of (f x)) m) q (rest_of c)
            (λ u hu. free u (or_right (x == u) (among ts u) hu) (λ k. not_first c u hu (k ∙ e)) q h)
            ∙ same.at q h;
      })
      (λ later.
      crowd_own S t ts (left (ops_of (f x)) m) n (rest_of c) later w
      (λ u hu. free u (or_right (x == u) (among ts u) hu))
      (record {
        at = λ q h.
            left_frame (holds (locks_by f x)) (owns (locks_by f x)) (ops_of (f x)) m q
            (scope_of (ops_of (f x)) (c.orderly x))
            (free x (first_in x ts) (λ k. not_first c t later (sym k)) q h)
            ∙ a.at q h;
      }))
      (or_cases (x == t) (among ts t) on)

  -- what t holds, no other owns
  others_free : (ts : List ℕ) (t : ℕ) → Crowd f ts → among ts t ≡ true → (u : ℕ) → among ts u ≡ true → u ≢ t →
      (q : OrderedKey) → holds (locks_by f t) q ≡ true → owns (locks_by f u) q ≡ false
  others_free ts t c on u hu n q h = false_from_ne_true (owns (locks_by f u) q)
      (λ o. (c.apart t u on hu (λ e. n (sym e))).at q h o)

  pub crowd_held : (t : ℕ) (ts : List ℕ) (m n : PlainMap) → Crowd f ts → among ts t ≡ true →
      Agree (holds (locks_by f t)) m n → Agree (holds (locks_by f t)) (left_by_bodies (map f ts) m)
      (left (ops_of (f t)) n)
  crowd_held t ts m n c on a = crowd_own (holds (locks_by f t)) t ts m n c on (record { at = λ q h. h })
      (others_free ts t c on) a

  -- the owner of a key, or that there is none
  abbrev pub Owned : List ℕ → OrderedKey → Type 0
  Owned ts q = (u : ℕ) × (among ts u ≡ true) × (owns (locks_by f u) q ≡ true)

  abbrev pub Free : List ℕ → OrderedKey → Type 0
  Free ts q = (u : ℕ) → among ts u ≡ true → owns (locks_by f u) q ≡ false

  pub owner : (ts : List ℕ) (q : OrderedKey) → Owned ts q ⊎ Free ts q
  owner [] q = inr (λ u h. absurd (false≢true h))
  owner (x ∷ ts) q =
      ⊎_elim
      (λ yes. inl (x, first_in x ts, yes))
      (λ no. ⊎_elim
      (λ o. inl (o.0, or_right (x == o.0) (among ts o.0) o.1, o.2))
      (λ free. inr (λ u h. ⊎_elim
      (λ here. subst (λ y. owns (locks_by f y) q ≡ false) (eqb-true x u here) no)
      (λ later. free u later)
      (or_cases (x == u) (among ts u) h)))
      (owner ts q))
      (cases_Bool (owns (locks_by f x) q))

-- but for Back, an operation does to a draft's map what it does to a map, and is answered so
after_map : (op : Op) (d : Draft) → is_back op ≡ false → (draft_after op d).map ≡ map_after op d.map
after_map Back d h = absurd (both_ways true h refl)
after_map op d h = refl

pub answer_map : (op : Op) (d : Draft) → is_back op ≡ false → answer op d ≡ map_answer op d.map
answer_map Back d h = absurd (both_ways true h refl)
answer_map op d h = refl

-- ---- an operation is granted

module _ (f : ℕ → List Answered) (ts : List ℕ) (m : PlainMap) (t : ℕ) (op : Op) (plain : is_back op ≡ false)
    (crowd : Crowd f ts) (on : among ts t ≡ true) (orderly : is_orderly op ≡ true)
    (free : (u : ℕ) → among ts u ≡ true → u ≢ t → clashes (lock_of op) (locks_by f u) ≡ false) where
  -- the keys that t has locked, and those that the operation locks
  abbrev scope : OrderedKey → Bool
  scope q = holds (locks_by f t) q || reads op q

  scope_free : (u : ℕ) → among ts u ≡ true → u ≢ t → (q : OrderedKey) → scope q ≡ true → owns (locks_by f u) q ≡ false
  scope_free u hu n q h =
      ⊎_elim
      (λ held. others_free f ts t crowd on u hu n q held)
      (λ asked. false_from_ne_true (owns (locks_by f u) q)
      (λ o. not_owned (lock_of op) (locks_by f u) q (free u hu n) asked o))
      (or_cases (holds (locks_by f t) q) (reads op q) h)

  asked_within : Within (reads op) scope
  asked_within = record { at = λ q h. or_right (holds (locks_by f t) q) (reads op q) h }

  pub granted_agree : Agree scope (left_by_bodies (map f ts) m) (left (ops_of (f t)) m)
  granted_agree = crowd_own f scope t ts m m crowd on
      (record { at = λ q h. or_left (holds (locks_by f t) q) (reads op q) h }) scope_free (agree_refl m)

  -- the answer on the transaction's own view is the one on all that stands
  pub granted_answer : map_answer op (left_by_bodies (map f ts) m) ≡ map_answer op (left (ops_of (f t)) m)
  granted_answer = answer_local op (left_by_bodies (map f ts) m) (left (ops_of (f t)) m) orderly
      (record { at = λ q h. granted_agree.at q (asked_within.at q h) })

  -- and so are the runs that it makes
  pub granted_made : (reply : Reply) → runs_made (left_by_bodies (map f ts) m) op reply ≡ runs_made
      (left (ops_of (f t)) m) op reply
  granted_made reply = runs_made_local op reply (left_by_bodies (map f ts) m) (left (ops_of (f t)) m) orderly
      (record { at = λ q h. granted_agree.at q (asked_within.at q h) })

  module _ (f' : ℕ → List Answered) (crowd' : Crowd f' ts) (here : ops_of (f' t) ≡ ops_of (f t) ++ op ∷ [])
      (locks_here : locks_by f' t ≡ with_asked (locks_by f t) (lock_of op)) (there : (u : ℕ) → u ≢ t → f' u ≡ f u) where
    scope_held : Within (holds (locks_by f' t)) scope
    scope_held = record {
      at = λ q h.
          ⊎_elim (λ old. or_left (holds (locks_by f t) q) (reads op q) old)
          (λ new. or_right (holds (locks_by f t) q) (reads op q) new)
          (asked_only (has_key q) (locks_by f t) (lock_of op) (subst (λ ls. holds ls q ≡ true) locks_here h));
    }

    same_locks : (u : ℕ) → u ≢ t → locks_by f' u ≡ locks_by f u
    same_locks u n = ap (λ (done : List Answered). locks_of (ops_of done)) (there u n)

    in_scope : (q : OrderedKey) → scope q ≡ true → get (left_by_bodies (map f' ts) m) q ≡ get
        (map_after op (left_by_bodies (map f ts) m)) q
    in_scope q h =
        (crowd_own f' scope t ts m m crowd' on scope_held
        (λ u hu n q h. subst (λ ls. owns ls q ≡ false) (sym (same_locks u n)) (scope_free u hu n q h))
        (agree_refl m)).at q h
        ∙ ap (λ ops. get (left ops m) q) here
        ∙ ap (λ (d : Draft). get d.map q) (left_on_push (ops_of (f t)) op (fresh m))
        ∙ ap (λ n. get n q) (after_map op (left_on (ops_of (f t)) (fresh m)) plain)
        ∙ sym ((after_local op (left_by_bodies (map f ts) m) (left (ops_of (f t)) m) orderly asked_within
        granted_agree).at q h)

    outside_write : (q : OrderedKey) → scope q ≡ false → writes op q ≡ false
    outside_write q h = false_from_ne_true (writes op q)
        (λ w. both_ways (reads op q) (or_parts (holds (locks_by f t) q) (reads op q) h).1 (writes_reads op q w))

    not_t : (u : ℕ) (q : OrderedKey) → scope q ≡ false → owns (locks_by f u) q ≡ true → u ≢ t
    not_t u q h o e = both_ways (scope q) h (or_left (holds (locks_by f t) q) (reads op q)
        (subst (λ w. holds (locks_by f w) q ≡ true) e (owns_holds (locks_by f u) q o)))

    still_free : (q : OrderedKey) → scope q ≡ false → Free f ts q → Free f' ts q
    still_free q h free' u hu =
        ⊎_elim
        (λ e. false_from_ne_true (owns (locks_by f' u) q)
        (λ o. both_ways (scope q) h (scope_held.at q (subst (λ w. holds (locks_by f' w) q ≡ true) (eqb-true u t e)
        (owns_holds (locks_by f' u) q o)))))
        (λ n. subst (λ ls. owns ls q ≡ false) (sym (same_locks u (eqb-false u t n))) (free' u hu))
        (cases_Bool (u == t))

    out_of_scope : (q : OrderedKey) → scope q ≡ false → get (left_by_bodies (map f' ts) m) q ≡ get
        (map_after op (left_by_bodies (map f ts) m)) q
    out_of_scope q h =
        ⊎_elim
        (λ o.
        let u = o.0 in
        let n : u ≢ t = not_t u q h o.2 in
        let held = owns_holds (locks_by f u) q o.2 in
        (crowd_held f' u ts m m crowd' o.1 (agree_refl m)).at q
        (subst (λ ls. holds ls q ≡ true) (sym (same_locks u n)) held)
        ∙ ap (λ (done : List Answered). get (left (ops_of done) m) q) (there u n)
        ∙ sym ((crowd_held f u ts m m crowd o.1 (agree_refl m)).at q held))
        (λ free'. crowd_frame f' ts m q crowd' (still_free q h free') ∙ sym (crowd_frame f ts m q crowd free'))
        (owner f ts q)
        ∙ sym (after_frame op (left_by_bodies (map f ts) m) q orderly (outside_write q h))

    -- the operation does to all that stands what it does to the transaction's own view
    pub granted_overlay : left_by_bodies (map f' ts) m ≡ map_after op (left_by_bodies (map f ts) m)
    granted_overlay = same_map key_cmp-total key_cmp-exact _ _
        (λ q. ⊎_elim (λ h. in_scope q h) (λ h. out_of_scope q h) (cases_Bool (scope q)))

-- ---- a transaction goes back

module _ (f f' : ℕ → List Answered) (ts : List ℕ) (m : PlainMap) (t : ℕ) (crowd : Crowd f ts) (crowd' : Crowd f' ts)
    (on : among ts t ≡ true)
    (here : ops_of (f' t) ≡ ops_of (f t) ++ Back ∷ []) (locks_here : locks_by f' t ≡ locks_by f t)
    (there : (u : ℕ) → u ≢ t → f' u ≡ f u) where
  locks_as_before : (u : ℕ) → locks_by f' u ≡ locks_by f u
  locks_as_before u =
      ⊎_elim
      (λ e. subst (λ w. locks_by f' w ≡ locks_by f w) (sym (eqb-true u t e)) locks_here)
      (λ n. ap (λ (done : List Answered). locks_of (ops_of done)) (there u (eqb-false u t n)))
      (cases_Bool (u == t))

  -- a key that t owns
  own_back : (q : OrderedKey) → owns (locks_by f t) q ≡ true → get (left_by_bodies (map f' ts) m) q ≡ get
      (draft_after Back (left_on (ops_of (f t)) (fresh m))).map q
  own_back q h =
      (crowd_held f' t ts m m crowd' on (agree_refl m)).at q
      (subst (λ ls. holds ls q ≡ true) (sym locks_here) (owns_holds (locks_by f t) q h))
      ∙ ap (λ ops. get (left ops m) q) here
      ∙ ap (λ (d : Draft). get d.map q) (left_on_push (ops_of (f t)) Back (fresh m))

  other_back : (q : OrderedKey) → owns (locks_by f t) q ≡ false → get (left_by_bodies (map f' ts) m) q ≡ get
      (left_by_bodies (map f ts) m) q
  other_back q h =
      ⊎_elim
      (λ o.
      let u = o.0 in
      let n : u ≢ t = λ e. both_ways (owns (locks_by f t) q) h (subst (λ w. owns (locks_by f w) q ≡ true) e o.2) in
      let held = owns_holds (locks_by f u) q o.2 in
      (crowd_held f' u ts m m crowd' o.1 (agree_refl m)).at q
      (subst (λ ls. holds ls q ≡ true) (sym (locks_as_before u)) held)
      ∙ ap (λ (done : List Answered). get (left (ops_of done) m) q) (there u n)
      ∙ sym ((crowd_held f u ts m m crowd o.1 (agree_refl m)).at q held))
      (λ free.
      crowd_frame f' ts m q crowd' (λ u hu. subst (λ ls. owns ls q ≡ false) (sym (locks_as_before u)) (free u hu))
      ∙ sym (crowd_frame f ts m q crowd free))
      (owner f ts q)

  -- the keys that it owns are again as in the map gone back to, and all else stays
  pub back_overlay : (q : OrderedKey) → get (left_by_bodies (map f' ts) m) q ≡ cond (owns (locks_by f t) q)
      (get (draft_after Back (left_on (ops_of (f t)) (fresh m))).map q) (get (left_by_bodies (map f ts) m) q)
  back_overlay q =
      let gone_back = get (draft_after Back (left_on (ops_of (f t)) (fresh m))).map q in
      let stays = get (left_by_bodies (map f ts) m) q in
      ⊎_elim
      (λ yes. own_back q yes ∙ sym (cond-true (owns (locks_by f t) q) gone_back stays yes))
      (λ no. other_back q no ∙ sym (cond-false (owns (locks_by f t) q) gone_back stays no))
      (cases_Bool (owns (locks_by f t) q))

-- ---- a transaction ends

pub AreDistinct-filter : (p : ℕ → Bool) (ts : List ℕ) → AreDistinct ts → AreDistinct (filter p ts)
AreDistinct-filter p [] d = tt
AreDistinct-filter p (x ∷ ts) d =
    cond_both (p x) (x ∷ filter p ts) (filter p ts) AreDistinct
    (λ _. (
      false_from_ne_true (among (filter p ts) x) (λ e. both_ways (among ts x) d.0 (among_filter p x ts e).0),
      AreDistinct-filter p ts d.1,
    ))
    (λ _. AreDistinct-filter p ts d.1)

module _ (f : ℕ → List Answered) (ts : List ℕ) (m : PlainMap) (t : ℕ) (crowd : Crowd f ts) (on : among ts t ≡ true)
  where
    abbrev others : List ℕ
    others = filter (λ x. not (x == t)) ts

    was_among : (u : ℕ) → among others u ≡ true → (among ts u ≡ true) × (u ≢ t)
    was_among u h = let parts = among_filter (λ x. not (x == t)) u ts h in
        (parts.0, eqb-false u t (not-true (u == t) parts.1))

    crowd_less : Crowd f others
    crowd_less = record {
      once = AreDistinct-filter (λ x. not (x == t)) ts crowd.once;
      orderly = crowd.orderly;
      apart = λ a b ha hb n. crowd.apart a b (was_among a ha).0 (was_among b hb).0 n;
    }

    still_among : (u : ℕ) → among ts u ≡ true → u ≢ t → among others u ≡ true
    still_among u h n = among_filter_from (λ x. not (x == t)) u ts h (not_from_false (u == t) (ne_eqb u t n))

    free_of_t : (q : OrderedKey) → holds (locks_by f t) q ≡ true → Free f others q
    free_of_t q h u hu = others_free f ts t crowd on u (was_among u hu).0 (was_among u hu).1 q h

    less_free : (q : OrderedKey) → Free f ts q → Free f others q
    less_free q free u hu = free u (was_among u hu).0

    t_frame : (q : OrderedKey) → owns (locks_by f t) q ≡ false → get (left (ops_of (f t)) m) q ≡ get m q
    t_frame q h = left_frame (holds (locks_by f t)) (owns (locks_by f t)) (ops_of (f t)) m q
        (scope_of (ops_of (f t)) (crowd.orderly t)) h

    of_other : (u : ℕ) → among ts u ≡ true → u ≢ t → Agree (holds (locks_by f u)) (left (ops_of (f t)) m) m
    of_other u hu n = record { at = λ q h. t_frame q (others_free f ts u crowd hu t on (λ e. n (sym e)) q h) }

    -- what stands stays as it is when a transaction commits
    pub commits_overlay : left_by_bodies (map f others) (left (ops_of (f t)) m) ≡ left_by_bodies (map f ts) m
    commits_overlay = same_map key_cmp-total key_cmp-exact _ _ (λ q.
        ⊎_elim
        (λ o.
        let u = o.0 in
        let held = owns_holds (locks_by f u) q o.2 in
        ⊎_elim
        (λ e.
        let held_t : holds (locks_by f t) q ≡ true = subst (λ w. holds (locks_by f w) q ≡ true) (eqb-true u t e) held in
        crowd_frame f others (left (ops_of (f t)) m) q crowd_less (free_of_t q held_t)
        ∙ sym ((crowd_held f t ts m m crowd on (agree_refl m)).at q held_t))
        (λ n.
        let differ : u ≢ t = eqb-false u t n in
        (crowd_held f u others (left (ops_of (f t)) m) m crowd_less (still_among u o.1 differ)
        (of_other u o.1 differ)).at
        q held
        ∙ sym ((crowd_held f u ts m m crowd o.1 (agree_refl m)).at q held))
        (cases_Bool (u == t)))
        (λ free.
        crowd_frame f others (left (ops_of (f t)) m) q crowd_less (less_free q free) ∙ t_frame q (free t on)
        ∙ sym (crowd_frame f ts m q crowd free))
        (owner f ts q))

    -- when a transaction is aborted, the keys that it owns are again as the map has them
    pub aborts_overlay : (q : OrderedKey) → get (left_by_bodies (map f others) m) q ≡ cond (owns (locks_by f t) q)
        (get m q) (get (left_by_bodies (map f ts) m) q)
    aborts_overlay q =
        ⊎_elim
        (λ yes.
        crowd_frame f others m q crowd_less (free_of_t q (owns_holds (locks_by f t) q yes))
        ∙ sym (cond-true (owns (locks_by f t) q) (get m q) (get (left_by_bodies (map f ts) m) q) yes))
        (λ no.
        ⊎_elim
        (λ o.
        let u = o.0 in
        let held = owns_holds (locks_by f u) q o.2 in
        let differ : u ≢ t = λ e. both_ways (owns (locks_by f t) q) no
        (subst (λ w. owns (locks_by f w) q ≡ true) e o.2) in
        (crowd_held f u others m m crowd_less (still_among u o.1 differ) (agree_refl m)).at q held
        ∙ sym ((crowd_held f u ts m m crowd o.1 (agree_refl m)).at q held))
        (λ free. crowd_frame f others m q crowd_less (less_free q free) ∙ sym (crowd_frame f ts m q crowd free))
        (owner f ts q)
        ∙ sym (cond-false (owns (locks_by f t) q) (get m q) (get (left_by_bodies (map f ts) m) q) no))
        (cases_Bool (owns (locks_by f t) q))
