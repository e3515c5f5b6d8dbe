-- How one event moves what the audit stands for.
use Rattle.std.proofs.Common.{◌≡◌, ◌≢◌, ℕ, ◌+◌, ◌<◌, ◌≤◌, List, [], ◌∷◌, ◌++◌, length, map, true, false, cond, refl}
use Rattle.std.proofs.Common.{sym, ap}
use Rattle.std.proofs.Common.{◌∙◌, subst, ⊎_elim, Option, Some, None, arith}
use Rattle.std.specs.Prelude.{◌==◌, not, filter}
use Rattle.std.specs.List.{cons_option, AllByRecursion}
use Rattle.std.specs.Option.{option_map}
use Rattle.std.proofs.lemmas.Bool.{cond_both, cond-true, cond-false, cases_Bool, eqb-true, eqb-false, eq-eqb, ne_eqb}
use Rattle.std.proofs.lemmas.Simd.{map-map}
use Rattle.std.proofs.lemmas.List.{map-append, append-nil}
use Rattle.am_record.specs.Plain.{fresh}
use Rattle.am_record.specs.Asks.{lock_of, with_asked}
use Rattle.am_record.specs.declared.step.Op.{Op}
use Rattle.am_record.specs.declared.step.Step.{Step}
use Rattle.am_record.specs.declared.step.Reply.{Reply}
use Rattle.am_record.specs.ByNumber.{has_number, with_changed}
use Rattle.am_record.proofs.Lists.{AllByRecursion-always, AllByRecursion-map, AllByRecursion-push}
use Rattle.am_record.proofs.Lists.{AllByRecursion-filter}
use Rattle.am_record.proofs.ByNumber.{AreOnce, AreOnce-RiseBy, RiseBy-map, RiseBy-push, RiseBy-filter, number_of_one}
use Rattle.am_record.proofs.ByNumber.{RiseBy-with_changed, with_changed-none, with_changed-map, without_number-map}
use Rattle.am_store_locks.specs.Table.{with_locks, entered, without_owner as released}
use Rattle.am_record.specs.Events.{Event}
use Rattle.am_law_serial.specs.Trace.{Trace, Answered, Effect, Begins, Answers, Commits, Aborts, Nothing, answered_to}
use Rattle.am_law_serial.specs.Trace.{effect, runs_made}
use Rattle.am_law_serial.specs.Machine.{State, Transaction, start, after_run, is_open, locks_in, view, extended}
use Rattle.am_law_serial.specs.Machine.{without_transaction, next}
use Rattle.am_law_serial.proofs.Runs.{after_run-push}
use Rattle.am_audit.specs.declared.checker.Checker.{Checker}
use Rattle.am_audit_replies.specs.OwnAnswers.{PlacedAnswer, answered_of, Listed, listed, with_own}
use Rattle.am_audit.specs.Progress.{answers_from, answers_at}
use Rattle.am_audit_locks.specs.HeldLocks.{owner_of, RiseByNumber}
use Rattle.am_audit.specs.Progress.{Bodies, list_of, IsAtState, added, Progress, progress_of}
use Rattle.am_audit.specs.Progress.{progress_after, HasChecked}
use Rattle.am_audit_locks.proofs.Tables.{relocked_done, entered_is, released_is}

-- ---- one more event

cons_after : (o : Option PlacedAnswer) (xs ys : List PlacedAnswer) → cons_option o (xs ++ ys) ≡ cons_option o xs ++ ys
cons_after None xs ys = refl
cons_after (Some x) xs ys = refl

answers_from-push : (trace : Trace) (n t : ℕ) (e : Event) → answers_from n t (trace ++ e ∷ []) ≡ answers_from n t
    trace ++ added (n + length trace) t (effect e.0 e.1)
answers_from-push [] n t e = ap (λ k. added k t (effect e.0 e.1)) (let same : n ≡ n + 0 = omega arith in same)
answers_from-push (x ∷ trace) n t e =
    let rest : answers_from (n + 1) t (trace ++ e ∷ []) ≡ answers_from (n + 1) t trace ++
    added (n + length (x ∷ trace)) t (effect e.0 e.1) =
    answers_from-push trace (n + 1) t e ∙ ap (λ k. answers_from (n + 1) t trace ++ added k t (effect e.0 e.1))
    (let same : n + 1 + length trace ≡ n + length (x ∷ trace) = omega arith in same) in
    ap (cons_option (option_map (λ (a : Answered). (n, a)) (answered_to t (effect x.0 x.1)))) rest
    ∙ cons_after (option_map (λ (a : Answered). (n, a)) (answered_to t (effect x.0 x.1))) (answers_from (n + 1) t trace)
    (added (n + length (x ∷ trace)) t (effect e.0 e.1))

pub answers_at-push : (trace : Trace) (e : Event) (t : ℕ) → answers_at (trace ++ e ∷ []) t ≡ answers_at trace t ++
    added (length trace) t (effect e.0 e.1)
answers_at-push trace e t = answers_from-push trace 0 t e ∙ ap (λ k. answers_at trace t ++ added k t (effect e.0 e.1))
    (let same : 0 + length trace ≡ length trace = omega arith in same)

-- the audit stands after the event where it stands at what its effect makes
pub stands_behind : (p : Checker) (here : Progress) (step : Step) (reply : Reply) (e : Effect) → effect step reply ≡ e →
    HasChecked p (progress_after here e) → HasChecked p (progress_after here (effect step reply))
stands_behind p here step reply e is h = subst (λ x. HasChecked p (progress_after here x)) (sym is) h

-- and at the trace that the event makes longer
pub stands_on : (p : Checker) (seen : Trace) (step : Step) (reply : Reply) →
    HasChecked p (progress_after (progress_of seen) (effect step reply)) →
    HasChecked p (progress_of (seen ++ (step, reply) ∷ []))
stands_on p seen step reply at =
    let bodies : (λ (t : ℕ). answers_at seen t ++ added (length seen) t (effect step reply)) ≡ answers_at
    (seen ++ (step, reply) ∷ []) = λ i t. sym (answers_at-push seen (step, reply) t) i in
    subst (λ (b : Bodies). IsAtState p b (after_run start (seen ++ (step, reply) ∷ []))) bodies
    (subst (λ s. IsAtState p (λ t. answers_at seen t ++ added (length seen) t (effect step reply)) s)
    (sym (after_run-push seen start (step, reply))) at)

-- an effect that is no answer adds nothing
unchanged : (bodies : Bodies) → (λ (t : ℕ). bodies t ++ []) ≡ bodies
unchanged bodies i t = append-nil (bodies t) i

-- ---- the machine's transactions

abbrev number : Transaction → ℕ
number x = x.0

abbrev number_of : Listed → ℕ
number_of x = x.0

pub all_extended : (P Q : Transaction → Type 0) (t : ℕ) (a : Answered) →
    ((x : Transaction) → x.0 ≡ t → P x → Q (extended a x)) → ((x : Transaction) → x.0 ≢ t → P x → Q x) →
    (xs : List Transaction) → AllByRecursion P xs → AllByRecursion Q (with_changed number (extended a) t xs)
all_extended P Q t a here there [] h = tt
all_extended P Q t a here there (x ∷ xs) h = (
  cond_both (x.0 == t) (extended a x) x Q (λ e. here x (eqb-true x.0 t e) h.0) (λ e. there x (eqb-false x.0 t e) h.0),
  all_extended P Q t a here there xs h.1,
)

-- an active number is not above the numbers begun
pub open_below : (n t : ℕ) (xs : List Transaction) → AllByRecursion (λ (x : Transaction). x.0 ≤ n) xs →
    is_open xs t ≡ true → t ≤ n
open_below n = number_of_one number (λ u. u ≤ n)

-- ---- the lists

added_answer : (n t : ℕ) (op : Op) (reply : Reply) (u : ℕ) (ps : List PlacedAnswer) → ps ++
    added n u (Answers t op reply) ≡ cond (t == u) (ps ++ (n, (op, reply)) ∷ []) ps
added_answer n t op reply u ps = elim (t == u) as
    (λ b. ps ++ cons_option (option_map (λ (a : Answered). (n, a)) (cond b (Some (op, reply)) None)) [] ≡ cond b
    (ps ++ (n, (op, reply)) ∷ []) ps) [ true ↦ refl | false ↦ append-nil ps ]

-- where each number stands once, the first is the only one
abbrev with_one_more : PlacedAnswer → Listed → Listed
with_one_more p x = (x.0, x.1 ++ p ∷ [])

with_own_is : (t : ℕ) (p : PlacedAnswer) (xs : List Listed) → AreOnce number_of xs → with_own t p xs ≡ with_changed
    number_of (with_one_more p) t xs
with_own_is t p [] o = refl
with_own_is t p (x ∷ xs) o = ⊎_elim
    (λ e.
    let rest = with_changed-none number_of (with_one_more p) t xs
    (ap (has_number number_of xs) (sym (eqb-true x.0 t e)) ∙ o.0) in
    (λ i. cond (e i) (with_one_more p x ∷ xs) (x ∷ with_own t p xs))
    ∙ sym (λ i. cond (e i) (with_one_more p x) x ∷ rest i))
    (λ e. (λ i. cond (e i) (with_one_more p x ∷ xs) (x ∷ with_own_is t p xs o.1 i))
    ∙ sym (λ i. cond (e i) (with_one_more p x) x ∷ with_changed number_of (with_one_more p) t xs))
    (cases_Bool (x.0 == t))

list_extended : (bodies : Bodies) (n t : ℕ) (op : Op) (reply : Reply) (xs : List Transaction) → RiseByNumber xs →
    with_own t (n, (op, reply)) (map (list_of bodies) xs) ≡ map
    (list_of (λ u. bodies u ++ added n u (Answers t op reply)))
    (with_changed number (extended (op, reply)) t xs)
list_extended bodies n t op reply xs r =
    let p : PlacedAnswer = (n, (op, reply)) in
    let more : Bodies = λ u. bodies u ++ added n u (Answers t op reply) in
    let then : Transaction → Listed = λ x. list_of more (cond (x.0 == t) (extended (op, reply) x) x) in
    let here : (x : Transaction) → x.0 ≡ t → with_one_more p (list_of bodies x) ≡ then x = λ x e.
    sym ((λ i. list_of more (cond (eq-eqb x.0 t e i) (extended (op, reply) x) x))
    ∙ (λ i. (
      x.0,
      (added_answer n t op reply x.0 (bodies x.0)
          ∙ cond-true (t == x.0) (bodies x.0 ++ p ∷ []) (bodies x.0) (eq-eqb t x.0 (sym e))) i,
    ))) in
    let there : (x : Transaction) → x.0 ≢ t → list_of bodies x ≡ then x = λ x d.
    sym ((λ i. list_of more (cond (ne_eqb x.0 t d i) (extended (op, reply) x) x))
    ∙ (λ i. (
      x.0,
      (added_answer n t op reply x.0 (bodies x.0)
          ∙ cond-false (t == x.0) (bodies x.0 ++ p ∷ []) (bodies x.0) (ne_eqb t x.0 (λ e. d (sym e)))) i,
    ))) in
    with_own_is t p (map (list_of bodies) xs) (AreOnce-RiseBy number_of (map (list_of bodies) xs)
    (RiseBy-map number number_of (list_of bodies) (λ x. refl) xs r))
    ∙ with_changed-map number_of (with_one_more p) (list_of bodies) then t xs
    (AllByRecursion-always (λ x. x.0 ≡ t → with_one_more p (list_of bodies x) ≡ then x) here xs) there
    ∙ sym (map-map (list_of more) (λ x. cond (x.0 == t) (extended (op, reply) x) x) xs)

-- ---- by effect

pub stands_still : (p : Checker) (here : Progress) (step : Step) (reply : Reply) → effect step reply ≡ Nothing →
    HasChecked p here → HasChecked p (progress_after here (effect step reply))
stands_still p here step reply is h =
    stands_behind p here step reply Nothing is (subst (λ (b : Bodies). IsAtState p b here.state)
    (sym (unchanged here.bodies)) h)

module _ (p p' : Checker) (bodies : Bodies) (s : State) (h : IsAtState p bodies s) where
  pub begins : (t : ℕ) → t ≡ s.begun + 1 → p'.begun ≡ t → p'.commits ≡ p.commits → p'.runs ≡ p.runs →
      map listed p'.active.items ≡ map listed p.active.items ++ (t, []) ∷ [] → p'.locks ≡ entered p.locks t →
      p'.committed ≡ p.committed → IsAtState p' bodies (next s (Begins t))
  begins t new b c r a l m =
      let none : bodies t ≡ [] = h.ordinary.new t (omega arith) in
      record {
        begun = b ∙ new;
        commits = c ∙ h.commits;
        runs = r ∙ h.runs;
        active = a ∙ ap (λ xs. xs ++ (t, []) ∷ []) h.active ∙
            ap (λ (ps : List PlacedAnswer). map (list_of bodies) s.active ++ (t, ps) ∷ []) (sym none) ∙
            sym (map-append (list_of bodies) s.active ((t, []) ∷ []));
        locks = l ∙ ap (λ table. entered table t) h.locks ∙ entered_is s.active t;
        committed = m ∙ h.committed;
        ordinary = record {
          below = AllByRecursion-push (λ (x : Transaction). x.0 ≤ s.begun + 1) s.active (t, [])
              (AllByRecursion-map (λ (x : Transaction). x.0 ≤ s.begun) (λ (x : Transaction). x.0 ≤ s.begun + 1)
              (λ x low. omega arith) s.active h.ordinary.below) (omega arith);
          rising = RiseBy-push number s.active (t, []) h.ordinary.rising
              (AllByRecursion-map (λ (x : Transaction). x.0 ≤ s.begun) (λ (x : Transaction). x.0 < t)
              (λ x low. omega arith) s.active h.ordinary.below);
          made = AllByRecursion-push (λ (x : Transaction). x.1 ≡ answered_of (bodies x.0)) s.active (t, [])
              h.ordinary.made (ap answered_of (sym none));
          new = λ u above. h.ordinary.new u (omega arith);
        };
      }

  ended : (t : ℕ) → p'.begun ≡ p.begun → p'.runs ≡ p.runs → map listed p'.active.items ≡ filter
      (λ (x : Listed). not (x.0 == t)) (map listed p.active.items) → p'.locks ≡ released p.locks t → (s' : State) →
      s'.begun ≡ s.begun → s'.runs ≡ s.runs → s'.active ≡ without_transaction t s.active → p'.commits ≡ s'.commits →
      p'.committed ≡ fresh s'.committed → IsAtState p' bodies s'
  ended t b r a l s' b' r' a' c m = record {
    begun = b ∙ h.begun ∙ sym b';
    commits = c;
    runs = r ∙ h.runs ∙ sym r';
    active = a ∙ ap (filter (λ (x : Listed). not (x.0 == t))) h.active ∙
        without_number-map number number_of (list_of bodies) (λ x. refl) t s.active ∙
        ap (map (list_of bodies)) (sym a');
    locks = l ∙ ap (λ table. released table t) h.locks ∙ released_is s.active t ∙ ap (map owner_of) (sym a');
    committed = m;
    ordinary = record {
      below = subst (λ (xs : List Transaction). AllByRecursion (λ (x : Transaction). x.0 ≤ s'.begun) xs) (sym a')
          (subst (λ (n : ℕ). AllByRecursion (λ (x : Transaction). x.0 ≤ n) (without_transaction t s.active)) (sym b')
          (AllByRecursion-filter (λ (x : Transaction). x.0 ≤ s.begun) (λ x. not (x.0 == t)) s.active h.ordinary.below));
      rising = subst RiseByNumber (sym a') (RiseBy-filter number (λ x. not (x.0 == t)) s.active h.ordinary.rising);
      made = subst (λ (xs : List Transaction). AllByRecursion (λ (x : Transaction). x.1 ≡ answered_of (bodies x.0)) xs)
          (sym a') (AllByRecursion-filter (λ (x : Transaction). x.1 ≡ answered_of (bodies x.0)) (λ x. not (x.0 == t))
          s.active
          h.ordinary.made);
      new = λ u above. h.ordinary.new u (subst (λ n. n < u) b' above);
    };
  }

  pub aborts : (t : ℕ) → p'.begun ≡ p.begun → p'.commits ≡ p.commits → p'.runs ≡ p.runs →
      map listed p'.active.items ≡ filter (λ (x : Listed). not (x.0 == t)) (map listed p.active.items) →
      p'.locks ≡ released p.locks t → p'.committed ≡ p.committed → IsAtState p' bodies (next s (Aborts t))
  aborts t b c r a l m = ended t b r a l (next s (Aborts t)) refl refl refl (c ∙ h.commits) (m ∙ h.committed)

  pub commits : (t : ℕ) → p'.begun ≡ p.begun → p'.commits ≡ s.commits + 1 → p'.runs ≡ p.runs →
      map listed p'.active.items ≡ filter (λ (x : Listed). not (x.0 == t)) (map listed p.active.items) →
      p'.locks ≡ released p.locks t → p'.committed ≡ fresh (view s t).map → IsAtState p' bodies (next s (Commits t))
  commits t b c r a l m = ended t b r a l (next s (Commits t)) refl refl refl c m

  pub answers : (n t : ℕ) (op : Op) (reply : Reply) → is_open s.active t ≡ true → p'.begun ≡ p.begun →
      p'.commits ≡ p.commits → p'.runs ≡ p.runs + runs_made (view s t).map op reply →
      map listed p'.active.items ≡ with_own t
      (n, (op, reply)) (map listed p.active.items) →
      p'.locks ≡ with_locks p.locks t (with_asked (locks_in s.active t) (lock_of op)) → p'.committed ≡ p.committed →
      IsAtState p' (λ u. bodies u ++ added n u (Answers t op reply)) (next s (Answers t op reply))
  answers n t op reply on b c r a l m =
      let low : t ≤ s.begun = open_below s.begun t s.active h.ordinary.below on in
      record {
        begun = b ∙ h.begun;
        commits = c ∙ h.commits;
        runs = r ∙ ap (λ k. k + runs_made (view s t).map op reply) h.runs;
        active = a ∙ ap (with_own t (n, (op, reply))) h.active ∙ list_extended bodies n t op reply s.active
            h.ordinary.rising;
        locks = l ∙ ap (λ table. with_locks table t (with_asked (locks_in s.active t) (lock_of op))) h.locks ∙
            relocked_done s.active t op reply h.ordinary.rising;
        committed = m ∙ h.committed;
        ordinary = record {
          below = all_extended (λ (x : Transaction). x.0 ≤ s.begun) (λ (x : Transaction). x.0 ≤ s.begun) t (op, reply)
              (λ x e k. k) (λ x d k. k) s.active h.ordinary.below;
          rising = RiseBy-with_changed number (extended (op, reply)) t (λ x. refl) s.active h.ordinary.rising;
          made = all_extended (λ (x : Transaction). x.1 ≡ answered_of (bodies x.0))
              (λ (x : Transaction). x.1 ≡ answered_of (bodies x.0 ++ added n x.0 (Answers t op reply))) t (op, reply)
              made_here made_there s.active h.ordinary.made;
          new = λ u above. added_answer n t op reply u (bodies u) ∙
              cond-false (t == u) (bodies u ++ (n, (op, reply)) ∷ []) (bodies u)
              (ne_eqb t u (λ e. let no : ⊥ = omega arith in no)) ∙ h.ordinary.new u above;
        };
      }
    where
      made_here : (x : Transaction) → x.0 ≡ t → x.1 ≡ answered_of (bodies x.0) → x.1 ++ (op, reply) ∷ [] ≡ answered_of
          (bodies x.0 ++ added n x.0 (Answers t op reply))
      made_here x e k = ap (λ xs. xs ++ (op, reply) ∷ []) k ∙
          sym (map-append (λ (p : PlacedAnswer). p.1) (bodies x.0) ((n, (op, reply)) ∷ [])) ∙
          ap answered_of (sym (added_answer n t op reply x.0 (bodies x.0)
          ∙ cond-true (t == x.0) (bodies x.0 ++ (n, (op, reply)) ∷ []) (bodies x.0) (eq-eqb t x.0 (sym e))))

      made_there : (x : Transaction) → x.0 ≢ t → x.1 ≡ answered_of (bodies x.0) → x.1 ≡ answered_of
          (bodies x.0 ++ added n x.0 (Answers t op reply))
      made_there x d k = k ∙ ap answered_of (sym (added_answer n t op reply x.0 (bodies x.0)
          ∙ cond-false (t == x.0) (bodies x.0 ++ (n, (op, reply)) ∷ []) (bodies x.0) (ne_eqb t x.0 (λ e. d (sym e)))))

-- an effect that is no answer adds nothing to the bodies
pub no_answer : (p : Checker) (here : Progress) (s : State) (e : Effect) → ((t : ℕ) → answered_to t e ≡ None) →
    IsAtState p here.bodies s → IsAtState p (λ t. here.bodies t ++ added here.count t e) s
no_answer p here s e none h =
    let bodies : here.bodies ≡ (λ (t : ℕ). here.bodies t ++ added here.count t e) =
    λ i t. (sym (append-nil (here.bodies t)) ∙ ap (λ o. here.bodies t ++
    cons_option (option_map (λ (a : Answered). (here.count, a)) o) []) (sym (none t))) i in
    subst (λ (b : Bodies). IsAtState p b s) bodies h
