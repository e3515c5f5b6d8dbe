-- What holds of the entries and notes after each event, beside the machine.
use Rattle.std.proofs.Common.{◌≡◌, ◌≢◌, ◌≤◌, ◌<◌, ◌+◌, ℕ, List, [], ◌∷◌, ◌++◌, length, Bool, true, false, cond, ◌&&◌}
use Rattle.std.proofs.Common.{◌||◌, refl, sym, ap, ◌∙◌, subst, ⊎_elim, None, arith}
use Rattle.std.specs.Prelude.{◌==◌}
use Rattle.std.proofs.lemmas.Bool.{cases_Bool, cond-true, cond-false, and_parts, both_ways, or_cases, ne_eqb, eqb-true}
use Rattle.std.proofs.lemmas.Bool.{eqb-false, eq-eqb, false≢true, false_from_ne_true}
use Rattle.std.proofs.lemmas.List.Folds.{list_any-append}
use Rattle.am_record.specs.OrderedKey.{OrderedKey, key_eq-exact}
use Rattle.am_record.specs.Plain.{is_orderly}
use Rattle.am_record.specs.Asks.{lock_of, owns, owns_key}
use Rattle.am_record.specs.declared.lock.Lock.{Lock}
use Rattle.am_record.specs.declared.entry.Entry.{Entry}
use Rattle.am_record.specs.declared.step.Op.{Op}
use Rattle.am_record.specs.declared.step.Op.TheVariants.{Insert, Replace, Set, Delete, DeleteRange, Load, Put}
use Rattle.am_record.specs.declared.step.Reply.{Reply}
use Rattle.am_record.specs.declared.step.Reply.TheVariants.{Done, Deleted}
use Rattle.am_index.specs.Entries.{find}
use Rattle.am_index.specs.Content.{content}
use Rattle.am_store_undo.specs.declared.note.Note.{Note}
use Rattle.am_store_undo.specs.Undo.{is_noted_run}
use Rattle.am_law_serial.specs.Trace.{Effect, Begins, Answers, runs_made}
use Rattle.am_law_serial.specs.Machine.{State, is_open, view, locks_in, next, owns_in}
use Rattle.am_law_serial.specs.Steps.{StepLaws, IsGranted}
use Rattle.am_law_serial.specs.Laws.{ViewLaws}
use Rattle.am_law_serial.proofs.Bodies.{owns_holds, asked_keeps, asked_has, owns_key_up, not_held}
use Rattle.am_law_serial.proofs.Keys.{in_point, in_span}
use Rattle.am_law_effect.specs.History.{Moment, wrote_by, wrote, marked_by, backed_by}
use Rattle.am_law_effect.specs.Operations.{writes, sets_mark, goes_back, is_plain}
use Rattle.am_law_effect.specs.Laws.{Describes, DescribesEach}
use Rattle.am_law_effect.proofs.Backs.{describe_laws, unwritten}
use Rattle.am_law_effect.proofs.Marks.{each_next, plain_unmarked, plain_unbacked}
use Rattle.am_law_sound.specs.Represents.{may_write}
use Rattle.am_law_sound.proofs.RepresentsLaws.{same_ask}
use Rattle.am_law_sound.proofs.Operations.{OpRight}

pub record Keeps (s : State) (es : List Entry) (past : List Moment) (notes : ℕ → List Note) (marks : ℕ → List ℕ) : Type
    0 where
  pub describes : (t : ℕ) → is_open s.active t ≡ true → DescribesEach t past es (notes t) 0 (length (notes t)) (marks t)
  pub owned : (t : ℕ) (q : OrderedKey) → is_open s.active t ≡ true → wrote t q past ≡ true → owns_in s t q ≡ true
  pub unborn : (t : ℕ) (q : OrderedKey) → s.begun < t → wrote t q past ≡ false
  pub fresh : (t : ℕ) → is_open s.active t ≡ true → t ≤ s.begun
  pub runs_noted : (t p : ℕ) → is_noted_run (notes t) p ≡ true → (p ≢ 0) × (p ≤ s.runs)
  pub below : (p : ℕ) (q : OrderedKey) → s.runs < p → find es p q ≡ None

-- an operation writes only what its lock has
writes_may : (op : Op) (reply : Reply) (q : OrderedKey) → is_orderly op ≡ true → writes op reply q ≡ true →
    may_write op q ≡ true
writes_may (Insert k v) Done q o h = subst (λ x. may_write (Insert k v) x ≡ true) (sym (key_eq-exact q k h))
    (in_point k)
writes_may (Replace k v) Done q o h = subst (λ x. may_write (Replace k v) x ≡ true) (sym (key_eq-exact q k h))
    (in_point k)
writes_may (Set k v) Done q o h = subst (λ x. may_write (Set k v) x ≡ true) (sym (key_eq-exact q k h)) (in_point k)
writes_may (Delete k) Done q o h = subst (λ x. may_write (Delete k) x ≡ true) (sym (key_eq-exact q k h)) (in_point k)
writes_may (DeleteRange range max) (Deleted n) q o h = h
writes_may (Load records) Done q o h = in_span records q o h
writes_may (Put records) Done q o h = in_span records q o h
writes_may op reply q o h = absurd (false≢true h)

no_notes : (t : ℕ) (past : List Moment) (es : List Entry) → ((q : OrderedKey) → wrote t q past ≡ false) →
    Describes t past es []
no_notes t past es none = record {
  same = λ a. sym (unwritten t a past es (none a.1));
  stands = λ a e. refl;
  owns = tt;
  own_runs = λ q h p r. absurd (false≢true r);
}

either_false : {a b : Bool} → a ≡ false → b ≡ false → (a || b) ≡ false
either_false {a} {b} h j = ap (λ x. x || b) h ∙ j

module _ (s : State) (w : ViewLaws s) (st : StepLaws s) (es : List Entry) (past : List Moment) (notes : ℕ → List Note)
    (marks : ℕ → List ℕ) (k : Keeps s es past notes marks) where
  -- what one owns, no other active one owns
  pub not_both : (t u : ℕ) → is_open s.active t ≡ true → is_open s.active u ≡ true → t ≢ u → (q : OrderedKey) →
      owns_in s t q ≡ true → owns_in s u q ≡ false
  not_both t u ht hu n q h = w.apart t u q ht hu n (owns_holds (locks_in s.active t) q h)

  -- an event of others, where it leaves a transaction's keys as they are
  pub others_each : (d : Effect) (es' : List Entry) (u : ℕ) → is_open s.active u ≡ true → backed_by u d ≡ false →
      marked_by u d ≡ false → ((q : OrderedKey) → wrote_by u q d ≡ false)
      → ((q : OrderedKey) → owns_in s u q ≡ true → (p : ℕ) → find es' p q ≡ find es p q) →
      ((p : ℕ) (q : OrderedKey) → p ≢ 0 → p ≤ s.runs → find es p q ≡ None → find es' p q ≡ None)
      → DescribesEach u ((d, es) ∷ past) es' (notes u) 0 (length (notes u)) (marks u)
  others_each d es' u on back_no mark_no none same no_more =
      each_next u past d es es' (notes u) [] (marks u) back_no mark_no
      (λ past' part m r x. (describe_laws u past' es part x).others d es' none
      (λ q h p. same q (k.owned u q on (m q h)) p) (λ q p made e. let b = k.runs_noted u p (r p made) in
      no_more p q b.0 b.1 e))
      (k.describes u on)

  -- an event that writes nothing
  pub quiet : (s' : State) (d : Effect) (es' : List Entry) → ((t : ℕ) (q : OrderedKey) → wrote_by t q d ≡ false) →
      ((t : ℕ) → backed_by t d ≡ false) → ((t : ℕ) → marked_by t d ≡ false)
      → ((t : ℕ) → is_open s'.active t ≡ true → is_open s.active t ≡ true) →
      ((t : ℕ) → is_open s'.active t ≡ true → locks_in s'.active t ≡ locks_in s.active t) → s'.begun ≡ s.begun →
      s'.runs ≡ s.runs
      → ((t : ℕ) → is_open s'.active t ≡ true → (q : OrderedKey) → owns_in s t q ≡ true → (p : ℕ) →
      find es' p q ≡ find es p q)
      → ((p : ℕ) (q : OrderedKey) → p ≢ 0 → find es p q ≡ None → find es' p q ≡ None)
      → Keeps s' es' ((d, es) ∷ past) notes marks
  quiet s' d es' none back_no mark_no was locks begun runs same no_more = record {
    describes = λ t on. others_each d es' t (was t on) (back_no t) (mark_no t) (none t) (same t on)
        (λ p q n l e. no_more p q n e);
    owned = λ t q on wr. subst (λ (ls : List Lock). owns ls q ≡ true) (sym (locks t on))
        (k.owned t q (was t on) (⊎_elim (λ now. absurd (both_ways _ (none t q) now)) (λ before. before)
        (or_cases (wrote_by t q d) (wrote t q past) wr)));
    unborn = λ t q h. either_false (none t q) (k.unborn t q (subst (λ n. n < t) begun h));
    fresh = λ t on. subst (λ n. t ≤ n) (sym begun) (k.fresh t (was t on));
    runs_noted = λ t p h. let r = k.runs_noted t p h in (r.0, subst (λ n. p ≤ n) (sym runs) r.1);
    below = λ p q h. let l : s.runs < p = subst (λ n. n < p) runs h in no_more p q (λ z. absurd (omega arith))
        (k.below p q l);
  }

  pub not_begun : (t : ℕ) → t ≡ s.begun + 1 → is_open s.active t ≡ false
  not_begun t new = false_from_ne_true (is_open s.active t) (λ on. let h = k.fresh t on in absurd (omega arith))

  pub begins : (t0 : ℕ) → t0 ≡ s.begun + 1 → Keeps (next s (Begins t0)) es ((Begins t0, es) ∷ past)
      (λ u. cond (t0 == u) [] (notes u)) (λ u. cond (t0 == u) [] (marks u))
  begins t0 new = record {
    describes = λ u on. by_case u on (t0 == u) refl;
    owned = λ u q on wr. ⊎_elim
        (λ yes. let e = eqb-true t0 u yes in absurd (both_ways (wrote u q past) (k.unborn u q (omega (arith, e, new)))
        wr))
        (λ other. let x = st.begins_others t0 u (λ e. eqb-false t0 u other (sym e)) in
        subst (λ (ls : List Lock). owns ls q ≡ true) (sym x.keeps.locks) (k.owned u q (sym x.keeps.is_active ∙ on) wr))
        (cases_Bool (t0 == u));
    unborn = λ u q h. k.unborn u q (omega arith);
    fresh = λ u on. ⊎_elim
        (λ yes. let e = eqb-true t0 u yes in omega (arith, e, new))
        (λ other. let x = st.begins_others t0 u (λ e. eqb-false t0 u other (sym e)) in
        let h = k.fresh u (sym x.keeps.is_active ∙ on) in omega arith)
        (cases_Bool (t0 == u));
    runs_noted = λ u p h. ⊎_elim
        (λ yes. absurd (false≢true (sym (ap (λ (ns : List Note). is_noted_run ns p)
        (cond-true (t0 == u) [] (notes u) yes)) ∙ h)))
        (λ other. k.runs_noted u p (sym (ap (λ (ns : List Note). is_noted_run ns p)
        (cond-false (t0 == u) [] (notes u) other)) ∙ h))
        (cases_Bool (t0 == u));
    below = k.below;
  }
    where
      by_case : (u : ℕ) → is_open (next s (Begins t0)).active u ≡ true → (b : Bool) → (t0 == u) ≡ b →
          DescribesEach u ((Begins t0, es) ∷ past) es (cond b [] (notes u)) 0 (length (cond b [] (notes u)))
          (cond b [] (marks u))
      by_case u on true e = let same = eqb-true t0 u e in no_notes u ((Begins t0, es) ∷ past) es
          (λ q. k.unborn u q (omega (arith, same, new)))
      by_case u on false e =
          let x = st.begins_others t0 u (λ h. eqb-false t0 u e (sym h)) in
          others_each (Begins t0) es u (sym x.keeps.is_active ∙ on) refl refl (λ q. refl) (λ q h p. refl)
          (λ p q n l k. k)

  -- ---- an operation is answered

  module _ (t : ℕ) (op : Op) (reply : Reply) (granted : IsGranted s t op) (orderly : is_orderly op ≡ true) where
    abbrev s' : State
    s' = next s (Answers t op reply)

    not_written : (u : ℕ) → is_open s.active u ≡ true → u ≢ t → (q : OrderedKey) → owns_in s u q ≡ true →
        may_write op q ≡ false
    not_written u hu n q h = false_from_ne_true (may_write op q)
        (λ m. not_held (lock_of op) (locks_in s.active u) q (granted.free u hu n) (sym (same_ask (lock_of op) q) ∙ m)
        (owns_holds (locks_in s.active u) q h))

    was_open : (u : ℕ) → u ≢ t → is_open s'.active u ≡ true → is_open s.active u ≡ true
    was_open u n on = sym (st.answers_others t op reply u n).keeps.is_active ∙ on

    owned_later : (u : ℕ) (q : OrderedKey) → is_open s'.active u ≡ true → wrote u q ((Answers t op reply, es) ∷ past) ≡
        true → owns_in s' u q ≡ true
    owned_later u q on wr = ⊎_elim
        (λ yes.
        let e = eqb-true t u yes in
        subst (λ x. owns_in s' x q ≡ true) e
        (subst (λ (ls : List Lock). owns ls q ≡ true) (sym (st.answers t op reply granted.is_active).locks)
        (⊎_elim
        (λ now. asked_has (owns_key q) (owns_key_up q) (locks_in s.active t) (lock_of op)
        (sym (same_ask (lock_of op) q) ∙ writes_may op reply q orderly (and_parts (u == t) (writes op reply q) now).1))
        (λ before. asked_keeps (owns_key q) (locks_in s.active t) (lock_of op)
        (k.owned t q granted.is_active (subst (λ x. wrote x q past ≡ true) (sym e) before)))
        (or_cases (wrote_by u q (Answers t op reply)) (wrote u q past) wr))))
        (λ other.
        let n : u ≢ t = λ e. eqb-false t u other (sym e) in
        let x = st.answers_others t op reply u n in
        subst (λ (ls : List Lock). owns ls q ≡ true) (sym x.keeps.locks)
        (k.owned u q (was_open u n on) (⊎_elim
        (λ now. absurd (n (eqb-true u t (and_parts (u == t) (writes op reply q) now).0)))
        (λ before. before)
        (or_cases (wrote_by u q (Answers t op reply)) (wrote u q past) wr))))
        (cases_Bool (t == u))

    unborn_later : (u : ℕ) (q : OrderedKey) → s.begun < u → wrote u q ((Answers t op reply, es) ∷ past) ≡ false
    unborn_later u q h =
        let old = k.fresh t granted.is_active in
        either_false (ap (λ b. b && writes op reply q) (ne_eqb u t (λ e. absurd (omega (arith, e))))) (k.unborn u q h)

    fresh_later : (u : ℕ) → is_open s'.active u ≡ true → u ≤ s.begun
    fresh_later u on = ⊎_elim
        (λ yes. subst (λ x. x ≤ s.begun) (eqb-true t u yes) (k.fresh t granted.is_active))
        (λ other. k.fresh u (was_open u (λ e. eqb-false t u other (sym e)) on))
        (cases_Bool (t == u))

    of_other : (es' : List Entry) (u : ℕ) → is_open s.active u ≡ true → u ≢ t →
        ((q : OrderedKey) → owns_in s u q ≡ true → (p : ℕ) → find es' p q ≡ find es p q) →
        ((p : ℕ) (q : OrderedKey) → p ≢ 0 → p ≤ s.runs → find es p q ≡ None → find es' p q ≡ None)
        → DescribesEach u ((Answers t op reply, es) ∷ past) es' (notes u) 0 (length (notes u)) (marks u)
    of_other es' u hu n same no_more =
        let other : (u == t) ≡ false = ne_eqb u t n in
        others_each (Answers t op reply) es' u hu (ap (λ b. b && goes_back op reply) other)
        (ap (λ b. b && sets_mark op reply) other) (λ q. ap (λ b. b && writes op reply q) other) same no_more

    -- an operation that is granted, Mark and Back aside
    pub answers : (es' : List Entry) (new : List Note) → is_plain op ≡ true → OpRight t s.runs op reply es es' new
        → runs_made (view s t).map op reply ≡ runs_made (content es) op reply → Keeps (next s (Answers t op reply)) es'
        ((Answers t op reply, es) ∷ past)
        (λ u. cond (t == u) (new ++ notes u) (notes u)) marks
    answers es' new plain r made = record {
      describes = λ u on. by_case u on (t == u) refl;
      owned = owned_later;
      unborn = unborn_later;
      fresh = fresh_later;
      runs_noted = λ u p h. ⊎_elim
          (λ yes. ⊎_elim
          (λ now. let x = r.runs_noted p now in (x.0, subst (λ n. p ≤ s.runs + n) (sym made) x.1))
          (λ before. let b = k.runs_noted u p before in (b.0, omega (arith, b.1)))
          (or_cases (is_noted_run new p) (is_noted_run (notes u) p) (sym (list_any-append _ new (notes u)) ∙
          sym (ap (λ (ns : List Note). is_noted_run ns p) (cond-true (t == u) (new ++ notes u) (notes u) yes)) ∙
          h)))
          (λ other. let b = k.runs_noted u p (sym (ap (λ (ns : List Note). is_noted_run ns p)
          (cond-false (t == u) (new ++ notes u) (notes u) other)) ∙ h) in (b.0, omega (arith, b.1)))
          (cases_Bool (t == u));
      below = λ p q h. r.below p q (subst (λ n. s.runs + n < p) made h);
    }
      where
        of_t : DescribesEach t ((Answers t op reply, es) ∷ past) es' (new ++ notes t) 0 (length (new ++ notes t))
            (marks t)
        of_t = each_next t past (Answers t op reply) es es' (notes t) new (marks t)
            (ap (λ b. (t == t) && b) (plain_unbacked op reply plain) ∙ ap (λ b. b && false) (eq-eqb t t refl))
            (ap (λ b. (t == t) && b) (plain_unmarked op reply plain) ∙ ap (λ b. b && false) (eq-eqb t t refl))
            (λ past' part w m u. r.describe past' part u) (k.describes t granted.is_active)

        by_case : (u : ℕ) → is_open s'.active u ≡ true → (b : Bool) → (t == u) ≡ b →
            DescribesEach u ((Answers t op reply, es) ∷ past) es' (cond b (new ++ notes u) (notes u)) 0
            (length (cond b (new ++ notes u) (notes u))) (marks u)
        by_case u hu true e = subst (λ x. DescribesEach x ((Answers t op reply, es) ∷ past) es' (new ++ notes x) 0
            (length (new ++ notes x)) (marks x)) (eqb-true t u e) of_t
        by_case u hu false e =
            let n : u ≢ t = λ c. eqb-false t u e (sym c) in
            let was = was_open u n hu in
            of_other es' u was n (λ q h p. r.only p q (not_written u was n q h)) r.keeps

    -- Mark and Back
    module _ (es' : List Entry)
        (same : (u : ℕ) → is_open s.active u ≡ true → u ≢ t → (q : OrderedKey) → owns_in s u q ≡ true → (p : ℕ) →
        find es' p q ≡ find es p q)
        (no_more : (p : ℕ) (q : OrderedKey) → find es p q ≡ None → find es' p q ≡ None)
        (its_notes : List Note) (its_marks : List ℕ) (own : DescribesEach t ((Answers t op reply, es) ∷ past) es'
        its_notes 0 (length its_notes) its_marks) (less : (p : ℕ) → is_noted_run its_notes p ≡ true →
        is_noted_run (notes t) p ≡ true) where
      pub lockless : (notes' : ℕ → List Note) (marks' : ℕ → List ℕ) → notes' t ≡ its_notes → marks' t ≡ its_marks →
          ((u : ℕ) → u ≢ t → notes' u ≡ notes u) → ((u : ℕ) → u ≢ t → marks' u ≡ marks u)
          → Keeps (next s (Answers t op reply)) es' ((Answers t op reply, es) ∷ past) notes' marks'
      lockless notes' marks' en em on om = record {
        describes = λ u hu. ⊎_elim
            (λ yes. subst (λ x. DescribesEach x ((Answers t op reply, es) ∷ past) es' (notes' x) 0 (length (notes' x))
            (marks' x)) (eqb-true t u yes)
            (subst (λ (ns : List Note). DescribesEach t ((Answers t op reply, es) ∷ past) es' ns 0 (length ns)
            (marks' t)) (sym en)
            (subst (DescribesEach t ((Answers t op reply, es) ∷ past) es' its_notes 0 (length its_notes)) (sym em)
            own)))
            (λ other. let n : u ≢ t = λ c. eqb-false t u other (sym c) in
            let was = was_open u n hu in
            subst (λ (ns : List Note). DescribesEach u ((Answers t op reply, es) ∷ past) es' ns 0 (length ns)
            (marks' u)) (sym (on u n))
            (subst (DescribesEach u ((Answers t op reply, es) ∷ past) es' (notes u) 0 (length (notes u))) (sym (om u n))
            (of_other es' u was n (same u was n) (λ p q z l e. no_more p q e))))
            (cases_Bool (t == u));
        owned = owned_later;
        unborn = unborn_later;
        fresh = fresh_later;
        runs_noted = λ u p h. let up : s.runs ≤ s'.runs = omega arith in ⊎_elim
            (λ yes. let b = k.runs_noted t p (less p (subst (λ (ns : List Note). is_noted_run ns p ≡ true)
            (ap notes' (sym (eqb-true t u yes)) ∙ en) h)) in (b.0, omega (arith, b.1)))
            (λ other. let b = k.runs_noted u p (subst (λ (ns : List Note). is_noted_run ns p ≡ true)
            (on u (λ c. eqb-false t u other (sym c))) h) in (b.0, omega (arith, b.1)))
            (cases_Bool (t == u));
        below = λ p q h. no_more p q (k.below p q (omega arith));
      }
