-- The operations of a transaction, with their places.
use Rattle.std.proofs.Common.{◌≡◌, ℕ, ◌+◌, List, [], ◌∷◌, ◌++◌, length, map, Bool, true, false, cond, refl, sym, ap}
use Rattle.std.proofs.Common.{◌∙◌, subst, Option, Some, None, arith}
use Rattle.std.specs.Prelude.{◌==◌, IfSome, IfNone}
use Rattle.std.specs.List.{cons_option, AllByRecursion}
use Rattle.std.specs.Option.{option_map}
use Rattle.std.proofs.lemmas.Bool.{eqb-true}
use Rattle.std.proofs.lemmas.List.{length-map}
use Rattle.am_record.specs.Plain.{PlainMap, Draft, fresh, answer, answers_on, left_on}
use Rattle.am_record.specs.declared.step.Op.{Op}
use Rattle.am_record.specs.declared.step.Step.{Step}
use Rattle.am_record.specs.declared.step.Step.TheVariants.{Begin, Do, Commit, Abort}
use Rattle.am_record.specs.declared.step.Reply.{Reply}
use Rattle.am_record.specs.declared.step.Reply.TheVariants.{Begun, Committed, Aborted, Refused}
use Rattle.am_record.proofs.Lists.{AllByRecursion-map, heads, tails}
use Rattle.am_record.specs.ByNumber.{RiseBy}
use Rattle.am_record.proofs.ByNumber.{of_number-all, of_number-map, of_number-known, RiseBy-map}
use Rattle.am_record.specs.Events.{Event}
use Rattle.am_law_serial.specs.Trace.{Trace, Answered, Answers, answered_to, effect, effect_of_do, effects, body}
use Rattle.am_law_serial.specs.Trace.{ops_of}
use Rattle.am_law_serial.specs.Trace.{replies_of, IsAnsweredAlone}
use Rattle.am_law_serial.specs.Machine.{State, Transaction, is_open, body_in}
use Rattle.am_audit_replies.specs.declared.active.Active.{Active}
use Rattle.am_audit.specs.declared.checker.Checker.{Checker}
use Rattle.am_audit.specs.Faults.{IsFirstWrongAnswer}
use Rattle.am_audit_replies.specs.OwnAnswers.{PlacedAnswer, answered_of, Listed, listed, is_listed, place_in}
use Rattle.am_audit.specs.Progress.{answers_from, answers_at}
use Rattle.am_audit_replies.specs.OwnAnswers.{own_in, IsFirstWrong}
use Rattle.am_audit.specs.Progress.{Bodies, list_of, Progress, HasChecked}
use Rattle.am_audit.proofs.EventSteps.{is_active}

-- ---- what is listed of an active transaction

pub body_is : (bodies : Bodies) (txs : List Transaction) →
    AllByRecursion (λ (x : Transaction). x.1 ≡ answered_of (bodies x.0)) txs → (t : ℕ) → is_open txs t ≡ true →
    body_in txs t ≡ answered_of (bodies t)
body_is bodies txs a t on = of_number-all (λ (x : Transaction). x.0) (λ x. x.1) [] (λ b. b ≡ answered_of (bodies t)) t
    txs
    (AllByRecursion-map (λ (x : Transaction). x.1 ≡ answered_of (bodies x.0))
    (λ (x : Transaction). x.0 ≡ t → x.1 ≡ answered_of (bodies t))
    (λ x made e. made ∙ ap (λ u. answered_of (bodies u)) e)
    txs a) on

pub own_are : (bodies : Bodies) (txs : List Transaction) (t : ℕ) → is_open txs t ≡ true →
    own_in (map (list_of bodies) txs) t ≡ bodies t
own_are bodies txs t on =
    of_number-map (λ (x : Transaction). x.0) (λ (x : Listed). x.0) (list_of bodies) (λ x. refl) (λ x. bodies x.0)
    (λ x. x.1) [] (λ x. refl) txs t
    ∙ of_number-known (λ (x : Transaction). x.0) (λ x. bodies x.0) [] (λ ps. ps ≡ bodies t) t (λ x e. ap bodies e) txs
    on

-- the numbers of the active transactions rise
pub listed_rise : (p : Checker) (here : Progress) → HasChecked p here → (all : List Active) → all ≡ p.active.items →
    RiseBy (λ (x : Listed). x.0) (map listed all)
listed_rise p here h all is =
    subst (λ (xs : List Listed). RiseBy (λ (x : Listed). x.0) xs) (sym (ap (map listed) is ∙ h.active))
    (RiseBy-map (λ (x : Transaction). x.0) (λ (x : Listed). x.0) (list_of here.bodies) (λ x. refl) here.state.active
    h.ordinary.rising)

-- where it stands in one list that is kept, it stands in the other
pub asked_there : {kept all other : List Active} {found : Option ℕ} {place : ℕ} (t : ℕ) → all ≡ kept → other ≡ kept →
    found ≡ place_in all t → found ≡ Some place → place_in other t ≡ Some place
asked_there t one two is some = ap (λ (xs : List Active). place_in xs t) (two ∙ sym one) ∙ sym is ∙ some

module _ (p : Checker) (here : Progress) (h : HasChecked p here) (all : List Active) (is : all ≡ p.active.items) (t : ℕ)
  where
    abbrev s : State
    s = here.state

    pub listed_open : is_listed (map listed all) t ≡ is_open s.active t
    listed_open = ap (λ (xs : List Active). is_listed (map listed xs) t) is ∙ is_active p here h t

    pub own_placed : is_open s.active t ≡ true → own_in (map listed all) t ≡ here.bodies t
    own_placed on = ap (λ (xs : List Active). own_in (map listed xs) t) is ∙ ap (λ (xs : List Listed). own_in xs t)
        h.active ∙ own_are here.bodies s.active t on

    pub body_placed : is_open s.active t ≡ true → body_in s.active t ≡ answered_of (here.bodies t)
    body_placed on = body_is here.bodies s.active h.ordinary.made t on

    pub counted : (o : Option ℕ) → IfSome o (λ n. (is_listed (map listed all) t ≡ true) ×
        (n ≡ length (own_in (map listed all) t))) → IfSome o (λ n. (is_open s.active t ≡ true) ×
        (n ≡ length (body_in s.active t)))
    counted None f = tt
    counted (Some n) f =
        let on : is_open s.active t ≡ true = sym listed_open ∙ f.0 in (
          on,
          f.1 ∙ ap length (own_placed on) ∙ sym (ap length (body_placed on) ∙
              length-map (here.bodies t) (λ (q : PlacedAnswer). q.1)),
        )

    pub not_counted : (o : Option ℕ) → IfNone o (is_listed (map listed all) t ≡ false) →
        IfNone o (is_open s.active t ≡ false)
    not_counted None f = sym listed_open ∙ f
    not_counted (Some n) f = tt

-- ---- one event that answers

same_answers : (t u : ℕ) (op : Op) (reply : Reply) (a : Answered) → cond (u == t) (Some (op, reply)) None ≡ Some a →
    (u ≡ t) × ((op, reply) ≡ a)
same_answers t u op reply a e = at (u == t) refl e
  where
    at : (b : Bool) → (u == t) ≡ b → cond b (Some (op, reply)) None ≡ Some a → (u ≡ t) × ((op, reply) ≡ a)
    at true same k = (eqb-true u t same, cc)
    at false same k = absurd (cc)

-- the event is the transaction's operation with that reply
pub record IsAnswered (t : ℕ) (e : Event) (a : Answered) : Type 0 where
  pub event : e ≡ (Do t a.0, a.1)
  pub effect : effect (Do t a.0) a.1 ≡ Answers t a.0 a.1

answered_do : (t u : ℕ) (op : Op) (reply : Reply) (a : Answered) → effect_of_do u op reply ≡ Answers u op reply →
    cond (u == t) (Some (op, reply)) None ≡ Some a → IsAnswered t (Do u op, reply) a
answered_do t u op reply a is e =
    let same = same_answers t u op reply a e in
    subst (λ (b : Answered). IsAnswered t (Do u op, reply) b) same.1
    (subst (λ v. IsAnswered v (Do u op, reply) (op, reply)) same.0 (record { event = refl; effect = is }))

no_answer : {A : Type 0} (a : Answered) → ◌≡◌ {A = Option Answered} None (Some a) → A
no_answer a e = absurd (cc)

pub answered_event : (t : ℕ) (step : Step) (reply : Reply) (a : Answered) → answered_to t (effect step reply) ≡ Some a →
    IsAnswered t (step, reply) a
answered_event t (Do u op) (Refused why) a e = no_answer a e
answered_event t (Do u op) reply a e = answered_do t u op reply a refl e
answered_event t Begin (Begun u) a e = no_answer a e
answered_event t (Commit u) (Committed c) a e = no_answer a e
answered_event t (Abort u) Aborted a e = no_answer a e
answered_event t _ _ a e = no_answer a e

-- ---- the places

pub placed_body : (trace : Trace) (n t : ℕ) → answered_of (answers_from n t trace) ≡ body (effects trace) t
placed_body [] n t = refl
placed_body (e ∷ trace) n t = one (answered_to t (effect e.0 e.1)) (placed_body trace (n + 1) t)
  where
    one : (o : Option Answered) → answered_of (answers_from (n + 1) t trace) ≡ body (effects trace) t →
        answered_of (cons_option (option_map (λ (a : Answered). (n, a)) o) (answers_from (n + 1) t trace)) ≡ cons_option
        o
        (body (effects trace) t)
    one None rest = rest
    one (Some a) rest = ap (λ l. a ∷ l) rest

-- where an operation of the body stands
pub record Splits (trace : Trace) (n t : ℕ) (es : List PlacedAnswer) (position : ℕ) (a : Answered) : Type 0 where
  pub earlier : Trace
  pub later : Trace
  pub split : trace ≡ earlier ++ (Do t a.0, a.1) ∷ later
  pub at : position ≡ n + length earlier
  pub before : answers_from n t earlier ≡ es
  pub effect : effect (Do t a.0) a.1 ≡ Answers t a.0 a.1

pair_parts : (n m : ℕ) (a b : Answered) → ◌≡◌ {A = PlacedAnswer} (n, a) (m, b) → (n ≡ m) × (a ≡ b)
pair_parts n m a b e = (ap (λ (p : PlacedAnswer). p.0) e, ap (λ (p : PlacedAnswer). p.1) e)

splits : (trace : Trace) (n t : ℕ) (es : List PlacedAnswer) (position : ℕ) (a : Answered) (rest : List PlacedAnswer) →
    answers_from n t trace ≡ es ++ (position, a) ∷ rest → Splits trace n t es position a
splits [] n t [] position a rest e = absurd (cc)
splits [] n t (x ∷ es) position a rest e = absurd (cc)
splits (e ∷ trace) n t es position a rest is = one (answered_to t (effect e.0 e.1)) refl is
    (λ es' k. splits trace (n + 1) t es' position a rest k)
  where
    one : (o : Option Answered) → answered_to t (effect e.0 e.1) ≡ o →
        cons_option (option_map (λ (a : Answered). (n, a)) o) (answers_from (n + 1) t trace) ≡ es ++
        (position, a) ∷ rest →
        ((es' : List PlacedAnswer) → answers_from (n + 1) t trace ≡ es' ++ (position, a) ∷ rest →
        Splits trace (n + 1) t es' position a) → Splits (e ∷ trace) n t es position a
    one None none k later =
        let f = later es k in
        record {
          earlier = e ∷ f.earlier;
          later = f.later;
          split = ap (λ l. e ∷ l) f.split;
          at = let here = f.at in omega arith;
          before = ap (λ o. cons_option (option_map (λ (a : Answered). (n, a)) o) (answers_from (n + 1) t f.earlier))
              none ∙ f.before;
          effect = f.effect;
        }
    one (Some b) some k later = here es k later
      where
        here : (fs : List PlacedAnswer) → (n, b) ∷ answers_from (n + 1) t trace ≡ fs ++ (position, a) ∷ rest →
            ((es' : List PlacedAnswer) → answers_from (n + 1) t trace ≡ es' ++ (position, a) ∷ rest →
            Splits trace (n + 1) t es' position a) → Splits (e ∷ trace) n t fs position a
        here [] k later =
            let pair = pair_parts n position b a (heads k) in
            let told = answered_event t e.0 e.1 b some in
            let told' = subst (λ (c : Answered). IsAnswered t (e.0, e.1) c) pair.1 told in
            record {
              earlier = [];
              later = trace;
              split = ap (λ (x : Event). x ∷ trace) told'.event;
              at = let same = pair.0 in omega arith;
              before = refl;
              effect = told'.effect;
            }
        here (x ∷ fs) k later =
            let first : (n, b) ≡ x = heads k in
            let f = later fs (tails k) in
            record {
              earlier = e ∷ f.earlier;
              later = f.later;
              split = ap (λ l. e ∷ l) f.split;
              at = let here = f.at in omega arith;
              before = ap (λ o. cons_option (option_map (λ (a : Answered). (n, a)) o)
                  (answers_from (n + 1) t f.earlier)) some ∙ (λ i. first i ∷ f.before i);
              effect = f.effect;
            }

-- ---- where a body is first answered wrongly

pub first_wrong : (seen : Trace) (t : ℕ) (m : PlainMap) (d : Draft) (position : ℕ) → d ≡ fresh m →
    IsFirstWrong (answers_at seen t) d position → IsFirstWrongAnswer seen t m (position + 2)
first_wrong seen t m d position is w =
    let f = splits seen 0 t w.earlier position (w.op, w.reply) w.later w.split in
    let before : body (effects f.earlier) t ≡ answered_of w.earlier = sym (placed_body f.earlier 0 t) ∙
    ap answered_of f.before in
    let w' : IsFirstWrong (answers_at seen t) (fresh m) position =
    subst (λ x. IsFirstWrong (answers_at seen t) x position) is w in
    record {
      earlier = f.earlier;
      op = w.op;
      reply = w.reply;
      later = f.later;
      split = f.split;
      position = let here = f.at in omega arith;
      answered = f.effect;
      first = subst (λ (b : List Answered). IsAnsweredAlone b m) (sym before) (first_part w);
      wrong = λ e. wrong_part w (e ∙ ap (λ (b : List Answered). answer w.op (left_on (ops_of b) (fresh m))) before);
    }
  where
    first_part : (x : IsFirstWrong (answers_at seen t) d position) → IsAnsweredAlone (answered_of x.earlier) m
    first_part x = let P : Draft → Type 0 = λ y. replies_of (answered_of x.earlier) ≡ answers_on
        (ops_of (answered_of x.earlier)) y in subst P is x.first

    wrong_part : (x : IsFirstWrong (answers_at seen t) d position) →
        x.reply ≡ answer x.op (left_on (ops_of (answered_of x.earlier)) (fresh m)) → ⊥
    wrong_part x e = x.wrong (e ∙ ap (λ y. answer x.op (left_on (ops_of (answered_of x.earlier)) y)) (sym is))
