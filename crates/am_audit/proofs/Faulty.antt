-- A trace with a first fault isn't legal.
use Rattle.std.proofs.Common.{sym, length, ◌+◌, ◌≡◌, ℕ, List, [], ◌∷◌, ◌++◌, refl, ap, ◌∙◌, subst, Some, None}
use Rattle.std.specs.Prelude.{◌==◌}
use Rattle.std.specs.List.{cons_option}
use Rattle.std.proofs.lemmas.Bool.{cond-true, eq-eqb}
use Rattle.std.proofs.lemmas.List.{map-append}
use Rattle.std.proofs.lemmas.List.Elements.{filter_map-append}
use Rattle.am_record.specs.Plain.{PlainMap, Draft, fresh, answer, draft_after, answers_on, left_on}
use Rattle.am_record.specs.declared.step.Op.{Op}
use Rattle.am_record.specs.declared.step.Step.{Step}
use Rattle.am_record.specs.declared.step.Step.TheVariants.{Do}
use Rattle.am_record.specs.declared.step.Reply.{Reply}
use Rattle.am_record.specs.declared.step.Reply.TheVariants.{Refused}
use Rattle.am_record.proofs.Lists.{heads, tails}
use Rattle.am_record.specs.Events.{Event}
use Rattle.am_law_serial.specs.Trace.{Trace, Answered, Effect, Answers, Commits, answered_to, effect, effects, body}
use Rattle.am_law_serial.specs.Trace.{ops_of}
use Rattle.am_law_serial.specs.Trace.{replies_of, committed, IsSerial, IsAnsweredAlone}
use Rattle.am_law_serial.specs.Sound.{FormedAt, BusyRightAt}
use Rattle.am_law_serial.specs.FormedTraces.{IsFormed, IsNextInOrder, FormedLaws}
use Rattle.am_audit.specs.declared.fault.FaultKind.{FaultKind}
use Rattle.am_audit.specs.declared.fault.FaultKind.TheVariants.{Form, Busy, Answer}
use Rattle.am_law_serial.specs.Legal.{IsLegal}
use Rattle.am_audit.specs.Faults.{IsFirstWrongAnswer, IsFault, IsFirstFault}
use Rattle.am_audit.proofs.Moments.{event_at, moment_after, last_moment}

-- ---- an answer in the middle of a body

reply_parts : (a b : Reply) (xs ys : List Reply) → a ∷ xs ≡ b ∷ ys → (a ≡ b) × (xs ≡ ys)
reply_parts a b xs ys e = (cc, cc)

middle_answer : (done : List Answered) (op : Op) (reply : Reply) (rest : List Answered) (d : Draft) →
    replies_of (done ++ (op, reply) ∷ rest) ≡ answers_on (ops_of (done ++ (op, reply) ∷ rest)) d →
    reply ≡ answer op (left_on (ops_of done) d)
middle_answer [] op reply rest d e = (reply_parts _ _ _ _ e).0
middle_answer (a ∷ done) op reply rest d e = middle_answer done op reply rest (draft_after a.0 d)
    (reply_parts _ _ _ _ e).1

-- the body has the operation between those before it and those after it
body_split : (earlier later : Trace) (t : ℕ) (op : Op) (reply : Reply) → effect (Do t op) reply ≡ Answers t op reply →
    body (effects (earlier ++ (Do t op, reply) ∷ later)) t ≡ body (effects earlier) t ++
    (op, reply) ∷ body (effects later) t
body_split earlier later t op reply is =
    ap (λ es. body es t) (map-append (λ (e : Event). effect e.0 e.1) earlier ((Do t op, reply) ∷ later))
    ∙ filter_map-append (answered_to t) (effects earlier) (effect (Do t op) reply ∷ effects later)
    ∙ ap (λ (e : Effect). body (effects earlier) t ++ cons_option (answered_to t e) (body (effects later) t)) is
    ∙ ap (λ o. body (effects earlier) t ++ cons_option o (body (effects later) t))
    (cond-true (t == t) (Some (op, reply)) None (eq-eqb t t refl))

not_alone : (trace : Trace) (t : ℕ) (m : PlainMap) (line : ℕ) → IsFirstWrongAnswer trace t m line →
    IsAnsweredAlone (body (effects trace) t) m → ⊥
not_alone trace t m line w alone =
    let parted : body (effects trace) t ≡ body (effects w.earlier) t ++ (w.op, w.reply) ∷ body (effects w.later) t =
    ap (λ l. body (effects l) t) w.split ∙ body_split w.earlier w.later t w.op w.reply w.answered in
    w.wrong (middle_answer (body (effects w.earlier) t) w.op w.reply (body (effects w.later) t) (fresh m)
    (subst (λ (done : List Answered). IsAnsweredAlone done m) parted alone))

-- ---- the first fault

module _ (most_runs : ℕ) (laws : (trace : Trace) → IsFormed most_runs trace → FormedLaws most_runs trace) where
  against : (earlier : Trace) (event : Event) (later : Trace) (line : ℕ) (kind : FaultKind) →
      IsLegal most_runs earlier →
      IsFault most_runs earlier event line kind → IsLegal most_runs (earlier ++ event ∷ later) → ⊥
  against earlier event later line Form legal w whole =
      w.1.form (event_at (FormedAt most_runs) earlier event later whole.formed)
  against earlier event later line Busy legal w whole =
      w.1.busy (event_at (BusyRightAt most_runs) earlier event later whole.busy)
  against earlier event later line Answer legal w whole =
      let serial = moment_after IsSerial earlier event later whole.serial in
      let next = ((laws earlier legal.formed).serial event.0 event.1 w.formed
      (last_moment IsSerial earlier legal.serial)).0 serial in
      not_alone earlier w.t (committed (effects earlier)) line w.answer
      (subst (IsNextInOrder (effects earlier)) w.commit next)

  pub not_legal : (trace : Trace) (line : ℕ) (kind : FaultKind) → IsFirstFault most_runs trace line kind →
      IsLegal most_runs trace → ⊥
  not_legal trace line kind f legal = against f.earlier f.event f.later line kind f.legal f.fault
      (subst (IsLegal most_runs) f.split legal)

-- ---- there is one at most

-- two ways to part a list: at the same place, or one before the other
data Parted {A : Type 0} (xs : List A) (x : A) (ys : List A) (y : A) : Type 0 where
  Same : xs ≡ ys → x ≡ y → Parted xs x ys y
  Before : (rest : List A) → ys ≡ xs ++ x ∷ rest → Parted xs x ys y
  After : (rest : List A) → xs ≡ ys ++ y ∷ rest → Parted xs x ys y

parted : {A : Type 0} (xs : List A) (x : A) (xs' ys : List A) (y : A) (ys' : List A) → xs ++ x ∷ xs' ≡ ys ++ y ∷ ys' →
    Parted xs x ys y
parted [] x xs' [] y ys' e = Same refl (heads e)
parted [] x xs' (b ∷ ys) y ys' e = Before ys (ap (λ c. c ∷ ys) (sym (heads e)))
parted (a ∷ xs) x xs' [] y ys' e = After xs (ap (λ c. c ∷ xs) (heads e))
parted (a ∷ xs) x xs' (b ∷ ys) y ys' e =
    one (parted xs x xs' ys y ys' (tails e)) (heads e)
  where
    one : Parted xs x ys y → a ≡ b → Parted (a ∷ xs) x (b ∷ ys) y
    one (Same same here) first = Same (λ i. first i ∷ same i) here
    one (Before rest is) first = Before rest (let back = sym first in λ i. back i ∷ is i)
    one (After rest is) first = After rest (λ i. first i ∷ is i)

same_transaction : (t u : ℕ) (e : Effect) → e ≡ Commits t → e ≡ Commits u → t ≡ u
same_transaction t u e a b = let same : Commits t ≡ Commits u = sym a ∙ b in cc

-- Busy isn't asked of a commit
busy_of_commit : (most_runs : ℕ) (es : List Effect) (step : Step) (reply : Reply) (t : ℕ) →
    effect step reply ≡ Commits t →
    BusyRightAt most_runs es step reply
busy_of_commit most_runs es (Do u op) (Refused why) t e = absurd (cc)
busy_of_commit most_runs es (Do u op) reply t e = absurd (cc)
busy_of_commit most_runs es step reply t e = tt

one_wrong_answer : (trace : Trace) (t : ℕ) (m : PlainMap) (l k : ℕ) → IsFirstWrongAnswer trace t m l →
    IsFirstWrongAnswer trace t m k → l ≡ k
one_wrong_answer trace t m l k w v = at (parted w.earlier (Do t w.op, w.reply) w.later v.earlier (Do t v.op, v.reply)
    v.later (sym w.split ∙ v.split))
  where
    at : Parted w.earlier (Do t w.op, w.reply) v.earlier (Do t v.op, v.reply) → l ≡ k
    at (Same same here) = w.position ∙ ap (λ (xs : Trace). length xs + 2) same ∙ sym v.position
    at (Before rest is) = absurd (not_alone v.earlier t m l (record {
      earlier = w.earlier;
      op = w.op;
      reply = w.reply;
      later = rest;
      split = is;
      position = w.position;
      answered = w.answered;
      first = w.first;
      wrong = w.wrong;
    }) v.first)
    at (After rest is) = absurd (not_alone w.earlier t m k (record {
      earlier = v.earlier;
      op = v.op;
      reply = v.reply;
      later = rest;
      split = is;
      position = v.position;
      answered = v.answered;
      first = v.first;
      wrong = v.wrong;
    }) w.first)

one_fault : (most_runs : ℕ) (trace : Trace) (e : Event) (l k : ℕ) (a b : FaultKind) → IsFault most_runs trace e l a →
    IsFault most_runs trace e k b →
    (l ≡ k) × (a ≡ b)
one_fault most_runs trace e l k Form Form w v = (w.0 ∙ sym v.0, refl)
one_fault most_runs trace e l k Busy Busy w v = (w.0 ∙ sym v.0, refl)
one_fault most_runs trace e l k Answer Answer w v =
    let same = same_transaction v.t w.t (effect e.0 e.1) v.commit w.commit in (
      one_wrong_answer trace w.t (committed (effects trace)) l k w.answer
          (subst (λ t. IsFirstWrongAnswer trace t (committed (effects trace)) k) same v.answer),
      refl,
    )
one_fault most_runs trace e l k Form Busy w v = absurd (v.1.busy (w.1.first v.1.first))
one_fault most_runs trace e l k Busy Form w v = absurd (w.1.busy (v.1.first w.1.first))
one_fault most_runs trace e l k Form Answer w v = absurd (w.1.form v.formed)
one_fault most_runs trace e l k Answer Form w v = absurd (v.1.form w.formed)
one_fault most_runs trace e l k Busy Answer w v =
    absurd (w.1.busy (busy_of_commit most_runs (effects trace) e.0 e.1 v.t v.commit))
one_fault most_runs trace e l k Answer Busy w v =
    absurd (v.1.busy (busy_of_commit most_runs (effects trace) e.0 e.1 w.t w.commit))

pub one_first_fault : (most_runs : ℕ) → ((trace : Trace) → IsFormed most_runs trace → FormedLaws most_runs trace) →
    (trace : Trace) (l k : ℕ) (a b : FaultKind) → IsFirstFault most_runs trace l a → IsFirstFault most_runs trace k b →
    (l ≡ k) × (a ≡ b)
one_first_fault most_runs laws trace l k a b f g = at (parted f.earlier f.event f.later g.earlier g.event g.later
    (sym f.split ∙ g.split))
  where
    at : Parted f.earlier f.event g.earlier g.event → (l ≡ k) × (a ≡ b)
    at (Same same here) = one_fault most_runs g.earlier g.event l k a b
        (subst (λ (x : Trace). IsFault most_runs x g.event l a) same
        (subst (λ (e : Event). IsFault most_runs f.earlier e l a) here f.fault))
        g.fault
    at (Before rest is) = absurd (against most_runs laws f.earlier f.event rest l a f.legal f.fault
        (subst (IsLegal most_runs) is g.legal))
    at (After rest is) = absurd (against most_runs laws g.earlier g.event rest k b g.legal g.fault
        (subst (IsLegal most_runs) is f.legal))
