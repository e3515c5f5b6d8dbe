-- The moment that an audit tells by itself: what it keeps of the active transactions are their bodies.
use Rattle.std.proofs.Common.{◌≡◌, ℕ, ◌+◌, ◌<◌, ◌≤◌, List, [], ◌∷◌, ◌++◌, map, true, false, refl, sym, ap, ◌∙◌, subst}
use Rattle.std.proofs.Common.{arith}
use Rattle.std.specs.Prelude.{◌==◌, not}
use Rattle.std.specs.List.{AllByRecursion}
use Rattle.std.proofs.lemmas.Bool.{false_from_ne_true}
use Rattle.am_record.specs.Plain.{Draft, fresh}
use Rattle.am_record.specs.declared.step.Step.{Step}
use Rattle.am_record.specs.declared.step.Step.TheVariants.{Begin, Do, Commit, Abort}
use Rattle.am_record.specs.declared.step.Reply.{Reply}
use Rattle.am_record.specs.declared.step.Reply.TheVariants.{Begun, Committed, Aborted, Refused}
use Rattle.am_record.proofs.Lists.{AllByRecursion-map, AllByRecursion-push, AllByRecursion-filter, map-alike}
use Rattle.am_record.proofs.ByNumber.{each_there, of_number-none}
use Rattle.am_law_serial.specs.Trace.{Effect, Begins, Answers, Commits, Aborts, Nothing, effect}
use Rattle.am_law_serial.specs.Machine.{State, Transaction, is_open, next}
use Rattle.am_audit_replies.specs.declared.event_fault.EventFault.{EventFault}
use Rattle.am_audit_replies.specs.declared.event_fault.EventFault.TheVariants.{Form, Busy, Answer, NoMemory}
use Rattle.am_audit.specs.declared.checker.Checker.{Checker}
use Rattle.am_audit_replies.specs.OwnAnswers.{PlacedAnswer, answered_of, Listed, listed, own_in}
use Rattle.am_audit.specs.Progress.{Bodies, list_of, IsAtState}
use Rattle.am_audit.specs.Progress.{added, Progress, HasChecked, FormedIn, IsRightIn, IsMisformedIn, IsWronglyBusyIn}
use Rattle.am_audit_replies.specs.OwnAnswers.{IsFirstWrong}
use Rattle.am_audit.specs.Progress.{TakesEvent, IsEventFault}
use Rattle.am_audit.proofs.Progresses.{all_extended, open_below}
use Rattle.am_audit.proofs.EventSteps.{listed_is}
use Rattle.am_audit.proofs.Bodies.{own_are}
use Rattle.am_audit.proofs.Lifts.{commit_open}

abbrev pub own_bodies : Checker → Bodies
own_bodies p = own_in (map listed p.active.items)

abbrev pub own_state : Checker → State
own_state p = record {
  begun = p.begun;
  commits = p.commits;
  runs = p.runs;
  committed = p.committed.map;
  active = map (λ (x : Listed). (x.0, answered_of x.1)) (map listed p.active.items);
}

abbrev pub own_moment : Checker → ℕ → Progress
own_moment p n = record { bodies = own_bodies p; state = own_state p; count = n }

-- ---- its state

active_are : (bodies : Bodies) (txs : List Transaction) →
    AllByRecursion (λ (x : Transaction). x.1 ≡ answered_of (bodies x.0)) txs →
    map (λ (x : Listed). (x.0, answered_of x.1)) (map (list_of bodies) txs) ≡ txs
active_are bodies [] a = refl
active_are bodies (x ∷ txs) a = let rest = active_are bodies txs a.1 in λ i. (x.0, sym a.0 i) ∷ rest i

state_is : (p : Checker) (bodies : Bodies) (s : State) → IsAtState p bodies s → own_state p ≡ s
state_is p bodies s h =
    let active = ap (map (λ (x : Listed). (x.0, answered_of x.1))) h.active ∙
    active_are bodies s.active h.ordinary.made in
    λ i. record {
      begun = h.begun i;
      commits = h.commits i;
      runs = h.runs i;
      committed = (ap (λ (d : Draft). d.map) h.committed) i;
      active = active i;
    }

-- ---- its bodies

abbrev AgreeOn : List Transaction → Bodies → Bodies → Type 0
AgreeOn txs b c = AllByRecursion (λ (x : Transaction). b x.0 ≡ c x.0) txs

lists_agree : (b c : Bodies) (txs : List Transaction) → AgreeOn txs b c → map (list_of b) txs ≡ map (list_of c) txs
lists_agree b c txs a = map-alike (list_of b) (list_of c) txs (AllByRecursion-map (λ (x : Transaction). b x.0 ≡ c x.0)
    (λ x. list_of b x ≡ list_of c x) (λ x e i. (x.0, e i)) txs a)

-- other bodies that are the same for the active transactions
rebodied : (p : Checker) (b c : Bodies) (s : State) → AgreeOn s.active b c → ((t : ℕ) → s.begun < t → c t ≡ []) →
    IsAtState p b s → IsAtState p c s
rebodied p b c s same none h = record {
  begun = h.begun;
  commits = h.commits;
  runs = h.runs;
  active = h.active ∙ lists_agree b c s.active same;
  locks = h.locks;
  committed = h.committed;
  ordinary = record {
    below = h.ordinary.below;
    rising = h.ordinary.rising;
    made = made s.active h.ordinary.made same;
    new = none;
  };
}
  where
    made : (txs : List Transaction) → AllByRecursion (λ (x : Transaction). x.1 ≡ answered_of (b x.0)) txs →
        AgreeOn txs b c → AllByRecursion (λ (x : Transaction). x.1 ≡ answered_of (c x.0)) txs
    made [] m a = tt
    made (x ∷ txs) m a = (m.0 ∙ ap answered_of a.0, made txs m.1 a.1)

none_listed : (b : Bodies) (txs : List Transaction) (t : ℕ) → is_open txs t ≡ false →
    own_in (map (list_of b) txs) t ≡ []
none_listed b txs t off = of_number-none (λ (x : Listed). x.0) (λ x. x.1) [] t (map (list_of b) txs)
    (listed_is b t txs ∙ off)

module _ (p : Checker) (b : Bodies) (s : State) (h : IsAtState p b s) where
  own_here : (t : ℕ) → is_open s.active t ≡ true → own_bodies p t ≡ b t
  own_here t on = ap (λ (xs : List Listed). own_in xs t) h.active ∙ own_are b s.active t on

  own_none : (t : ℕ) → s.begun < t → own_bodies p t ≡ []
  own_none t above =
      ap (λ (xs : List Listed). own_in xs t) h.active
      ∙ none_listed b s.active t (false_from_ne_true (is_open s.active t)
      (λ on. let low = open_below s.begun t s.active h.ordinary.below on in let no : ⊥ = omega arith in no))

  all_here : AgreeOn s.active (own_bodies p) b
  all_here = AllByRecursion-map (λ (x : Transaction). is_open s.active x.0 ≡ true)
      (λ (x : Transaction). own_bodies p x.0 ≡ b x.0) (λ x on. own_here x.0 on) s.active
      (each_there (λ (x : Transaction). x.0) s.active)

  -- the audit stands where it tells itself
  pub stands_own : (n : ℕ) → HasChecked p (own_moment p n)
  stands_own n =
      subst (λ x. IsAtState p (own_bodies p) x) (sym (state_is p b s h))
      (rebodied p b (own_bodies p) s (AllByRecursion-map (λ (x : Transaction). own_bodies p x.0 ≡ b x.0)
      (λ (x : Transaction). b x.0 ≡ own_bodies p x.0) (λ x e. sym e) s.active all_here) own_none h)

  -- ---- the event that comes next

  abbrev here : ℕ → Progress
  here n = record { bodies = b; state = s; count = n }

  -- what begins is new
  begins_new : (most_runs : ℕ) (step : Step) (reply : Reply) (t : ℕ) → effect step reply ≡ Begins t →
      FormedIn most_runs s step reply →
      t ≡ s.begun + 1
  begins_new most_runs Begin (Begun u) t e f = let same : u ≡ t = cc in sym same ∙ f.0
  begins_new most_runs (Do u op) (Refused why) t e f = absurd (cc)
  begins_new most_runs (Do u op) reply t e f = absurd (cc)
  begins_new most_runs (Commit u) (Committed c) t e f = absurd (cc)
  begins_new most_runs (Abort u) Aborted t e f = absurd (cc)
  begins_new most_runs _ _ t e f = absurd (cc)

  agree_next : (e : Effect) → ((t : ℕ) → e ≡ Begins t → t ≡ s.begun + 1) → AgreeOn (next s e).active (own_bodies p) b
  agree_next (Begins t) new =
      let above : s.begun < t = let is = new t refl in omega arith in
      AllByRecursion-push (λ (x : Transaction). own_bodies p x.0 ≡ b x.0) s.active (t, []) all_here
      (own_none t above ∙ sym (h.ordinary.new t above))
  agree_next (Answers t op reply) new = all_extended (λ (x : Transaction). own_bodies p x.0 ≡ b x.0)
      (λ (x : Transaction). own_bodies p x.0 ≡ b x.0) t (op, reply) (λ x e k. k) (λ x d k. k) s.active all_here
  agree_next (Commits t) new = AllByRecursion-filter (λ (x : Transaction). own_bodies p x.0 ≡ b x.0)
      (λ x. not (x.0 == t)) s.active all_here
  agree_next (Aborts t) new = AllByRecursion-filter (λ (x : Transaction). own_bodies p x.0 ≡ b x.0)
      (λ x. not (x.0 == t)) s.active all_here
  agree_next Nothing new = all_here

  abbrev with_added : Bodies → ℕ → Effect → Bodies
  with_added c n e = λ t. c t ++ added n t e

  no_less : (e : Effect) → s.begun ≤ (next s e).begun
  no_less (Begins t) = omega arith
  no_less _ = omega arith

  pub takes_there : (most_runs n : ℕ) (step : Step) (reply : Reply) (p' : Checker) →
      TakesEvent most_runs (own_moment p n) step reply p' →
      TakesEvent most_runs (here n) step reply p'
  takes_there most_runs n step reply p' k =
      let is = state_is p b s h in
      let stands = subst (λ x. IsAtState p' (with_added (own_bodies p) n (effect step reply))
      (next x (effect step reply))) is k.stands in
      let right = subst (λ x. IsRightIn most_runs x step reply) is k.right in
      record {
        right = right;
        stands = rebodied p' (with_added (own_bodies p) n (effect step reply)) (with_added b n (effect step reply))
            (next s (effect step reply))
            (AllByRecursion-map (λ (x : Transaction). own_bodies p x.0 ≡ b x.0)
            (λ (x : Transaction). with_added (own_bodies p) n (effect step reply) x.0 ≡ with_added b n
            (effect step reply) x.0) (λ x e. ap (λ l. l ++ added n x.0 (effect step reply)) e)
            (next s (effect step reply)).active
            (agree_next (effect step reply) (λ t e. begins_new most_runs step reply t e right.said.formed)))
            (λ t above.
            let low = no_less (effect step reply) in
            let above' : s.begun < t = omega arith in
            ap (λ l. l ++ added n t (effect step reply)) (h.ordinary.new t above' ∙ sym (own_none t above')) ∙
            stands.ordinary.new t above)
            stands;
      }

  pub flaw_there : (most_runs n : ℕ) (step : Step) (reply : Reply) (event_fault : EventFault) →
      IsEventFault most_runs (own_moment p n) step reply event_fault → IsEventFault most_runs (here n) step reply
      event_fault
  flaw_there most_runs n step reply Form w = subst (λ x. IsMisformedIn most_runs x step reply) (state_is p b s h) w
  flaw_there most_runs n step reply Busy w = subst (λ x. IsWronglyBusyIn most_runs x step reply) (state_is p b s h) w
  flaw_there most_runs n step reply (Answer position) w =
      let is = state_is p b s h in
      let formed = subst (λ x. FormedIn most_runs x step reply) is w.formed in
      record {
        t = w.t;
        formed = formed;
        commit = w.commit;
        answer = subst (λ (own : List PlacedAnswer). IsFirstWrong own (fresh s.committed) position)
            (own_here w.t (commit_open most_runs s step reply w.t w.commit formed))
            (subst (λ (x : State). IsFirstWrong (own_bodies p w.t) (fresh x.committed) position) is w.answer);
      }
  flaw_there most_runs n step reply NoMemory w = tt
