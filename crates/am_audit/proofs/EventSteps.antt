-- Events that the audit takes.
use Rattle.std.proofs.Common.{◌≡◌, ℕ, ◌+◌, ◌<◌, List, [], ◌∷◌, ◌++◌, length, map, true, false, refl, sym, ap, ◌∙◌}
use Rattle.std.proofs.Common.{subst, arith}
use Rattle.std.specs.Prelude.{not, filter, ◌==◌, ◌^◌}
use Rattle.std.proofs.lemmas.List.{length-map}
use Rattle.std.proofs.lemmas.Bool.{both_ways, false_from_ne_true}
use Rattle.am_record.specs.declared.step.Refusal.{Refusal}
use Rattle.am_record.specs.declared.step.Refusal.TheVariants.{NoSuchTx}
use Rattle.am_record.specs.declared.step.Op.{Op}
use Rattle.am_record.specs.declared.step.Step.{Step}
use Rattle.am_record.specs.declared.step.Step.TheVariants.{Begin, Do, Abort}
use Rattle.am_record.specs.declared.step.Reply.{Reply}
use Rattle.am_record.specs.declared.step.Reply.TheVariants.{Begun, Aborted, Refused}
use Rattle.am_record.proofs.ByNumber.{has_number-map}
use Rattle.am_store_locks.specs.OwnerLocks.{OwnerLocks}
use Rattle.am_store_locks.specs.Table.{is_owner, entered, without_owner as released}
use Rattle.am_law_serial.specs.Trace.{Begins, Aborts, Nothing, effect}
use Rattle.am_law_serial.specs.Machine.{State, Transaction, is_open, May}
use Rattle.am_audit.specs.declared.checker.Checker.{Checker}
use Rattle.am_audit_locks.specs.HeldLocks.{owner_of}
use Rattle.am_audit_replies.specs.OwnAnswers.{Listed, listed, is_listed}
use Rattle.am_audit.specs.Progress.{list_of, Bodies, Progress, HasChecked, NextIn}
use Rattle.am_audit.specs.Progress.{IsRightOf, TakesEvent}
use Rattle.am_audit_locks.proofs.Tables.{owners_are}
use Rattle.am_audit.proofs.Progresses.{open_below, stands_still, stands_behind, no_answer, begins, aborts}

-- ---- nothing is done

pub takes_still : (most_runs : ℕ) (p : Checker) (here : Progress) (step : Step) (reply : Reply) →
    effect step reply ≡ Nothing →
    IsRightOf most_runs here.state step reply → HasChecked p here → TakesEvent most_runs here step reply p
takes_still most_runs p here step reply is right h = record {
  right = record { said = right; next = subst (NextIn here.state) (sym is) tt };
  stands = stands_still p here step reply is h;
}

-- ---- Begin

pub begin_nothing : (reply : Reply) → ((t : ℕ) → reply ≡ Begun t → ⊥) → effect Begin reply ≡ Nothing
begin_nothing (Begun t) h = absurd (h t refl)
begin_nothing _ h = refl

abbrev MayBegin : State → ℕ → Type 0
MayBegin s t = (t ≡ s.begun + 1) × (length s.active < 64) × (s.begun < 2 ^ 63)

pub may_begin_with : (most_runs : ℕ) (s : State) (reply : Reply) (t : ℕ) → reply ≡ Begun t →
    May most_runs s Begin reply → MayBegin s t
may_begin_with most_runs s reply t is f = let P : Reply → Type 0 = λ r. May most_runs s Begin r in subst P is f

module _ (p : Checker) (here : Progress) (h : HasChecked p here) (t : ℕ) (may : MayBegin here.state t) where
  abbrev s : State
  s = here.state

  pub has_room : length p.locks < 64
  has_room = let long : length p.locks ≡ length s.active = ap length h.locks ∙ length-map s.active owner_of in
      let few = may.1 in omega arith

  pub is_new : is_owner p.locks t ≡ false
  is_new =
      ap (λ (table : List OwnerLocks). is_owner table t) h.locks ∙ owners_are s.active t
      ∙ false_from_ne_true (is_open s.active t) (λ on. let low = open_below s.begun t s.active h.ordinary.below on in
      let new = may.0 in let no : ⊥ = omega arith in no)

  pub takes_begin : (most_runs : ℕ) (p' : Checker) (reply : Reply) → reply ≡ Begun t → p'.begun ≡ t →
      p'.commits ≡ p.commits →
      p'.runs ≡ p.runs → map listed p'.active.items ≡ map listed p.active.items ++ (t, []) ∷ [] →
      p'.locks ≡ entered p.locks t → p'.committed ≡ p.committed → TakesEvent most_runs here Begin reply p'
  takes_begin most_runs p' reply is b c r a l m =
      let at : TakesEvent most_runs here Begin (Begun t) p' = record {
        right = record { said = record { formed = may; busy = tt }; next = tt };
        stands = stands_behind p' here Begin (Begun t) (Begins t) refl
            (no_answer p' here _ (Begins t) (λ u. refl) (begins p p' here.bodies s h t may.0 b c r a l m));
      } in
      subst (λ x. TakesEvent most_runs here Begin x p') (sym is) at

-- ---- Abort

pub abort_nothing : (most_runs : ℕ) (s : State) (t : ℕ) (reply : Reply) → is_open s.active t ≡ false →
    May most_runs s (Abort t) reply →
    effect (Abort t) reply ≡ Nothing
abort_nothing most_runs s t Aborted off f = absurd (both_ways (is_open s.active t) off f)
abort_nothing most_runs s t _ off f = refl

pub abort_aborts : (most_runs : ℕ) (s : State) (t : ℕ) (reply : Reply) → is_open s.active t ≡ true →
    May most_runs s (Abort t) reply →
    effect (Abort t) reply ≡ Aborts t
abort_aborts most_runs s t Aborted on f = refl
abort_aborts most_runs s t (Refused NoSuchTx) on f = absurd (both_ways (is_open s.active t) f on)
abort_aborts most_runs s t _ on f = absurd f

-- whether the transaction is listed is whether it is active
pub listed_is : (bodies : Bodies) (t : ℕ) (txs : List Transaction) → is_listed (map (list_of bodies) txs) t ≡ is_open
    txs t
listed_is bodies t txs = has_number-map (λ (x : Transaction). x.0) (λ (x : Listed). x.0) (list_of bodies) (λ x. refl)
    txs t

pub is_active : (p : Checker) (here : Progress) → HasChecked p here → (t : ℕ) → is_listed (map listed p.active.items)
    t ≡
    is_open here.state.active t
is_active p here h t = ap (λ (xs : List Listed). is_listed xs t) h.active ∙ listed_is here.bodies t here.state.active

pub is_owned : (p : Checker) (here : Progress) → HasChecked p here → (t : ℕ) →
    is_owner p.locks t ≡ is_open here.state.active
    t
is_owned p here h t = ap (λ (table : List OwnerLocks). is_owner table t) h.locks ∙ owners_are here.state.active t

pub takes_abort : (most_runs : ℕ) (p p' : Checker) (here : Progress) (t : ℕ) (reply : Reply) → HasChecked p here →
    is_open here.state.active t ≡ true → May most_runs here.state (Abort t) reply → p'.begun ≡ p.begun →
    p'.commits ≡ p.commits →
    p'.runs ≡ p.runs → map listed p'.active.items ≡ filter (λ (x : Listed). not (x.0 == t))
    (map listed p.active.items) →
    p'.locks ≡ released p.locks t → p'.committed ≡ p.committed → TakesEvent most_runs here (Abort t) reply p'
takes_abort most_runs p p' here t reply h on may b c r a l m =
    let is = abort_aborts most_runs here.state t reply on may in
    record {
      right = record { said = record { formed = may; busy = tt }; next = subst (NextIn here.state) (sym is) tt };
      stands = stands_behind p' here (Abort t) reply (Aborts t) is
          (no_answer p' here _ (Aborts t) (λ u. refl) (aborts p p' here.bodies here.state h t b c r a l m));
    }

-- ---- an operation that is refused

pub refused_nothing : (t : ℕ) (op : Op) (reply : Reply) (why : Refusal) → reply ≡ Refused why →
    effect (Do t op) reply ≡ Nothing
refused_nothing t op reply why is = ap (effect (Do t op)) is
