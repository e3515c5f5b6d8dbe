-- What is right or wrong of the reply to an operation.
use Rattle.std.proofs.Common.{◌≡◌, ℕ, Bool, true, false, cond, refl, sym, ap, ◌∙◌, subst, ⊎_elim, Option, Some, None}
use Rattle.std.proofs.lemmas.Bool.{false≢true, true≢false}
use Rattle.am_record.specs.Asks.{lock_of}
use Rattle.am_record.specs.declared.step.Refusal.{Refusal}
use Rattle.am_record.specs.declared.step.Refusal.TheVariants.{NoSuchTx, Busy, TooManyLocks, TooManyOps, TooManyRuns}
use Rattle.am_record.specs.declared.step.Refusal.TheVariants.{NotRising, BadLimit, NoMemory}
use Rattle.am_record.specs.declared.step.Op.{Op}
use Rattle.am_record.specs.declared.step.Step.TheVariants.{Do}
use Rattle.am_record.specs.declared.step.Reply.{Reply}
use Rattle.am_record.specs.declared.step.Reply.TheVariants.{Refused}
use Rattle.am_record.specs.Refusals.{is_one_too_many}
use Rattle.am_law_serial.specs.Machine.{State, is_full, due_early, blocker, locks_in}
use Rattle.am_law_serial.specs.Sound.{FormedDo}
use Rattle.am_law_serial.proofs.Sound.{not_answer, same_refusal}
use Rattle.am_audit_replies.specs.Refused.{is_early}
use Rattle.am_audit_replies.specs.Refused.{early_of, busy_of}
use Rattle.am_audit.specs.Progress.{FormedIn, EarlyIn, IsRightOf, IsMisformedIn, IsWronglyBusyIn}

early_of_due : (a b c d e : Bool) (why : Refusal) →
    cond a (Some NoSuchTx) (cond b (Some TooManyOps)
    (cond c (Some NotRising) (cond d (Some BadLimit) (cond e (Some TooManyRuns) None)))) ≡ Some why →
    is_early why ≡ true
early_of_due true b c d e why h = let same : NoSuchTx ≡ why = cc in ap is_early (sym same)
early_of_due false true c d e why h = let same : TooManyOps ≡ why = cc in ap is_early (sym same)
early_of_due false false true d e why h = let same : NotRising ≡ why = cc in ap is_early (sym same)
early_of_due false false false true e why h = let same : BadLimit ≡ why = cc in ap is_early (sym same)
early_of_due false false false false true why h = let same : TooManyRuns ≡ why = cc in ap is_early (sym same)
early_of_due false false false false false why h = absurd (cc)

-- a refusal that is due early is an early one
due_is_early : (all_made : Bool) (s : State) (t : ℕ) (op : Op) (why : Refusal) → due_early all_made s t op ≡ Some why →
    is_early why ≡ true
due_is_early all_made s t op why h = early_of_due _ _ _ _ _ why h

same_number : (h k : ℕ) → Refused (Busy h) ≡ Refused (Busy k) → h ≡ k
same_number h k e = let same : Busy h ≡ Busy k = cc in cc

clash : (w v : Refusal) → is_early w ≡ true → is_early v ≡ false → Refused w ≡ Refused v → ⊥
clash w v e f h = true≢false (sym e ∙ ap is_early (same_refusal w v h) ∙ f)

-- where none is due early, none is formed
none_early : (b : Bool) (op : Op) (w : Refusal) → is_early w ≡ true → FormedDo None b op (Refused w) → ⊥
none_early true op w e f = ⊎_elim (λ busy. clash w (Busy busy.0) e refl busy.1) (λ r. clash w TooManyLocks e refl r) f
none_early false op w e f = ⊎_elim (λ busy. clash w (Busy busy.0) e refl busy.1)
    (λ r. ⊎_elim (λ m. clash w NoMemory e refl m) (not_answer op w) r) f

early_refusal : (r : Reply) → early_of r ≡ true → (w : Refusal) × (r ≡ Refused w) × (is_early w ≡ true)
early_refusal (Refused w) h = (w, refl, h)
early_refusal _ h = absurd (false≢true h)

busy_refusal : (r : Reply) → busy_of r ≡ true → (h : ℕ) × (r ≡ Refused (Busy h))
busy_refusal (Refused (Busy h)) e = (h, refl)
busy_refusal (Refused why) e = absurd (false≢true e)
busy_refusal _ e = absurd (false≢true e)

not_busy : (r : Reply) → busy_of r ≡ false → (h : ℕ) → r ≡ Refused (Busy h) → ⊥
not_busy r e h is = true≢false (sym (ap busy_of is) ∙ e)

module _ (most_runs : ℕ) (s : State) (t : ℕ) (op : Op) (reply : Reply) where
  -- whether no further run may be made
  abbrev all_made : Bool
  all_made = is_full most_runs s.runs reply

  abbrev full : Bool
  full = is_one_too_many (locks_in s.active t) (lock_of op)

  abbrev blocked : Option ℕ
  blocked = blocker s.active t (lock_of op)

  -- ---- a refusal is due early

  pub early_right : (why : Refusal) → due_early all_made s t op ≡ Some why → reply ≡ Refused why →
      IsRightOf most_runs s (Do t op) reply
  early_right why due is = record {
    formed = subst (λ o. FormedDo o full op reply) (sym due) is;
    busy = λ h. (
      λ e. absurd (clash why (Busy h) (due_is_early all_made s t op why due) refl (sym is ∙ e)),
      λ b. absurd (let no : Some why ≡ None = sym due ∙ b.0 in cc),
    );
  }

  pub early_wrong : (why : Refusal) → due_early all_made s t op ≡ Some why → (reply ≡ Refused why → ⊥) →
      IsMisformedIn most_runs s (Do t op) reply
  early_wrong why due not_it = record {
    form = λ f. let P : Option Refusal → Type 0 = λ o. FormedDo o full op reply in not_it (subst P due f);
    first = λ early. absurd (not_it ((early why (due_is_early all_made s t op why due)).1 due));
  }

  -- ---- none is

  module _ (none : due_early all_made s t op ≡ None) where
    abbrev Formed : Type 0
    Formed = FormedDo None full op reply

    to_formed : Formed → FormedIn most_runs s (Do t op) reply
    to_formed f = subst (λ o. FormedDo o full op reply) (sym none) f

    from_formed : FormedIn most_runs s (Do t op) reply → Formed
    from_formed f = let P : Option Refusal → Type 0 = λ o. FormedDo o full op reply in subst P none f

    pub early_unasked : early_of reply ≡ true → IsMisformedIn most_runs s (Do t op) reply
    early_unasked h =
        let r = early_refusal reply h in
        record {
          form = λ f. none_early full op r.0 r.2 (subst (λ x. FormedDo None full op x) r.1 (from_formed f));
          first = λ early. absurd (let no : None ≡ Some r.0 = sym none ∙ (early r.0 r.2).0 r.1 in cc);
        }

    module _ (not_early : early_of reply ≡ false) where
      early_in : EarlyIn most_runs s (Do t op) reply
      early_in why e = (
        λ is. absurd (true≢false (sym e ∙ sym (ap early_of is) ∙ not_early)),
        λ due. absurd (let no : None ≡ Some why = sym none ∙ due in cc),
      )

      -- ---- another holds a conflicting lock

      pub blocked_wrong : (h : ℕ) → blocked ≡ Some h → (reply ≡ Refused (Busy h) → ⊥) →
          IsWronglyBusyIn most_runs s (Do t op) reply
      blocked_wrong h b not_it = record { busy = λ right. not_it ((right h).1 (none, b)); first = early_in }

      -- ---- nobody does

      module _ (free : blocked ≡ None) where
        pub busy_unasked : busy_of reply ≡ true → IsWronglyBusyIn most_runs s (Do t op) reply
        busy_unasked e =
            let r = busy_refusal reply e in
            record {
              busy = λ right. let no : None ≡ Some r.0 = sym free ∙ ((right r.0).0 r.1).1 in cc;
              first = early_in;
            }
