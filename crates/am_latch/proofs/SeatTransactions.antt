-- The seats' transactions after a call.
use Rattle.std.proofs.Common.{◌≡◌, ◌≢◌, ℕ, ◌+◌, ◌==◌, List, [], ◌∷◌, ◌++◌, length, Bool, true, false}
use Rattle.std.proofs.Common.{◌||◌, Option, Some, None, refl, sym, ap, ◌∙◌, subst, eq-eqb, zero-add}
use Rattle.std.proofs.lemmas.Bool.{eqb-true, eqb-false, both_ways, or_left, or_right}
use Rattle.std.proofs.lemmas.List.Folds.{list_any-append}
use Rattle.am_record.specs.ByNumber.{without_number}
use Rattle.am_record.specs.Sessions.{IsAllowed}
use Rattle.am_record.specs.declared.step.Step.{Step}
use Rattle.am_record.specs.declared.step.Step.TheVariants.{Begin, Do, Commit, Abort, Merge, Clean}
use Rattle.am_record.specs.declared.step.Reply.{Reply}
use Rattle.am_latch_engine.specs.declared.change.Change.{Change}
use Rattle.am_latch_engine.specs.declared.change.Change.TheVariants.{Begins, Ends, Nothing}
use Rattle.am_latch_engine.specs.Changes.{change, end_of, numbers_with, active_in_trace, has, open_after, MayFollow}
use Rattle.am_latch_ties.specs.declared.receipt.Receipt.{Receipt}
use Rattle.am_latch_ties.specs.declared.call_id.CallId.{CallId}
use Rattle.am_latch_ties.specs.CallLogs.{CallLog, log_with}
use Rattle.am_latch_ties.specs.Receipts.{receipt, receipts_of}
use Rattle.am_latch.specs.Ties.{open_from, open_of, AreTied, open_in, IsTied}
use Rattle.am_latch_ties.proofs.Places.{mine_more, others_same}
use Rattle.am_record.proofs.ByNumber.{has_number-without_number, has_number-without_other}
use Rattle.am_latch_engine.proofs.Replies.{begins_begin, ends_end, did_nothing}
use Rattle.am_latch_engine.proofs.StoreAnswers.{active_from-snoc}

or_cases : {P : Type 0} (a b : Bool) → (a || b) ≡ true → (a ≡ true → P) → (b ≡ true → P) → P
or_cases true b e l r = l refl
or_cases false b e l r = r e

-- membership after a push
has_push : (u t : ℕ) (ts : List ℕ) → has u (ts ++ t ∷ []) ≡ (has u ts || has u (t ∷ []))
has_push u t ts = list_any-append (λ (v : ℕ). v == u) ts (t ∷ [])

has_old : (u t : ℕ) (ts : List ℕ) → has u ts ≡ true → has u (ts ++ t ∷ []) ≡ true
has_old u t ts h = has_push u t ts ∙ or_left (has u ts) (has u (t ∷ [])) h

has_new : (u t : ℕ) (ts : List ℕ) → t ≡ u → has u (ts ++ t ∷ []) ≡ true
has_new u t ts e = has_push u t ts ∙ or_right (has u ts) (has u (t ∷ [])) (rw (eq-eqb t u e) refl)

one_is : (u t : ℕ) → has u (t ∷ []) ≡ true → t ≡ u
one_is u t h = or_cases (t == u) false h (λ e. eqb-true t u e) (λ e. absurd (cc))

was_there : (u t : ℕ) (ts : List ℕ) → has u (without_number (λ v. v) t ts) ≡ true → (has u ts ≡ true) × (u ≢ t)
was_there u t ts h =
    let left = without_number (λ v. v) t ts in
    let apart : u ≢ t = λ e. both_ways (has t left) (has_number-without_number (λ v. v) t ts)
    (ap (λ v. has v left) (sym e) ∙ h) in
    (sym (has_number-without_other (λ v. v) t ts u apart) ∙ h, apart)

by_cases : {P : Type 0} (b : Bool) (k s : ℕ) → (k == s) ≡ b → (k ≡ s → P) → (k ≢ s → P) → P
by_cases true k s is here there = here (eqb-true k s is)
by_cases false k s is here there = there (eqb-false k s is)

same_or : {P : Type 0} (k s : ℕ) → (k ≡ s → P) → (k ≢ s → P) → P
same_or k s here there = by_cases (k == s) k s refl here there

tied_begin : (o p : ℕ → Option ℕ) (ts : List ℕ) (s t : ℕ) → AreTied o ts → p s ≡ Some t →
    ((k : ℕ) → k ≢ s → p k ≡ o k) → o s ≡ None → has t ts ≡ false → AreTied p (ts ++ t ∷ [])
tied_begin o p ts s t h receipts others before empty_log = record {
  active = λ k u e. same_or k s
      (λ x. let at_s : p k ≡ p s = ap p x in let it : t ≡ u = cc in has_new u t ts it)
      (λ x. has_old u t ts (h.active k u (sym (others k x) ∙ e)));
  apart = λ k l u e f. same_or k s
      (λ x. same_or l s (λ y. x ∙ sym y) (λ y. let here : p k ≡ p s = ap p x in let it : t ≡ u = cc in
      let old = h.active l t (sym (others l y) ∙ f ∙ ap (λ (n : ℕ). Some n) (sym it)) in absurd (cc)))
      (λ x. same_or l s (λ y. let at_s : p l ≡ p s = ap p y in let it : t ≡ u = cc in
      let old = h.active k t (sym (others k x) ∙ e ∙ ap (λ (n : ℕ). Some n) (sym it)) in absurd (cc))
      (λ y. h.apart k l u (sym (others k x) ∙ e) (sym (others l y) ∙ f)));
  owned = λ u e. or_cases (has u ts) (has u (t ∷ [])) (sym (has_push u t ts) ∙ e)
      (λ x. let w = h.owned u x in (
        w.0,
        others w.0 (λ y. let at_s : o w.0 ≡ o s = ap o y in let it = w.1 in
            absurd (cc)) ∙ w.1,
      ))
      (λ x. (s, receipts ∙ ap (λ (n : ℕ). Some n) (one_is u t x)));
}

tied_end : (o p : ℕ → Option ℕ) (ts : List ℕ) (s t : ℕ) → AreTied o ts → p s ≡ None → ((k : ℕ) → k ≢ s → p k ≡ o k) →
    o s ≡ Some t → AreTied p (without_number (λ v. v) t ts)
tied_end o p ts s t h receipts others before = record {
  active = λ k u e. same_or k s
      (λ x. let at_s : p k ≡ p s = ap p x in absurd (cc))
      (λ x. has_number-without_other (λ v. v) t ts u
      (λ y. x (h.apart k s u (sym (others k x) ∙ e) (before ∙ ap (λ (n : ℕ). Some n) (sym y))))
      ∙ h.active k u (sym (others k x) ∙ e));
  apart = λ k l u e f. same_or k s
      (λ x. let at_s : p k ≡ p s = ap p x in absurd (cc))
      (λ x. same_or l s (λ y. let at_s : p l ≡ p s = ap p y in absurd (cc))
      (λ y. h.apart k l u (sym (others k x) ∙ e) (sym (others l y) ∙ f)));
  owned = λ u e. let i = was_there u t ts e in
      let w = h.owned u i.0 in
      let far : w.0 ≢ s = λ y. let at_s : o w.0 ≡ o s = ap o y in let it = w.1 in let same : u ≡ t = cc in i.1 same in
      (w.0, others w.0 far ∙ w.1);
}

tied_same : (o p : ℕ → Option ℕ) (ts : List ℕ) → AreTied o ts → ((k : ℕ) → p k ≡ o k) → AreTied p ts
tied_same o p ts h same = record {
  active = λ k u e. h.active k u (sym (same k) ∙ e);
  apart = λ k l u e f. h.apart k l u (sym (same k) ∙ e) (sym (same l) ∙ f);
  owned = λ u e. let w = h.owned u e in (w.0, same w.0 ∙ w.1);
}

tied_by : (o p : ℕ → Option ℕ) (ts : List ℕ) (s : ℕ) (e : Change) → AreTied o ts → p s ≡ open_after (o s) e →
    ((k : ℕ) → k ≢ s → p k ≡ o k) → ((t : ℕ) → e ≡ Begins t → (o s ≡ None) × (has t ts ≡ false)) →
    ((t : ℕ) → e ≡ Ends t → o s ≡ Some t) → AreTied p (numbers_with ts e)
tied_by o p ts s (Begins t) h receipts others begin end = let b = begin t refl in
    tied_begin o p ts s t h receipts others b.0 b.1
tied_by o p ts s (Ends t) h receipts others begin end = tied_end o p ts s t h receipts others (end t refl)
tied_by o p ts s Nothing h receipts others begin end =
    tied_same o p ts h (λ k. same_or k s (λ x. ap p x ∙ receipts ∙ ap o (sym x)) (others k))

-- a seat begins where nothing is open in it, and ends what is
begins_free : (o : Option ℕ) (st : Step) (r : Reply) (t : ℕ) → IsAllowed o st → change st r ≡ Begins t → o ≡ None
begins_free o Begin r t may e = may
begins_free o (Do u op) r t may e = let none = did_nothing u op r in absurd (cc)
begins_free o (Commit u) r t may e = let b = begins_begin (Commit u) r t e in let x = b.0 in absurd (cc)
begins_free o (Abort u) r t may e = let b = begins_begin (Abort u) r t e in let x = b.0 in absurd (cc)
begins_free o (Merge n) r t may e = absurd (cc)
begins_free o (Clean range n) r t may e = absurd (cc)

pub end_is_open : (o : Option ℕ) (st : Step) (t : ℕ) → IsAllowed o st → end_of st ≡ Some t → o ≡ Some t
end_is_open o (Commit u) t may e = may ∙ e
end_is_open o (Abort u) t may e = may ∙ e
end_is_open o step t may e = absurd (cc)

pub open_from-snoc : (o : Option ℕ) (rs : List Receipt) (x : Receipt) → open_from o (rs ++ x ∷ []) ≡ open_after
    (open_from o rs) (change x.step x.reply)
open_from-snoc o [] x = refl
open_from-snoc o (r ∷ rs) x = open_from-snoc (open_after o (change r.step r.reply)) rs x

-- the seats' transactions are still the active ones
pub tied_more : (e : CallLog) (m : CallId) (st : Step) (r : Reply) → length e.calls ≡ length e.trace → IsTied e →
    IsAllowed (open_in e m.seat) st → MayFollow (active_in_trace e.trace) st r → IsTied (log_with e m st r)
tied_more e m st r even h may a =
    let receipts = ap open_of (mine_more m.seat 0 0 (length e.trace) e.trace e.calls st r m even refl
    (sym (zero-add (length e.trace)))) ∙ open_from-snoc None (receipts_of m.seat e)
    (receipt m.seat (0 + length (receipts_of m.seat e)) st r (length e.trace)) in
    subst (AreTied (open_in (log_with e m st r))) (sym (active_from-snoc [] e.trace (st, r)))
    (tied_by (open_in e) (open_in (log_with e m st r)) (active_in_trace e.trace) m.seat (change st r) h receipts
    (λ k far. ap open_of (others_same k 0 0 e.trace e.calls st r m even (λ x. far (sym x))))
    (λ t x. (begins_free (open_in e m.seat) st r t may x, a.begins t x))
    (λ t x. end_is_open (open_in e m.seat) st t may (ends_end r st t x)))

-- what a seat ends is active
pub ends_active : (e : CallLog) (k : ℕ) (st : Step) (r : Reply) → IsTied e → IsAllowed (open_in e k) st →
    MayFollow (active_in_trace e.trace) st r → (t : ℕ) → end_of st ≡ Some t → change st r ≡ Ends t
ends_active e k st r h may a t x = a.ended t x (h.active k t (end_is_open (open_in e k) st t may x))
