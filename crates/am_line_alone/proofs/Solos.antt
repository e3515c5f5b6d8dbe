-- A store with one session: its transaction stays open until it is ended.
use Rattle.std.proofs.Common.{◌≡◌, ◌⊎◌, inl, inr, ℕ, List, [], ◌∷◌, ◌++◌, Bool, true, false, Option}
use Rattle.std.proofs.Common.{Some, None, refl, sym, ap, ◌∙◌, subst}
use Rattle.std.specs.Prelude.{MatchOption, MatchBool, if◌then◌else◌}
use Rattle.std.specs.FinMap.{get, contains_key}
use Rattle.std.proofs.lemmas.Bool.{true≢false}
use Rattle.am_record.specs.Sessions.{IsAllowed, active_after}
use Rattle.am_record.specs.OrderedKey.{OrderedKey}
use Rattle.am_record.specs.Interval.{Interval}
use Rattle.am_record.specs.Plain.{PlainMap, found, exists_or_done, least_taken}
use Rattle.am_record.specs.declared.entry.Entry.{Entry}
use Rattle.am_record.specs.declared.step.Op.{Op}
use Rattle.am_record.specs.declared.step.Op.TheVariants as op
use Rattle.am_record.specs.declared.step.Step.{Step}
use Rattle.am_record.specs.declared.step.Step.TheVariants as step
use Rattle.am_record.specs.declared.step.Reply.{Reply}
use Rattle.am_record.specs.declared.step.Reply.TheVariants as reply
use Rattle.am_record.specs.declared.step.Refusal.{Refusal}
use Rattle.am_record.specs.declared.step.Refusal.TheVariants as why
use Rattle.am_index.specs.Content.{content}
use Rattle.am_store_undo.specs.declared.note.Note.{Note}
use Rattle.am_record.specs.Marks.{has_mark}
use Rattle.am_law_sound.specs.Represents.{stored_answer}
use Rattle.am_law_effect.specs.MergeAnswers.{Holders, candidates, AnswersFirst, AnswersCandidates, MergeRight}
use Rattle.am_law_effect.specs.Store.{WithinLimit}
use Rattle.am_record.specs.Refusals.{is_limit}
use Rattle.am_law_sound.specs.StoreState.{Active, StoreState, is_in, in_table, newcomer, refusal_in, takes_memory}
use Rattle.am_law_sound.specs.StoreState.{MayAnswer, with_op, state_after_op, state_after}
use Rattle.am_record.specs.ByNumber.{with_changed}
use Rattle.am_record.proofs.ByNumber.{has_number-push_own, has_number-with_changed}
use Rattle.am_line_dialogue.specs.Session.{SessionState, session_after}
use Rattle.am_line_dialogue.specs.Actions.{EndsAbort}
use Rattle.am_line_dialogue.specs.Alone.{commits_after}
use Rattle.am_line_alone.specs.Solo.{IsOpen}

-- ---- replies that begin and end nothing

abbrev Plain : Reply → Type 0
Plain r = (s : SessionState) → session_after s r ≡ s

-- the same transaction is active
active_on : (r : Reply) → Plain r → (a : Option ℕ) → active_after a r ≡ a
active_on r plain a = ap (λ (s : SessionState). s.active) (plain (record { active = a; staged = [] }))

found_plain : (v : Option (List ℕ)) → Plain (found v)
found_plain None = λ s. refl
found_plain (Some v) = λ s. refl

either_plain : (b : Bool) (r s : Reply) → Plain r → Plain s → Plain (if b then r else s)
either_plain true r s h k = h
either_plain false r s h k = k

load_plain : (o : Option OrderedKey) → Plain (exists_or_done o)
load_plain None = λ s. refl
load_plain (Some k) = λ s. refl

told_plain : (o : Op) (marks : List ℕ) (m : PlainMap) → Plain (stored_answer o marks m)
told_plain (op.Get k) marks m = found_plain (get m k)
told_plain (op.Insert k v) marks m = either_plain (contains_key m k) _ _ (λ s. refl) (λ s. refl)
told_plain (op.Replace k v) marks m = either_plain (contains_key m k) _ _ (λ s. refl) (λ s. refl)
told_plain (op.Delete k) marks m = either_plain (contains_key m k) _ _ (λ s. refl) (λ s. refl)
told_plain (op.Load records) marks m = load_plain (least_taken records m)
told_plain op.Back marks m = either_plain (has_mark marks) reply.Done reply.NoMark (λ s. refl) (λ s. refl)
told_plain o marks m = λ s. refl

do_plain : (p : StoreState) (t : ℕ) (o : Op) (r : Reply) → MayAnswer p (step.Do t o) r → Plain r
do_plain p t o r = by_due (refusal_in p t o)
  where
    by_due : (due : Option Refusal) → MatchOption due
        ((r ≡ stored_answer o (in_table p.active t).marks (content p.entries)) ⊎
        ((r ≡ reply.Refused why.NoMemory) × (takes_memory o ≡ true))) (λ why. r ≡ reply.Refused why) → Plain r
    by_due None (inl is) = subst Plain (sym is) (told_plain o (in_table p.active t).marks (content p.entries))
    by_due None (inr is) = subst Plain (sym is.0) (λ s. refl)
    by_due (Some w) is = subst Plain (sym is) (λ s. refl)

first_plain : (es : List Entry) (held : Holders) (limit : ℕ) (c : Entry) (cs : List Entry) (o : Option ℕ) (r : Reply) →
    AnswersFirst es held limit c cs o r → Plain r
first_plain es held limit c cs (Some h) r is = subst Plain (sym is) (λ s. refl)
first_plain es held limit c cs None (reply.Moved n run) is = λ s. refl
first_plain es held limit c cs None r is = subst Plain (sym is.0) (λ s. refl)

candidates_plain : (es : List Entry) (held : Holders) (limit : ℕ) (cs : List Entry) (r : Reply) →
    AnswersCandidates es held limit cs r → Plain r
candidates_plain es held limit [] r is = subst Plain (sym is) (λ s. refl)
candidates_plain es held limit (c ∷ cs) r is = first_plain es held limit c (c ∷ cs) (held c.key) r is

merge_right_plain : (es : List Entry) (wishes : List Interval) (held : Holders) (limit : ℕ) (r : Reply) →
    MergeRight es wishes held limit r → Plain r
merge_right_plain es [] held limit r is = subst Plain (sym is) (λ s. refl)
merge_right_plain es (wish ∷ wishes) held limit r is = candidates_plain es held limit (candidates es wish) r is

limit_plain : (limit : ℕ) (r : Reply) (right : Type 0) → (right → Plain r) → WithinLimit limit r right → Plain r
limit_plain limit r right plain = by_limit (is_limit limit)
  where
    by_limit : (b : Bool) → MatchBool b right (r ≡ reply.Refused why.BadLimit) → Plain r
    by_limit true is = plain is
    by_limit false is = subst Plain (sym is) (λ s. refl)

merge_plain : (p : StoreState) (limit : ℕ) (r : Reply) → MayAnswer p (step.Merge limit) r → Plain r
merge_plain p limit r h = limit_plain limit r _ (merge_right_plain p.entries p.wishes _ limit r) h

clean_plain : (p : StoreState) (range : Interval) (limit : ℕ) (r : Reply) → MayAnswer p (step.Clean range limit) r →
    Plain r
clean_plain p range limit r h = limit_plain limit r _ (λ is. subst Plain (sym is) (λ s. refl)) h

-- ---- who is active after a step

did_in : (t : ℕ) (o : Op) (r : Reply) (new : List Note) (xs : List Active) (u : ℕ) →
    is_in (with_changed (λ (x : Active). x.number) (with_op o r new) t xs) u ≡ is_in xs u
did_in t o r new = has_number-with_changed (λ (x : Active). x.number) (with_op o r new) t (λ x. refl)

do_in : (p : StoreState) (t : ℕ) (o : Op) (r : Reply) (u : ℕ) → is_in (state_after_op p t o r).active u ≡ is_in p.active
    u
do_in p t o (reply.Refused w) u = refl
do_in p t o r u = did_in t o r _ p.active u

do_commits : (p : StoreState) (t : ℕ) (o : Op) (r : Reply) → (state_after_op p t o r).commits ≡ p.commits
do_commits p t o (reply.Refused w) = refl
do_commits p t o r = refl

open_do : (p : StoreState) (t : ℕ) (o : Op) (r : Reply) (a : Option ℕ) → IsOpen p a → IsOpen (state_after_op p t o r) a
open_do p t o r None h = h
open_do p t o r (Some u) h = do_in p t o r u ∙ h

begun_in : (xs : List Active) (t : ℕ) → is_in (xs ++ newcomer t ∷ []) t ≡ true
begun_in xs t = has_number-push_own (λ (x : Active). x.number) xs (newcomer t)

upkept : (p q : StoreState) (a : Option ℕ) → q.active ≡ p.active → IsOpen p a → IsOpen q a
upkept p q None e h = h
upkept p q (Some t) e h = ap (λ xs. is_in xs t) e ∙ h

-- the session's transaction stays open
pub stays_open : (p : StoreState) (a : Option ℕ) (s : Step) (r : Reply) → IsAllowed a s → IsOpen p a → MayAnswer p s r →
    IsOpen (state_after p s r) (active_after a r)
stays_open p a step.Begin (reply.Begun t) allowed h says = begun_in p.active t
stays_open p a step.Begin (reply.Refused why.TooManyTx) allowed h says = h
stays_open p a (step.Do t o) r allowed h says = subst (IsOpen (state_after_op p t o r))
    (sym (active_on r (do_plain p t o r says) a)) (open_do p t o r a h)
stays_open p a (step.Commit t) (reply.Committed c) allowed h says = tt
stays_open p a (step.Commit t) (reply.Refused why.NoSuchTx) allowed h says = h
stays_open p a (step.Abort t) reply.Aborted allowed h says = tt
stays_open p a (step.Abort t) (reply.Refused why.NoSuchTx) allowed h says = h
stays_open p a (step.Merge limit) r allowed h says = subst (IsOpen (state_after p (step.Merge limit) r))
    (sym (active_on r (merge_plain p limit r says) a)) (upkept p (state_after p (step.Merge limit) r) a refl h)
stays_open p a (step.Clean range limit) r allowed h says = subst (IsOpen (state_after p (step.Clean range limit) r))
    (sym (active_on r (clean_plain p range limit r says) a))
    (upkept p (state_after p (step.Clean range limit) r) a refl h)
stays_open p a _ _ allowed h says = absurd says

-- an abort of it isn't refused
pub abort_ends : (p : StoreState) (a : Option ℕ) (s : Step) (r : Reply) → IsAllowed a s → IsOpen p a → MayAnswer p s r →
    EndsAbort s r
abort_ends p a step.Begin r allowed h says = tt
abort_ends p a (step.Abort t) reply.Aborted allowed h says = refl
abort_ends p a (step.Abort t) (reply.Refused why.NoSuchTx) allowed h says =
    absurd (true≢false (sym (subst (IsOpen p) allowed h) ∙ says))
abort_ends p a (step.Abort t) _ allowed h says = absurd says
abort_ends p a st r allowed h says = tt

-- the commits are counted
pub commits_are : (p : StoreState) (s : Step) (r : Reply) → MayAnswer p s r →
    (state_after p s r).commits ≡ commits_after p.commits s r
commits_are p step.Begin (reply.Begun t) says = refl
commits_are p step.Begin (reply.Refused why.TooManyTx) says = refl
commits_are p (step.Do t o) r says = do_commits p t o r
commits_are p (step.Commit t) (reply.Committed c) says = refl
commits_are p (step.Commit t) (reply.Refused why.NoSuchTx) says = refl
commits_are p (step.Abort t) reply.Aborted says = refl
commits_are p (step.Abort t) (reply.Refused why.NoSuchTx) says = refl
commits_are p (step.Merge limit) r says = refl
commits_are p (step.Clean range limit) r says = refl
commits_are p _ _ says = absurd says
