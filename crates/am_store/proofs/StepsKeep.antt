-- What each step keeps of the store: where it stands, and its numbers.
use Rattle.std.proofs.Common.{◌≡◌, ◌≤◌, ◌+◌, ◌^◌, ◌++◌, ◌⊎◌, ℕ, List, [], ◌∷◌, length, take, take_while, Bool}
use Rattle.std.proofs.Common.{true, false, cond, ◌==◌, Option, Some, None, refl, sym, subst, ⊎_elim}
use Rattle.std.proofs.Common.{arith, length-append}
use Rattle.std.specs.Prelude.{MatchOption, MatchBool, is_none, nat_le, reverse, ◌&&◌}
use Rattle.std.proofs.lemmas.Bool.{false≢true, and_parts, leb-true}
use Rattle.std.specs.List.{prefix_len}
use Rattle.std.proofs.lemmas.List.{length-take, length-map}
use Rattle.am_record.specs.Interval.{Interval, within}
use Rattle.am_record.specs.Plain.{PlainMap, Records, rows_where}
use Rattle.am_record.specs.declared.entry.Entry.{Entry}
use Rattle.am_record.specs.declared.step.Refusal.{Refusal}
use Rattle.am_record.specs.declared.step.Refusal.TheVariants.{NoMemory, BadLimit}
use Rattle.am_record.specs.declared.step.Op.{Op}
use Rattle.am_record.specs.declared.step.Op.TheVariants.{Scan, ScanBack, DeleteRange}
use Rattle.am_record.specs.declared.step.Step.{Step}
use Rattle.am_record.specs.declared.step.Step.TheVariants.{Begin, Do, Commit, Abort, Merge, Clean}
use Rattle.am_record.specs.declared.step.Reply.{Reply}
use Rattle.am_record.specs.declared.step.Reply.TheVariants.{Begun, Committed, Aborted, Moved, Refused}
use Rattle.am_index.specs.Content.{content}
use Rattle.am_record.specs.Refusals.{is_limit}
use Rattle.am_law_serial.specs.Trace.{Trace}
use Rattle.am_law_effect.specs.MergeAnswers.{all_worked_off, candidates, MergeRight, AnswersFirst, AnswersCandidates}
use Rattle.am_law_effect.specs.MergeAnswers.{CleanRight}
use Rattle.am_law_sound.specs.Represents.{stored_answer}
use Rattle.am_law_sound.specs.StoreState.{StoreState, Active, MayAnswer, state_after, state_after_op, refusal_in}
use Rattle.am_law_sound.specs.StoreState.{in_table}
use Rattle.am_law_sound.specs.StoreState.{newcomer, with_op, takes_memory, holder_in}
use Rattle.am_law_sound.specs.StateOf.{IsStateOf}
use Rattle.am_store.specs.StoreContent.{IsReached, state_kept, active_with}
use Rattle.am_store_locks.specs.Table.{locks_owned}
use Rattle.am_index_parts.specs.Partitions.{Partitions}
use Rattle.am_store_tx.specs.declared.transaction.Transaction.{Transaction}
use Rattle.am_store_tx.specs.Active.{is_active_in}
use Rattle.am_store_tx.specs.Txs.{Txs}
use Rattle.am_store.specs.StoreSteps.{IsWithin}
use Rattle.am_law_effect.specs.Operations.{noted}
use Rattle.am_record.proofs.ByNumber.{length-without_number, length-without_one}
use Rattle.am_store.proofs.Merges.{none_merged}

-- ---- want of memory

pub unwanted_begin : (p : StoreState) (reply : Reply) → MayAnswer p Begin reply → reply ≡ Refused NoMemory → ⊥
unwanted_begin p reply says e = subst (λ (r : Reply). MayAnswer p Begin r) e says

pub unwanted_commit : (p : StoreState) (t : ℕ) (reply : Reply) → MayAnswer p (Commit t) reply →
    reply ≡ Refused NoMemory → ⊥
unwanted_commit p t reply says e = subst (λ (r : Reply). MayAnswer p (Commit t) r) e says

pub unwanted_abort : (p : StoreState) (t : ℕ) (reply : Reply) → MayAnswer p (Abort t) reply → reply ≡ Refused NoMemory →
    ⊥
unwanted_abort p t reply says e = subst (λ (r : Reply). MayAnswer p (Abort t) r) e says

pub unwanted_clean : (p : StoreState) (range : Interval) (limit : ℕ) (reply : Reply) →
    MayAnswer p (Clean range limit) reply → reply ≡ Refused NoMemory → ⊥
unwanted_clean p range limit reply says e = by_limit (is_limit limit)
    (subst (λ (r : Reply). MayAnswer p (Clean range limit) r) e says)
  where
    by_limit : (b : Bool) → MatchBool b (CleanRight p.entries (holder_in p.active) range limit (Refused NoMemory))
        (◌≡◌ {A = Reply} (Refused NoMemory) (Refused BadLimit)) → ⊥
    by_limit true h = cc
    by_limit false h = cc

-- ---- a refused step

pub refused_stays : (p : StoreState) (step : Step) (why : Refusal) → state_after p step (Refused why) ≡ p
refused_stays p (Merge limit) why = λ i. record p {
  entries = all_worked_off (none_merged p.entries p.wishes why i)
      p.entries;
}
refused_stays p step why = refl

-- ---- the greatest number of runs

most_did : (p : StoreState) (t : ℕ) (op : Op) (reply : Reply) → (state_after_op p t op reply).most_runs ≡ p.most_runs
most_did p t op (Refused why) = refl
most_did p t op reply = refl

pub most_kept : (p : StoreState) (step : Step) (reply : Reply) → (state_after p step reply).most_runs ≡ p.most_runs
most_kept p Begin (Begun t) = refl
most_kept p (Do t op) reply = most_did p t op reply
most_kept p (Commit t) (Committed c) = refl
most_kept p (Abort t) Aborted = refl
most_kept p (Merge limit) reply = refl
most_kept p (Clean range limit) reply = refl
most_kept p step reply = refl

-- ---- numbers

-- commits and active transactions are no more than were begun
pub record IsCounted (p : StoreState) : Type 0 where
  pub counted : p.commits + length p.active ≤ p.begun
  pub few_begun : p.begun ≤ 2 ^ 63
  pub few_runs : p.most_runs ≤ 4294967294

pub counts : (p : StoreState) (step : Step) (reply : Reply) → IsCounted p → MayAnswer p step reply →
    IsCounted (state_after p step reply)
counts p Begin (Begun t) c says = record {
  counted = omega (arith, c.counted, length-append p.active (newcomer t ∷ []));
  few_begun = omega (arith, says.2);
  few_runs = c.few_runs;
}
counts p Begin (Refused why) c says = c
counts p Begin reply c says = absurd says
counts p (Do t op) (Refused why) c says = c
counts p (Do t op) reply c says = record {
  counted = omega (
    arith,
    c.counted,
    length-map p.active (λ (x : Active). cond (x.number == t) (with_op op reply (noted p.runs op reply p.entries) x) x),
  );
  few_begun = c.few_begun;
  few_runs = c.few_runs;
}
counts p (Commit t) (Committed n) c says = record {
  counted = omega (arith, c.counted, length-without_one (λ (x : Active). x.number) t p.active says.0);
  few_begun = c.few_begun;
  few_runs = c.few_runs;
}
counts p (Commit t) (Refused why) c says = c
counts p (Commit t) reply c says = absurd says
counts p (Abort t) Aborted c says = record {
  counted = omega (arith, c.counted, length-without_number (λ (x : Active). x.number) t p.active);
  few_begun = c.few_begun;
  few_runs = c.few_runs;
}
counts p (Abort t) (Refused why) c says = c
counts p (Abort t) reply c says = absurd says
counts p (Merge limit) reply c says = record {
  counted = c.counted;
  few_begun = c.few_begun;
  few_runs = c.few_runs;
}
counts p (Clean range limit) reply c says = record {
  counted = c.counted;
  few_begun = c.few_begun;
  few_runs = c.few_runs;
}

-- ---- the store's invariant

pub reaches : (p p' : StoreState) (step : Step) (reply : Reply) →
    ((trace : Trace) → IsStateOf trace p → MayAnswer p step reply → IsStateOf (trace ++ (step, reply) ∷ [])
    (state_after p step reply))
    → IsReached p → MayAnswer p step reply → p' ≡ state_after p step reply → IsReached p'
reaches p p' step reply lift r says e =
    let c = counts p step reply (record { counted = r.counted; few_begun = r.few_begun; few_runs = r.few_runs }) says in
    subst (λ (q : StoreState). IsReached q) (sym e) (record {
      trace = r.trace ++ (step, reply) ∷ [];
      at = lift r.trace r.at says;
      counted = c.counted;
      few_begun = c.few_begun;
      few_runs = c.few_runs;
    })

pub few_commits : (most_runs : ℕ) (parts : Partitions) (t : Txs) (wishes : List Interval) (commits : ℕ) →
    IsReached (state_kept most_runs parts t wishes commits) → commits + length t.active ≤ 2 ^ 63
few_commits most_runs parts t wishes commits r = omega (
  arith,
  r.counted,
  r.few_begun,
  length-map t.active (active_with (locks_owned t.locks)),
)

pub some_active : (xs : List Transaction) (tx : ℕ) → is_active_in xs tx ≡ true → 1 ≤ length xs
some_active [] tx a = absurd (false≢true a)
some_active (x ∷ xs) tx a = omega arith

-- ---- how much a reply has

take_few : (max : ℕ) (rows : Records) → length (take max rows) ≤ max
take_few max rows = omega (arith, length-take max rows)

-- an operation whose answers are within their bounds, and whose refusals are
within_answer : (p : StoreState) (t : ℕ) (op : Op) (reply : Reply) →
    ((marks : List ℕ) (m : PlainMap) → IsWithin (Do t op) (stored_answer op marks m)) →
    ((why : Refusal) → IsWithin (Do t op) (Refused why)) → MayAnswer p (Do t op) reply → IsWithin (Do t op) reply
within_answer p t op reply answered refused says = by_due (refusal_in p t op) says
  where
    by_due : (o : Option Refusal) → MatchOption o
        ((reply ≡ stored_answer op (in_table p.active t).marks (content p.entries)) ⊎
        ((reply ≡ Refused NoMemory) × (takes_memory op ≡ true))) (λ why. reply ≡ Refused why) →
        IsWithin (Do t op) reply
    by_due None h = ⊎_elim
        (λ e. subst (λ (r : Reply). IsWithin (Do t op) r) (sym e)
        (answered (in_table p.active t).marks (content p.entries)))
        (λ w. subst (λ (r : Reply). IsWithin (Do t op) r) (sym w.0) (refused NoMemory))
        h
    by_due (Some why) e = subst (λ (r : Reply). IsWithin (Do t op) r) (sym e) (refused why)

pub within_do : (p : StoreState) (t : ℕ) (op : Op) (reply : Reply) → MayAnswer p (Do t op) reply →
    IsWithin (Do t op) reply
within_do p t (Scan range max) reply says = within_answer p t (Scan range max) reply
    (λ marks m. take_few max (rows_where (within range) m)) (λ why. tt) says
within_do p t (ScanBack range max) reply says = within_answer p t (ScanBack range max) reply
    (λ marks m. take_few max (reverse (rows_where (within range) m))) (λ why. tt) says
within_do p t (DeleteRange range max) reply says = within_answer p t (DeleteRange range max) reply
    (λ marks m. take_few max (rows_where (within range) m)) (λ why. tt) says
within_do p t op reply says = tt

at_most : (test : Entry → Bool) (xs : List Entry) → length (take_while test xs) ≤ length xs
at_most test xs = omega (arith, length-take (prefix_len test xs) xs)

pub within_merge : (p : StoreState) (limit : ℕ) (reply : Reply) → MayAnswer p (Merge limit) reply →
    IsWithin (Merge limit) reply
within_merge p limit (Moved n run) says = by_limit (is_limit limit) refl says
  where
    of_first : (c : Entry) (cs : List Entry) (o : Option ℕ) → AnswersFirst p.entries (holder_in p.active) limit c cs o
        (Moved n run) → n ≤ limit
    of_first c cs None h =
        let test = λ (e : Entry). (e.part == run) && is_none (holder_in p.active e.key) in
        omega (arith, h.1.at_most, at_most test (take limit cs), length-take limit cs)
    of_first c cs (Some holder) h = cc

    of_candidates : (cs : List Entry) → AnswersCandidates p.entries (holder_in p.active) limit cs (Moved n run) →
        n ≤ limit
    of_candidates [] h = cc
    of_candidates (c ∷ cs) h = of_first c (c ∷ cs) (holder_in p.active c.key) h

    of_wishes : (wishes : List Interval) → MergeRight p.entries wishes (holder_in p.active) limit (Moved n run) →
        n ≤ limit
    of_wishes [] h = cc
    of_wishes (w ∷ ws) h = of_candidates (candidates p.entries w) h

    by_limit : (b : Bool) → is_limit limit ≡ b → MatchBool b
        (MergeRight p.entries p.wishes (holder_in p.active) limit (Moved n run)) (Moved n run ≡ Refused BadLimit) →
        n ≤ 64
    by_limit true e h =
        let few = of_wishes p.wishes h in
        let most_ = leb-true limit 64 (and_parts (nat_le 1 limit) (nat_le limit 64) e).1 in
        omega (arith, few, most_)
    by_limit false e h = cc
within_merge p limit reply says = tt
