-- What a merge and a clean do to what is kept.
use Rattle.std.proofs.Common.{◌≡◌, ℕ, List, [], ◌∷◌, true, false, cond, Some, refl, sym, ap, ◌∙◌, subst}
use Rattle.std.specs.Prelude.{MatchBool}
use Rattle.am_record.specs.Interval.{Interval}
use Rattle.am_record.specs.OrderedKey.{OrderedKey}
use Rattle.am_record.specs.Asks.{owns}
use Rattle.am_record.specs.declared.entry.Entry.{Entry}
use Rattle.am_record.specs.declared.step.Refusal.{Refusal}
use Rattle.am_record.specs.declared.step.Refusal.TheVariants.{BadLimit}
use Rattle.am_record.specs.declared.step.Step.TheVariants.{Merge, Clean}
use Rattle.am_record.specs.declared.step.Reply.{Reply}
use Rattle.am_record.specs.declared.step.Reply.TheVariants.{Refused}
use Rattle.am_index_parts.specs.Partitions.{Partitions}
use Rattle.am_store_merge.specs.LockHolders.{holder_of}
use Rattle.am_store_tx.specs.Txs.{Txs, IsConsistent}
use Rattle.am_record.specs.Refusals.{is_limit}
use Rattle.am_law_effect.specs.MergeAnswers.{Holders, all_worked_off, MergeRight, merged_by, wishes_left, CleanRight}
use Rattle.am_law_effect.specs.MergeAnswers.{cleaned_by}
use Rattle.am_law_sound.specs.StoreState.{Active, holder_in, MayAnswer, state_after}
use Rattle.am_law_sound.specs.Tables.{owners_of}
use Rattle.am_store.specs.StoreContent.{state_kept, actives}
use Rattle.am_store.proofs.Actives.{owners_of-actives}

-- ---- who holds what

holder_at : (xs : List Active) (q : OrderedKey) → holder_of (owners_of xs) q ≡ holder_in xs q
holder_at [] q = refl
holder_at (x ∷ xs) q = ap (cond (owns x.locks q) (Some x.number)) (holder_at xs q)

pub holders_are : (t : Txs) → IsConsistent t → holder_of t.locks ≡ holder_in (actives t)
holders_are t ok = ap holder_of (sym (owners_of-actives t ok)) ∙ (λ i q. holder_at (actives t) q i)

-- ---- a limit that is none

pub none_merged : (es : List Entry) (wishes : List Interval) (why : Refusal) → merged_by es wishes (Refused why) ≡ []
none_merged es [] why = refl
none_merged es (w ∷ ws) why = refl

module _ (most_runs : ℕ) (parts : Partitions) (t : Txs) (wishes : List Interval) (commits limit : ℕ) where
  pub says_bad_merge : is_limit limit ≡ false → MayAnswer (state_kept most_runs parts t wishes commits) (Merge limit)
      (Refused BadLimit)
  says_bad_merge e = subst (λ b. MatchBool b (MergeRight parts.entries wishes (holder_in (actives t)) limit
      (Refused BadLimit)) (◌≡◌ {A = Reply} (Refused BadLimit) (Refused BadLimit))) (sym e) refl

  pub after_bad_merge : state_kept most_runs parts t wishes commits ≡ state_after
      (state_kept most_runs parts t wishes commits)
      (Merge limit) (Refused BadLimit)
  after_bad_merge = λ i. record {
    most_runs = most_runs;
    entries = all_worked_off (sym (none_merged parts.entries wishes BadLimit) i)
        parts.entries;
    wishes = wishes;
    begun = t.begun;
    commits = commits;
    runs = parts.runs;
    active = actives t;
  }

  pub says_bad_clean : (range : Interval) → is_limit limit ≡ false →
      MayAnswer (state_kept most_runs parts t wishes commits)
      (Clean range limit) (Refused BadLimit)
  says_bad_clean range e = subst (λ b. MatchBool b
      (CleanRight parts.entries (holder_in (actives t)) range limit (Refused BadLimit))
      (◌≡◌ {A = Reply} (Refused BadLimit) (Refused BadLimit))) (sym e) refl

  -- ---- a limit that is one

  pub says_merge : (reply : Reply) → IsConsistent t → is_limit limit ≡ true →
      MergeRight parts.entries wishes (holder_of t.locks) limit reply →
      MayAnswer (state_kept most_runs parts t wishes commits)
      (Merge limit) reply
  says_merge reply ok e right =
      subst (λ b. MatchBool b (MergeRight parts.entries wishes (holder_in (actives t)) limit reply)
      (reply ≡ Refused BadLimit)) (sym e)
      (subst (λ (held : Holders). MergeRight parts.entries wishes held limit reply) (holders_are t ok) right)

  pub after_merge : (parts' : Partitions) (wishes' : List Interval) (reply : Reply) →
      parts'.entries ≡ all_worked_off (merged_by parts.entries wishes reply) parts.entries →
      wishes' ≡ wishes_left wishes reply → parts'.runs ≡ parts.runs
      → state_kept most_runs parts' t wishes' commits ≡ state_after (state_kept most_runs parts t wishes commits)
      (Merge limit) reply
  after_merge parts' wishes' reply entries ws runs = λ i. record {
    most_runs = most_runs;
    entries = entries i;
    wishes = ws i;
    begun = t.begun;
    commits = commits;
    runs = runs i;
    active = actives t;
  }

  pub says_clean : (range : Interval) (reply : Reply) → IsConsistent t → is_limit limit ≡ true →
      CleanRight parts.entries (holder_of t.locks) range limit reply →
      MayAnswer (state_kept most_runs parts t wishes commits)
      (Clean range limit) reply
  says_clean range reply ok e right =
      subst (λ b. MatchBool b (CleanRight parts.entries (holder_in (actives t)) range limit reply)
      (reply ≡ Refused BadLimit)) (sym e)
      (subst (λ (held : Holders). CleanRight parts.entries held range limit reply) (holders_are t ok) right)

  pub after_clean : (range : Interval) (parts' : Partitions) (reply : Reply) → IsConsistent t →
      parts'.entries ≡ all_worked_off (cleaned_by parts.entries (holder_of t.locks) range reply) parts.entries →
      parts'.runs ≡ parts.runs
      → state_kept most_runs parts' t wishes commits ≡ state_after (state_kept most_runs parts t wishes commits)
      (Clean range limit) reply
  after_clean range parts' reply ok entries runs =
      let es = entries ∙ (λ i. all_worked_off (cleaned_by parts.entries (holders_are t ok i) range reply)
      parts.entries) in
      λ i. record {
        most_runs = most_runs;
        entries = es i;
        wishes = wishes;
        begun = t.begun;
        commits = commits;
        runs = runs i;
        active = actives t;
      }
