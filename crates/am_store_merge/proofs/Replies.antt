-- What a merge step replies is right.
use Rattle.std.proofs.Common.{◌≡◌, ◌≢◌, ℕ, ◌≤◌, List, [], ◌∷◌, take, slice_get, true, Option, Some, None, refl, sym, ap}
use Rattle.std.proofs.Common.{◌∙◌, subst, ⊎_elim, arith}
use Rattle.std.specs.Prelude.{◌==◌, is_none}
use Rattle.std.proofs.lemmas.Bool.{and_from, eq-eqb}
use Rattle.std.proofs.lemmas.Option.{none-some, same_Some}
use Rattle.am_record.specs.Interval.{Interval}
use Rattle.am_record.specs.declared.entry.Entry.{Entry}
use Rattle.am_record.specs.declared.step.Refusal.TheVariants.{NoMemory}
use Rattle.am_record.specs.declared.step.Reply.{Reply}
use Rattle.am_record.specs.declared.step.Reply.TheVariants.{Moved, MergeDone, Ended, Refused}
use Rattle.am_index.specs.Entries.{first_such}
use Rattle.am_index.specs.Content.{content}
use Rattle.am_index_parts.specs.Partitions.{AreWellFormed}
use Rattle.am_law_effect.specs.MergeAnswers.{Holders, candidates, all_worked_off, most, AnswersFirst, AnswersCandidates}
use Rattle.am_law_effect.specs.MergeAnswers.{MergeRight, merged_by}
use Rattle.am_law_effect.proofs.Maintenance.{merge_maintains}
use Rattle.am_store_merge.specs.Walks.{in_parts_from}
use Rattle.am_store_merge.specs.Steps.{IsAsFar}
use Rattle.am_store_merge.proofs.Firsts.{first_head, no_head, a_head}
use Rattle.am_store_merge.proofs.PassingPrefixes.{one_more}
use Rattle.am_store_merge.proofs.Stretches.{may_move}

module _ (es : List Entry) (held : Holders) (limit : ℕ) (wishes : List Interval) (wish : Interval)
    (oldest : Some wish ≡ slice_get wishes 0) where
  by_candidates : (reply : Reply) → AnswersCandidates es held limit (candidates es wish) reply →
      MergeRight es wishes held limit reply
  by_candidates reply h = by_wishes wishes oldest
    where
      by_wishes : (ws : List Interval) → Some wish ≡ slice_get ws 0 → MergeRight es ws held limit reply
      by_wishes [] o = absurd (none-some wish (sym o))
      by_wishes (w ∷ ws) o = subst (λ (v : Interval). AnswersCandidates es held limit (candidates es v) reply)
          (same_Some wish w o) h

  pub right_done : None ≡ first_such (in_parts_from 1 wish) es → MergeRight es wishes held limit MergeDone
  right_done none =
      by_candidates MergeDone (subst (λ cs. AnswersCandidates es held limit cs MergeDone)
      (sym (no_head (candidates es wish) (sym (first_head (in_parts_from 1 wish) es) ∙ sym none))) refl)

  module _ (first : Entry) (found : Some first ≡ first_such (in_parts_from 1 wish) es) where
    begins : (rest : List Entry) × (candidates es wish ≡ first ∷ rest)
    begins = a_head (candidates es wish) first (sym (first_head (in_parts_from 1 wish) es) ∙ sym found)

    by_first : (reply : Reply) (o : Option ℕ) → held first.key ≡ o → AnswersFirst es held limit first (first ∷ begins.0)
        o reply → MergeRight es wishes held limit reply
    by_first reply o is h =
        by_candidates reply (subst (λ cs. AnswersCandidates es held limit cs reply) (sym begins.1)
        (subst (λ x. AnswersFirst es held limit first (first ∷ begins.0) x reply) (sym is) h))

    pub right_ended : (h : ℕ) → held first.key ≡ Some h → MergeRight es wishes held limit (Ended first.key h)
    right_ended h is = by_first (Ended first.key h) (Some h) is refl

    module _ (free : held first.key ≡ None) where
      pub right_moved : (n : ℕ) → n ≢ 0 → IsAsFar es held limit first.part (candidates es wish) n →
          MergeRight es wishes held limit (Moved n first.part)
      right_moved n some far =
          let far' = subst (λ cs. IsAsFar es held limit first.part cs n) begins.1 far in
          by_first (Moved n first.part) None free (
            refl,
            record {
              some = omega arith;
              at_most = far'.at_most;
              greatest = far'.greatest;
            },
          )

      -- none is worked off only where the first one's place was refused
      pub right_refused : 1 ≤ limit → IsAsFar es held limit first.part (candidates es wish) 0 →
          MergeRight es wishes held limit (Refused NoMemory)
      right_refused some far =
          let far' = subst (λ cs. IsAsFar es held limit first.part cs 0) begins.1 far in
          by_first (Refused NoMemory) None free (
            refl,
            ⊎_elim
                (λ all.
                let passes : may_move held first.part first ≡ true = and_from (first.part == first.part)
                (is_none (held first.key)) (eq-eqb first.part first.part refl) (ap is_none free) in
                let one : 1 ≤ most held limit first.part (first ∷ begins.0) = one_more (may_move held first.part) 0
                limit (first ∷ begins.0) some far'.at_most passes in
                absurd (omega arith))
                (λ needs. needs) far'.greatest,
          )

-- the content is as before
pub same_content : {es es' : List Entry} → AreWellFormed es → (wishes : List Interval) (held : Holders) (limit : ℕ)
    (reply : Reply) → MergeRight es wishes held limit reply
    → es' ≡ all_worked_off (merged_by es wishes reply) es → content es' ≡ content es
same_content {es} sound wishes held limit reply right is = ap content is ∙
    (merge_maintains es wishes held limit reply sound.rising right).same sound.one_place

-- the entries that a wish's reply names
pub merged : (es : List Entry) (wishes : List Interval) (wish : Interval) → Some wish ≡ slice_get wishes 0 →
    (n run : ℕ) → merged_by es wishes (Moved n run) ≡ take n (candidates es wish)
merged es wishes wish oldest n run = by_wishes wishes oldest
  where
    by_wishes : (ws : List Interval) → Some wish ≡ slice_get ws 0 → merged_by es ws (Moved n run) ≡ take n
        (candidates es wish)
    by_wishes [] o = absurd (none-some wish (sym o))
    by_wishes (w ∷ ws) o = ap (λ (v : Interval). take n (candidates es v)) (sym (same_Some wish w o))
