-- What is said of merged ranges where some are put in the place of others.
use Rattle.std.proofs.Common.{◌≡◌, sym, subst, ℕ, zero, suc, ◌<◌, slice_set, List, [], ◌∷◌, Option, Some, None}
use Rattle.std.proofs.Common.{get_or, length}
use Rattle.std.specs.Prelude.{IfSome}
use Rattle.std.specs.List.{AllByRecursion, remove, cons_option}
use Rattle.am_index_parts.specs.declared.merged_ranges.MergedRange.{MergedRange}
use Rattle.am_index_parts.specs.MergedRanges.{IsMerged, AreMerged, SayNoMore}
use Rattle.am_index_parts.proofs.MergedKnowledge.{at, without}

pub taken_out : (ms rest : List MergedRange) (i : ℕ) (other : MergedRange) → i < length ms →
    other ≡ get_or ms i other → rest ≡ remove ms i → SayNoMore ms (other ∷ rest)
taken_out ms rest i other lt is left es runs are = (
  subst (IsMerged es runs) (sym is) (at (IsMerged es runs) ms i other lt are),
  subst (AreMerged es runs) (sym left) (without (IsMerged es runs) ms i are),
)

pub placed : (P : MergedRange → Type 0) (ms : List MergedRange) (i : ℕ) (m : MergedRange) → P m →
    AllByRecursion P ms → AllByRecursion P (slice_set ms i m)
placed P [] i m is all = tt
placed P (x ∷ ms) zero m is all = (is, all.1)
placed P (x ∷ ms) (suc i) m is all = (all.0, placed P ms i m is all.1)

part_put : (other : MergedRange) (part : Option MergedRange) (ms ms' : List MergedRange) →
    IfSome part (λ p. SayNoMore (other ∷ []) (p ∷ [])) → SayNoMore (cons_option part ms) ms' →
    SayNoMore (other ∷ ms) (other ∷ ms')
part_put other None ms ms' says put es runs are = (are.0, put es runs are.1)
part_put other (Some p) ms ms' says put es runs are =
    (are.0, put es runs ((says es runs (are.0, tt)).0, are.1))

module _ (before : List MergedRange) (m other : MergedRange) (ms rest : List MergedRange) where
  -- one says what two said
  pub both_as_one : (both : MergedRange) → SayNoMore before (m ∷ ms) → SayNoMore ms (other ∷ rest) →
      SayNoMore (m ∷ other ∷ []) (both ∷ []) → SayNoMore before (both ∷ rest)
  both_as_one both says out one es runs are =
      let all = says es runs are in
      let left = out es runs all.1 in
      ((one es runs (all.0, (left.0, tt))).0, left.1)

  -- two parts of a range stand in its place
  pub parts_put : (above below : Option MergedRange) (with_above with_both : List MergedRange) →
      SayNoMore before (m ∷ ms) → SayNoMore ms (other ∷ rest) →
      IfSome above (λ p. SayNoMore (other ∷ []) (p ∷ [])) → SayNoMore (cons_option above rest) with_above →
      IfSome below (λ p. SayNoMore (other ∷ []) (p ∷ [])) → SayNoMore (cons_option below with_above) with_both →
      SayNoMore before (m ∷ with_both)
  parts_put above below with_above with_both says out is_above first is_below second es runs are =
      let all = says es runs are in (
        all.0,
        (part_put other below with_above with_both is_below second es runs
            (part_put other above rest with_above is_above first es runs (out es runs all.1))).1,
      )
