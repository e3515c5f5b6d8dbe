-- Up to where a replica stands at the log's end.
use Rattle.std.specs.Prelude.{ℕ, leb, ltb, max, List, [], ◌∷◌, ◌++◌, Bool, ◌&&◌, cond, filter}
use Rattle.am_replica_waits.specs.declared.ends.Question.{Question}

-- The newest moment up to whose end all was applied: 0 where there is none. The revision up to which all was applied.
-- And the questions whose answers lie behind that.
pub record EndsState : Type 0 where
  pub known : ℕ
  pub applied : ℕ
  pub unreached : List Question

abbrev pub no_ends : EndsState
no_ends = record { known = 0; applied = 0; unreached = [] }

abbrev pub lies_within : ℕ → Question → Bool
lies_within applied q = leb q.end applied

-- the newest moment: the one before, or one of a question whose end is applied
abbrev pub newest_known : ℕ → ℕ → List Question → ℕ
newest_known applied known [] = known
newest_known applied known (q ∷ qs) = newest_known applied (cond (lies_within applied q) (max known q.asked) known) qs

abbrev pub with_applied : ℕ → EndsState → EndsState
with_applied applied e = record {
  known = newest_known applied e.known e.unreached;
  applied = applied;
  unreached = filter (λ q. ltb applied q.end) e.unreached;
}

-- all up to the revision is applied, or more was before
abbrev pub with_reached : ℕ → EndsState → EndsState
with_reached revision e = with_applied (max e.applied revision) e

-- an answer counts where its end is applied, at once or later
abbrev pub with_answered : Question → EndsState → EndsState
with_answered q e = cond (lies_within e.applied q)
    (record { known = max e.known q.asked; applied = e.applied; unreached = e.unreached })
    (record { known = e.known; applied = e.applied; unreached = e.unreached ++ q ∷ [] })

-- whether the replica stands at an end that the log had at that moment, or later
abbrev pub has_reached : ℕ → EndsState → Bool
has_reached begun e = ltb 0 begun && leb begun e.known
