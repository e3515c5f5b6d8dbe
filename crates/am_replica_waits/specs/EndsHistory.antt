-- What a replica learnt of the log's end and of itself, the newest first.
use Rattle.std.specs.Prelude.{◌≡◌, ℕ, ◌≤◌, List, [], ◌∷◌, ◌⊎◌}
use Rattle.am_replica_waits.specs.declared.ends.Question.{Question}
use Rattle.am_replica_waits.specs.Ends.{EndsState, no_ends, with_reached, with_answered}

-- all up to a revision was applied; or the cluster answered, which was asked at a moment, where the log's end is
pub data EndsStep : Type 0 where
  ReachesEnd : ℕ → EndsStep
  AnswersEnd : Question → EndsStep

abbrev pub ends_then : EndsStep → EndsState → EndsState
ends_then (ReachesEnd revision) e = with_reached revision e
ends_then (AnswersEnd q) e = with_answered q e

abbrev pub ends_known : List EndsStep → EndsState
ends_known [] = no_ends
ends_known (step ∷ before) = ends_then step (ends_known before)

-- the question was answered so in one of these steps
abbrev pub WasAnswered : Question → List EndsStep → Type 0
WasAnswered q [] = ⊥
WasAnswered q (AnswersEnd r ∷ before) = (q ≡ r) ⊎ WasAnswered q before
WasAnswered q (step ∷ before) = WasAnswered q before

-- each answer is as far as the log's end stood when it was asked for, at least
abbrev pub AnswersAreTrue : (ℕ → ℕ) → List EndsStep → Type 0
AnswersAreTrue stood [] = Unit {0}
AnswersAreTrue stood (AnswersEnd q ∷ before) = (stood q.asked ≤ q.end) × AnswersAreTrue stood before
AnswersAreTrue stood (step ∷ before) = AnswersAreTrue stood before

-- the log's end never falls
abbrev pub NeverFalls : (ℕ → ℕ) → Type 0
NeverFalls stood = (earlier later : ℕ) → earlier ≤ later → stood earlier ≤ stood later
