-- What holds after each step of what is known of the log's end.
use Rattle.std.proofs.Common.{◌≡◌, ℕ, ◌<◌, ◌≤◌, List, [], ◌∷◌, ◌++◌, true, cond, max}
use Rattle.std.proofs.Common.{refl, arith, sym, subst, inl, inr}
use Rattle.std.specs.Prelude.{leb, ltb}
use Rattle.std.specs.List.{AllByRecursion}
use Rattle.std.proofs.lemmas.Bool.{cond_both, cases_lt, leb-true, ltb-true, and_parts}
use Rattle.am_record.proofs.Lists.{AllByRecursion-map, AllByRecursion-push, AllByRecursion-filter}
use Rattle.am_replica_waits.specs.declared.ends.Question.{Question}
use Rattle.am_replica_waits.specs.Ends.{EndsState, lies_within, newest_known, with_answered, has_reached}
use Rattle.am_replica_waits.specs.EndsHistory.{EndsStep, ReachesEnd, AnswersEnd, ends_known, WasAnswered}
use Rattle.am_replica_waits.specs.EndsHistory.{AnswersAreTrue, NeverFalls}

-- somebody asked at this moment, and was answered an end that is applied
abbrev pub IsKnown : List EndsStep → ℕ → ℕ → Type 0
IsKnown steps applied known = 0 < known → (q : Question) ×
    ((q.asked ≡ known) × WasAnswered q steps × (q.end ≤ applied))

-- the moment is known, and each open question was answered
pub record Stands (steps : List EndsStep) (e : EndsState) : Type 0 where
  pub known : IsKnown steps e.applied e.known
  pub unreached : AllByRecursion (λ q. WasAnswered q steps) e.unreached

max_right : (a b : ℕ) → a < b → max a b ≡ b
max_right a b lt = omega arith

max_left : (a b : ℕ) → b ≤ a → max a b ≡ a
max_left a b le = omega arith

one_known : (steps : List EndsStep) (applied known : ℕ) (q : Question) → IsKnown steps applied known →
    WasAnswered q steps → q.end ≤ applied → IsKnown steps applied (max known q.asked)
one_known steps applied known q before was le = elim (cases_lt known q.asked) [
  | inl lt ↦
      subst (IsKnown steps applied) (sym (max_right known q.asked lt)) (λ some. (q, (refl, was, le)))
  | inr ge ↦ subst (IsKnown steps applied) (sym (max_left known q.asked ge)) before
]

newest_is_known : (steps : List EndsStep) (applied known : ℕ) (qs : List Question) → IsKnown steps applied known →
    AllByRecursion (λ q. WasAnswered q steps) qs → IsKnown steps applied (newest_known applied known qs)
newest_is_known steps applied known [] before were = before
newest_is_known steps applied known (q ∷ qs) before were =
    newest_is_known steps applied (cond (lies_within applied q) (max known q.asked) known) qs
    (cond_both (lies_within applied q) (max known q.asked) known (IsKnown steps applied)
    (λ is. one_known steps applied known q before were.0 (leb-true q.end applied is)) (λ isnt. before)) were.1

more_applied : (steps : List EndsStep) (applied more known : ℕ) → applied ≤ more → IsKnown steps applied known →
    IsKnown steps more known
more_applied steps applied more known le before some =
    let b = before some in
    let end : b.0.end ≤ applied = b.1.2 in
    (b.0, (b.1.0, b.1.1, omega arith))

later : (q r : Question) (steps : List EndsStep) → WasAnswered q steps → WasAnswered q (AnswersEnd r ∷ steps)
later q r steps was = inr was

later_known : (steps : List EndsStep) (r : Question) (applied known : ℕ) → IsKnown steps applied known →
    IsKnown (AnswersEnd r ∷ steps) applied known
later_known steps r applied known before some = let b = before some in (b.0, (b.1.0, inr b.1.1, b.1.2))

answers : (steps : List EndsStep) (q : Question) (e : EndsState) → Stands steps e →
    Stands (AnswersEnd q ∷ steps) (with_answered q e)
answers steps q e s =
    let now : List EndsStep = AnswersEnd q ∷ steps in
    let open_before : AllByRecursion (λ r. WasAnswered r now) e.unreached =
    AllByRecursion-map (λ r. WasAnswered r steps) (λ r. WasAnswered r now) (λ r was. later r q steps was) e.unreached
    s.unreached in
    let known_before : IsKnown now e.applied e.known = later_known steps q e.applied e.known s.known in
    cond_both (lies_within e.applied q)
    (record { known = max e.known q.asked; applied = e.applied; unreached = e.unreached })
    (record { known = e.known; applied = e.applied; unreached = e.unreached ++ q ∷ [] })
    (Stands now)
    (λ is. record {
      known = one_known now e.applied e.known q known_before (inl refl) (leb-true q.end e.applied is);
      unreached = open_before;
    })
    (λ isnt. record {
      known = known_before;
      unreached = AllByRecursion-push (λ r. WasAnswered r now) e.unreached q open_before (inl refl);
    })

stands : (steps : List EndsStep) → Stands steps (ends_known steps)
stands [] = record { known = λ some. absurd (omega arith); unreached = tt }
stands (ReachesEnd revision ∷ b) =
    let e = ends_known b in
    let more : ℕ = max e.applied revision in
    let s = stands b in
    record {
      known = newest_is_known (ReachesEnd revision ∷ b) more e.known e.unreached
          (more_applied (ReachesEnd revision ∷ b) e.applied more e.known (omega arith) s.known) s.unreached;
      unreached = AllByRecursion-filter (λ q. WasAnswered q b) (λ q. ltb more q.end) e.unreached s.unreached;
    }
stands (AnswersEnd q ∷ b) = answers b q (ends_known b) (stands b)

-- ---- laws

pub was_asked : (steps : List EndsStep) → 0 < (ends_known steps).known → (q : Question) ×
    ((q.asked ≡ (ends_known steps).known) × WasAnswered q steps × (q.end ≤ (ends_known steps).applied))
was_asked steps some = (stands steps).known some

true_answer : (stood : ℕ → ℕ) (q : Question) (steps : List EndsStep) → AnswersAreTrue stood steps →
    WasAnswered q steps → stood q.asked ≤ q.end
true_answer stood q [] are was = absurd was
true_answer stood q (ReachesEnd r ∷ b) are was = true_answer stood q b are was
true_answer stood q (AnswersEnd r ∷ b) are was = elim was [
  | inl e ↦ subst (λ (p : Question). stood p.asked ≤ p.end) (sym e) are.0
  | inr before ↦ true_answer stood q b are.1 before
]

pub see_all : (steps : List EndsStep) (stood : ℕ → ℕ) (begun : ℕ) → NeverFalls stood → AnswersAreTrue stood steps →
    has_reached begun (ends_known steps) ≡ true → stood begun ≤ (ends_known steps).applied
see_all steps stood begun falls are is =
    let e = ends_known steps in
    let p = and_parts (ltb 0 begun) (leb begun e.known) is in
    let some : 0 < begun = ltb-true 0 begun p.0 in
    let known : begun ≤ e.known = leb-true begun e.known p.1 in
    let asked = was_asked steps (omega arith) in
    let q : Question = asked.0 in
    let when : q.asked ≡ e.known = asked.1.0 in
    let truly : stood q.asked ≤ q.end = true_answer stood q steps are asked.1.1 in
    let before : stood begun ≤ stood q.asked = falls begun q.asked (omega arith) in
    let within : q.end ≤ e.applied = asked.1.2 in
    omega arith
