-- Five fields, read one after another.
use Rattle.std.proofs.Common.{◌≡◌, ℕ, List, [], ◌∷◌, Some, ap, ◌∙◌}
use Rattle.std.specs.Prelude.{option_and_then}
use Rattle.std.specs.Option.{option_zip}
use Rattle.am_trace_text.specs.FieldReadings.{run_in, two_of}
use Rattle.am_trace_text.proofs.IsText.{same_some}
use Rattle.am_trace_text.specs.Headers.{limits_in, limits_for, two_numbers_in}

two_are : (fs : List (List ℕ)) (f g : List ℕ) → two_of fs ≡ Some (f, g) → fs ≡ f ∷ g ∷ []
two_are [] f g e = cc
two_are (a ∷ []) f g e = cc
two_are (a ∷ b ∷ []) f g e =
    ap (λ (p : List ℕ × List ℕ). p.0 ∷ p.1 ∷ []) (same_some (a, b) (f, g) e)
two_are (a ∷ b ∷ d ∷ fs) f g e = cc

pub limits_as : (all later latest last : List (List ℕ)) (r k v m o : List ℕ) → all ≡ r ∷ later → later ≡ k ∷ latest →
    latest ≡ v ∷ last → two_of last ≡ Some (m, o) →
    limits_in all ≡ option_and_then limits_for (option_zip (run_in r) (option_zip (two_numbers_in k v)
    (two_numbers_in m o)))
limits_as all later latest last r k v m o first second third two =
    ap limits_in (first ∙ ap (λ l. r ∷ l) (second ∙ ap (λ l. k ∷ l) (third ∙ ap (λ l. v ∷ l) (two_are last m o two))))
