-- Of two beginnings of a list the longer one begins with the other.
use Rattle.std.proofs.Common.{◌≡◌, ℕ, ◌-◌, ◌≤◌, List, [], ◌∷◌, ◌++◌, length, take, drop, refl, sym, ap, ◌∙◌, arith}
use Rattle.std.proofs.lemmas.Grind.{common_steps}
use Rattle.am_resp_text.proofs.Cuts.{same_head}

pub longer : (a b c d : List ℕ) → a ++ b ≡ c ++ d → length c ≤ length a → (e : List ℕ) × (a ≡ c ++ e) × (d ≡ e ++ b)
longer a b [] d e le = (a, refl, sym e)
longer [] b (x ∷ c) d e le = absurd (omega (arith, le))
longer (y ∷ a) b (x ∷ c) d e le =
    let parts = same_head y x (a ++ b) (c ++ d) e in
    let rest = longer a b c d parts.1 (omega (arith, le)) in
    (rest.0, ap (λ z. z ∷ a) parts.0 ∙ ap (λ (z : List ℕ). x ∷ z) rest.1, rest.2)

pub to_the_end : (xs : List ℕ) (k : ℕ) → k ≤ length xs → take (length xs - k) (drop k xs) ≡ drop k xs
to_the_end xs k le = grind (arith, common_steps, le)
