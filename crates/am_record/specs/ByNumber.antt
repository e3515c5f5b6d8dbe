-- Things that have a number, in a list, whatever else is known of them.
use Rattle.std.specs.Prelude.{ℕ, ◌<◌, ◌==◌, List, [], ◌∷◌, Bool, cond, not, map, filter}
use Rattle.std.specs.List.{list_any, AllByRecursion}

-- whether one has the number
abbrev pub has_number : {A : Type 0} → (A → ℕ) → List A → ℕ → Bool
has_number number xs t = list_any (λ x. number x == t) xs

-- what is known of the first one that has it, and `none` where none has it
abbrev pub of_number : {A B : Type 0} → (A → ℕ) → (A → B) → B → List A → ℕ → B
of_number number what none [] t = none
of_number number what none (x ∷ xs) t = cond (number x == t) (what x) (of_number number what none xs t)

-- the ones that have it are changed, and no other
abbrev pub with_changed : {A : Type 0} → (A → ℕ) → (A → A) → ℕ → List A → List A
with_changed number f t xs = map (λ x. cond (number x == t) (f x) x) xs

-- the ones that have it are left out
abbrev pub without_number : {A : Type 0} → (A → ℕ) → ℕ → List A → List A
without_number number t xs = filter (λ x. not (number x == t)) xs

-- each number is below all later ones
abbrev pub RiseBy : {A : Type 0} → (A → ℕ) → List A → Type 0
RiseBy number [] = Unit {0}
RiseBy number (x ∷ xs) = AllByRecursion (λ y. number x < number y) xs × RiseBy number xs
