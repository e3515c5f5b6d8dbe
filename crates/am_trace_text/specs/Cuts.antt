-- Texts, cut at a byte.
use Rattle.std.specs.Prelude.{◌≡◌, ℕ, ◌==◌, not, List, ◌++◌, codes, Bool, true}
use Rattle.std.specs.List.{list_all}

-- the byte stands nowhere in the text
abbrev pub has_no : ℕ → List ℕ → Bool
has_no byte text = list_all (λ b. not (b == byte)) text

-- the line is these two, parted by a space, a bar and a space, and there is no bar in the first
pub record IsParted (line step reply : List ℕ) : Type 0 where
  pub parted : line ≡ step ++ codes " | " ++ reply
  pub first : has_no 124 step ≡ true
