-- An LF among a line.
use Rattle.std.proofs.Common.{Some, None, ◌≡◌, ℕ, List, [], ◌∷◌, Bool, true, false, length, cond}
use Rattle.std.proofs.Common.{eqb, ltb, sym, subst, refl}
use Rattle.std.specs.Prelude.{Option, is_some}
use Rattle.std.specs.List.{position_or_len}
use Rattle.std.proofs.lemmas.Bool.{eqb-false}
use Rattle.am_record.proofs.Lists.{none_first, heads}
use Rattle.am_line_source.specs.Lines.{has_lf, HasNoLf, pieces_of, onto}
use Rattle.am_line_source.proofs.LineEnds.{before_lf, without_lf}

pub found_lf : (bytes : List ℕ) (place : Option ℕ) →
    cond (ltb (position_or_len (λ b. eqb b 10) bytes) (length bytes)) (Some (position_or_len (λ b. eqb b 10) bytes))
    None
    ≡ place → is_some place ≡ has_lf bytes
found_lf bytes None is = sym (without_lf bytes is)
found_lf bytes (Some k) is = sym (before_lf bytes k is).1

with_first : (c : ℕ) (pieces : List (List ℕ)) (line : List ℕ) (rest : List (List ℕ)) (b : Bool) → eqb c 10 ≡ b →
    ((p : List ℕ) (ps : List (List ℕ)) → pieces ≡ p ∷ ps → HasNoLf p) →
    cond b ([] ∷ pieces) (onto c pieces) ≡ line ∷ rest → HasNoLf line
with_first c pieces line rest true e before is = subst HasNoLf (heads is) tt
with_first c [] line rest false e before is = subst HasNoLf (heads is) (eqb-false c 10 e, tt)
with_first c (p ∷ ps) line rest false e before is =
    subst HasNoLf (heads is) (eqb-false c 10 e, before p ps refl)

-- no LF is in the first piece
pub first_has_no_lf : (bytes line : List ℕ) (rest : List (List ℕ)) → pieces_of bytes ≡ line ∷ rest → HasNoLf line
first_has_no_lf [] line rest is = absurd (none_first is)
first_has_no_lf (c ∷ bytes) line rest is =
    with_first c (pieces_of bytes) line rest (eqb c 10) refl (first_has_no_lf bytes) is
