-- What was taken from a source and given to a sink, one call after another.
use Rattle.std.proofs.Common.{◌≡◌, ℕ, List, [], ◌++◌, append_assoc, append-nil, ap, sym, ◌∙◌, refl}
use Rattle.std.proofs.Common.{Option, Some, None, subst}
use Rattle.std.specs.Io.KnownBytes.{Appends}
use Rattle.am_line_source.specs.SourceReads.{Took, TookAhead}

pub appends_none : (a : Option (List ℕ)) → Appends a a []
appends_none None = tt
appends_none (Some a) = sym (append-nil a)

-- all that was taken, what waits included
pub took_total : {S : Type 0} (comes : S → List ℕ → Type 0) (a b : S) (taken waiting read : List ℕ) →
    TookAhead comes [] a taken waiting b → taken ++ waiting ≡ read → Took comes a read b
took_total comes a b taken waiting read f e = λ rest h.
    let x = f (waiting ++ rest) (rest, h, refl) in
    let z : x.0 ≡ read ++ rest = sym x.2 ∙ sym (append_assoc taken waiting rest) ∙ ap (λ y. y ++ rest) e in
    subst (λ (y : List ℕ). comes a y) z x.1
