-- Where the last LF of a text stands.
use Rattle.std.proofs.Common.{◌≡◌, ℕ, ◌<◌, List, [], ◌∷◌, zero, suc, length, get_or, take, drop, ap, ◌∙◌, sym, refl}
use Rattle.std.proofs.Common.{true, false, Bool, ◌==◌, cond, arith}
use Rattle.am_trace_text.specs.Lines.{header_line}
use Rattle.am_trace_text.specs.declared.version.Version.TheVariants.{Two}
use Rattle.am_trace_text.specs.declared.header.Header.TheVariants.{Profile}
use Rattle.am_program_audit.specs.Answers.{holds_lf, whole_lines, whole_run}

-- of a text that has no LF from a place on, one byte more
pub none_before : (text : List ℕ) (i : ℕ) → i < length text → (get_or text i 0 == 10) ≡ false →
    holds_lf (drop (suc i) text) ≡ false → holds_lf (drop i text) ≡ false
none_before [] i less other none = absurd (omega (arith, less))
none_before (b ∷ text) zero less other none = ap (λ t. cond t true (holds_lf text)) other ∙ none
none_before (b ∷ text) (suc i) less other none = none_before text i (omega (arith, less)) other none

none_whole : (text : List ℕ) → holds_lf text ≡ false → whole_lines text ≡ []
none_whole [] none = refl
none_whole (b ∷ text) none = ap (λ t. cond t (b ∷ whole_lines text) []) none

always : (t : Bool) → cond t true true ≡ true
always true = refl
always false = refl

has_at : (text : List ℕ) (i : ℕ) → i < length text → (get_or text i 0 == 10) ≡ true → holds_lf text ≡ true
has_at [] i less is = absurd (omega (arith, less))
has_at (b ∷ text) zero less is = ap (λ t. cond t true (holds_lf text)) is
has_at (b ∷ text) (suc i) less is =
    ap (λ t. cond (b == 10) true t) (has_at text i (omega (arith, less)) is) ∙ always (b == 10)

whole_at : (text : List ℕ) (i : ℕ) → i < length text → (get_or text i 0 == 10) ≡ true →
    holds_lf (drop (suc i) text) ≡ false → whole_lines text ≡ take (suc i) text
whole_at [] i less is none = absurd (omega (arith, less))
whole_at (b ∷ text) zero less is none =
    ap (λ t. cond t (b ∷ whole_lines text) []) (has_at (b ∷ text) zero less is) ∙
    ap (λ l. b ∷ l) (none_whole text none)
whole_at (b ∷ text) (suc i) less is none =
    ap (λ t. cond t (b ∷ whole_lines text) []) (has_at (b ∷ text) (suc i) less is) ∙
    ap (λ l. b ∷ l) (whole_at text i (omega (arith, less)) is none)

-- the last LF stands at this place
pub run_at : (text : List ℕ) (i : ℕ) → i < length text → (get_or text i 0 == 10) ≡ true →
    holds_lf (drop (suc i) text) ≡ false → take (suc i) text ≡ whole_run text
run_at text i less is none = sym (
    ap (λ t. cond t (whole_lines text) (header_line (Profile Two))) (has_at text i less is) ∙
    whole_at text i less is none)

-- there is none
pub run_without : (text : List ℕ) → holds_lf text ≡ false → header_line (Profile Two) ≡ whole_run text
run_without text none = sym (ap (λ t. cond t (whole_lines text) (header_line (Profile Two))) none)
