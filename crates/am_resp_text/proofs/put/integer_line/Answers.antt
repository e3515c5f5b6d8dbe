use Rattle.std.proofs.Common.{ℕ, List, ◌<ℤ◌, ◌++◌, pos, codes, decimal, sym, ap, ◌∙◌, ◌≡◌, ◌<◌, ◌^◌, arith}
use Rattle.std.specs.Prelude.{nat_abs}
use Rattle.std.proofs.lemmas.Int.{to_z-of_z, ints}
use mir.Syntax.{w64}
use Rattle.am_line_text.specs.Numbers.{numeral}
use Rattle.am_line_text.proofs.Numerals.{numeral-decimal}
use Rattle.am_resp_text.specs.Counts.{crlf}
use Rattle.am_resp_text.proofs.Signs.{below_zero}
use Rattle.am_resp_text.proofs.put.integer_line.Goals as goal

pub returns-then-number-lt0 : goal.returns-then-number-lt0
returns-then-number-lt0 c =
    let digits = c.unsigned_abs-digits.result in
    let small : digits < 2 ^ 64 = omega (arith, c.unsigned_abs-digits.ensures.bound) in
    let size : digits ≡ nat_abs c.args.number =
    c.unsigned_abs-digits.ensures.value ∙ ap nat_abs (to_z-of_z w64 c.args.number c.ranges.number) in
    let below : c.args.number <ℤ pos 0 = omega (arith, ints) in
    c.then.ensures ∙ ap (λ (xs : List ℕ). xs ++ crlf) c.then_number.ensures.text ∙
    ap (λ (xs : List ℕ). (xs ++ decimal digits) ++ crlf) c.new.ensures ∙
    ap (λ (xs : List ℕ). (codes ":-" ++ xs) ++ crlf) (sym (numeral-decimal digits small)) ∙
    ap (λ n. (codes ":-" ++ numeral n) ++ crlf) size ∙
    ap (λ (xs : List ℕ). codes ":" ++ (xs ++ crlf)) (sym (below_zero c.args.number below))
