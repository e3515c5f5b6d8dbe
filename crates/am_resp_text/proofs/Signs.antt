-- The texts of numbers with a sign.
use Rattle.std.proofs.Common.{◌≡◌, ◌+◌, suc, ℤ, pos, negsuc, ◌<ℤ◌, ◌++◌, codes, ap, arith}
use Rattle.std.specs.Prelude.{nat_abs}
use Rattle.std.proofs.lemmas.Int.{ints}
use Rattle.am_line_text.specs.Numbers.{numeral}
use Rattle.am_resp_text.specs.Counts.{signed_numeral}

pub below_zero : (z : ℤ) → z <ℤ pos 0 → signed_numeral z ≡ codes "-" ++ numeral (nat_abs z)
below_zero (pos n) h = absurd (omega (arith, ints))
below_zero (negsuc n) h =
    let same : n + 1 ≡ suc n = omega arith in
    ap (λ m. codes "-" ++ numeral m) same
