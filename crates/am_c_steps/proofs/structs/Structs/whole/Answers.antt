use Rattle.std.proofs.Common.{arith}
use Rattle.std.proofs.Math.Nat.{le-div_iff_mul-le}
use Rattle.am_c_steps.proofs.Wholes.{all_given}
use Rattle.am_c_steps.proofs.structs.Structs.whole.Goals as goal
use Rattle.am_c_steps.proofs.structs.Structs.whole.Goals.{then-not-is_sound-via-then-not-is_sound}
use Rattle.am_c_steps.proofs.structs.Structs.whole.Goals.{then-not-is_sound-via-else-not-is_sound+then-count-structs}

pub returns-then-not-is_sound-clause-some : goal.returns-then-not-is_sound-clause-some
returns-then-not-is_sound-clause-some c = elim c.then-not-is_sound.branch [
  | then-not-is_sound-via-then-not-is_sound w ↦
      (λ e. cc, λ are. let sound = c.is_sound.ensures.1 are.layout in let h = w.if-not-is_sound in cc)
  | then-not-is_sound-via-else-not-is_sound+then-count-structs w ↦
      (λ e. cc, λ are. absurd (omega (arith, (le-div_iff_mul-le are.layout.some).1 are.whole, w.if-count-structs)))
]

pub returns-clause-value : goal.returns-clause-value
returns-clause-value c =
    let sound = c.is_sound.ensures.0 c.if-not-is_sound.false in
    all_given _ _ _ (record { layout = sound; whole = (le-div_iff_mul-le sound.some).0 c.if-count-structs.false })
