use Rattle.std.proofs.Common.{ℕ, ◌/◌, ◌^◌, ap, arith}
use Rattle.am_index_leaf.proofs.BitLemmas.{no_bit, lowest_bit}
use Rattle.am_index_leaf.proofs.bits.next_bit.Goals as goal

pub returns-then-left-eq0-clause-none : goal.returns-then-left-eq0-clause-none
returns-then-left-eq0-clause-none c =
    no_bit c.args.word c.args.from (c.from.result / 2 ^ c.args.from)
    (ap (λ (n : ℕ). n / 2 ^ c.args.from) c.from.ensures) c.if-left-eq0.true

pub returns-clause-first : goal.returns-clause-first
returns-clause-first c =
    lowest_bit c.args.word c.args.from (c.from.result / 2 ^ c.args.from)
    (ap (λ (n : ℕ). n / 2 ^ c.args.from) c.from.ensures) c.if-left-eq0.false
    (omega (arith, c.from.ensures, c.ranges.word.fits))
