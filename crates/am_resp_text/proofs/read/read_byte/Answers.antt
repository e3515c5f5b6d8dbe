use Rattle.std.proofs.Common.{◌∷◌, []}
use Rattle.am_resp_text.proofs.CountReadings.{nothing_before}
use Rattle.am_resp_text.proofs.read.read_byte.Goals as goal

pub returns-in_default-clause-gap : goal.returns-in_default-clause-gap
returns-in_default-clause-gap c =
    (c.args.byte ∷ [], (λ e. cc), nothing_before c.args.bytes.now c.args.byte c.in_default.ensures.cases)
