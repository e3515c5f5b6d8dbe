use Rattle.std.proofs.Common.{sym, ◌∙◌}
use Rattle.am_record.proofs.KeyOrder.{encloses_key}
use Rattle.am_index_parts.proofs.apart_runs.down_to.Goals as goal

pub returns-in-Some-clause-within : goal.returns-in-Some-clause-within
returns-in-Some-clause-within c = λ k there.
    encloses_key c.args.range c.in-Some.piece k (sym c.encloses.ensures ∙ c.if-encloses.true) there
