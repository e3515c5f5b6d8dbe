use Rattle.std.proofs.Common.{sym, ◌∙◌, ⊎_elim}
use Rattle.std.proofs.lemmas.Bool.{both_ways}
use Rattle.am_record.specs.Interval.{key_le, key_le-itself}
use Rattle.am_record.proofs.KeyOrder.{key_le_total}
use Rattle.am_index_parts.proofs.run_keys.greatest.Goals as goal

pub returns-then-le-clause-second : goal.returns-then-le-clause-second
returns-then-le-clause-second c = key_le-itself c.args.other

pub returns-else-le-clause-first : goal.returns-else-le-clause-first
returns-else-le-clause-first c = key_le-itself c.args.one

pub returns-else-le-clause-second : goal.returns-else-le-clause-second
returns-else-le-clause-second c =
    ⊎_elim (λ le. absurd (both_ways (key_le c.args.one c.args.other) (sym c.le.ensures ∙ c.if-le.false) le))
    (λ ge. ge) (key_le_total c.args.one c.args.other)
