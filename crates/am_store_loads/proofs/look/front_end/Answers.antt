use Rattle.std.proofs.Common.{[], sym, ap, ◌∙◌, arith}
use Rattle.am_record.specs.Interval.{key_le}
use Rattle.am_record.specs.OrderedKey.{key_least}
use Rattle.am_store_loads.proofs.PartedRecords.{none_below_from}
use Rattle.am_store_loads.proofs.look.front_end.Goals as goal

pub returns-then-le-clause-all : goal.returns-then-le-clause-all
returns-then-le-clause-all g c k d from below =
    none_below_from c.args.key (g.S.RecordSource.records c.args.records.now) c.requires.sorted c.loop-at.at
    (key_least, []) (omega arith)
    (ap (key_le c.args.key) (sym c.key.ensures) ∙ sym c.le.ensures ∙ c.if-le.true) k d from below
