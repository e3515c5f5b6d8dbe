use Rattle.std.proofs.Common.{sym, ap, ◌∙◌}
use Rattle.std.specs.FinMap as map
use Rattle.am_record.proofs.Outcomes.{OnErr-from}
use Rattle.am_record_model.proofs.Maps.{got_where, put_is_insert}
use Rattle.am_record_model.proofs.sorted_records.SortedRecords.set.Goals as goal

pub returns-clause-ok : goal.returns-clause-ok
returns-clause-ok c =
    put_is_insert c.self.inside.by_key.entries c.insert.new.self.entries c.args.key c.args.slot
    c.in_ok-insert.ensures.updates.0
    ∙ ap (λ m. map.insert m c.args.key c.args.slot) c.self.view_is

pub returns-in_err-insert-clause-absent : goal.returns-in_err-insert-clause-absent
returns-in_err-insert-clause-absent c =
    OnErr-from c.from_residual.result
    (sym (ap (λ m. map.get m c.args.key) c.self.view_is) ∙ sym (got_where c.self.inside.by_key.entries c.args.key) ∙
    c.in_err-insert.ensures.absent)
