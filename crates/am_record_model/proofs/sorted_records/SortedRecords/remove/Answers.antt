use Rattle.std.proofs.Common.{ap, ◌∙◌}
use Rattle.std.specs.FinMap as map
use Rattle.am_record_model.proofs.Maps.{taken_is_remove}
use Rattle.am_record_model.proofs.sorted_records.SortedRecords.remove.Goals as goal

pub returns : goal.returns
returns c =
    taken_is_remove c.self.inside.by_key.entries c.remove.new.self.entries c.args.key c.remove.ensures.updates.0
    ∙ ap (λ m. map.remove m c.args.key) c.self.view_is
