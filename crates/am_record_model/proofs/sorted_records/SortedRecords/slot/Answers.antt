use Rattle.std.proofs.Common.{ap, ◌∙◌}
use Rattle.std.specs.FinMap as map
use Rattle.am_record_model.proofs.Maps.{got_where}
use Rattle.am_record_model.proofs.sorted_records.SortedRecords.slot.Goals as goal

pub returns : goal.returns
returns c =
    c.copied.ensures ∙ c.get.ensures.value ∙ got_where c.self.inside.by_key.entries c.args.key
    ∙ ap (λ m. map.get m c.args.key) c.self.view_is
