use Rattle.std.proofs.Common.{◌∙◌, ap}
use Rattle.std.specs.Prelude.{◌&&◌}
use Rattle.std.specs.Ordering.{eq_by_cmp}
use Rattle.am_record.specs.OrderedKey.{key_cmp}
use Rattle.am_record.specs.Records.{same_record, same_records}
use Rattle.am_record.proofs.SameRecords.{pointwise_alike, same_bytes}
use Rattle.am_record.proofs.records.RecordsPartialEq.eq.Goals as goal

pub returns : goal.returns
returns c =
    c.eq.ensures
    ∙ pointwise_alike _ same_record (λ x y. ap (λ b. eq_by_cmp key_cmp x.0 y.0 && b) (same_bytes x.1 y.1))
    c.self.inside.items.items c.other.inside.items.items
    ∙ ap (λ xs. same_records xs c.other.inside.items.items) c.self.view_is
    ∙ ap (same_records c.args.self.now) c.other.view_is
