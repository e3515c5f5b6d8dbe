use Rattle.std.proofs.Common.{sym, ◌∙◌}
use Rattle.am_record.specs.ValueFields.{fields_of-view}
use Rattle.am_record.specs.PaddedBytes.{zero_filled}
use Rattle.am_record.proofs.value.Value.padded.Goals as goal

pub returns : goal.returns
returns c =
    (λ i. (sym (fields_of-view c.self.inside c.self.invariant) i).bytes)
    ∙ (λ i. zero_filled 64 (c.self.view_is i))
