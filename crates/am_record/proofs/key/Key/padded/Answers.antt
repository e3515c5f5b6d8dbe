use Rattle.std.proofs.Common.{sym, ◌∙◌}
use Rattle.am_record.specs.KeyFields.{fields_of-view}
use Rattle.am_record.specs.OrderedKey.{bytes_of}
use Rattle.am_record.specs.PaddedBytes.{zero_filled}
use Rattle.am_record.proofs.key.Key.padded.Goals as goal

pub returns : goal.returns
returns c =
    (λ i. (sym (fields_of-view c.self.inside c.self.invariant) i).bytes)
    ∙ (λ i. zero_filled 32 (bytes_of (c.self.view_is i)))
