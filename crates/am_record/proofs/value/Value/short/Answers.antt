use Rattle.std.proofs.Common.{◌∙◌, arith}
use Rattle.am_record.proofs.Widths.{narrowed, narrowed_front}
use Rattle.am_record.proofs.value.Value.short.Goals as goal

pub invariant_of-result : goal.invariant_of-result
invariant_of-result c = narrowed 64 c.self.inside.bytes c.self.inside.len c.self.invariant 16 (omega arith)
    (omega arith) _ c.copy_from_slice.ensures.after

pub returns-clause-value : goal.returns-clause-value
returns-clause-value c = narrowed_front 64 c.self.inside.bytes c.self.inside.len c.self.invariant 16 (omega arith)
    (omega arith) _ c.copy_from_slice.ensures.after ∙ c.self.view_is
