use Rattle.std.proofs.Common.{refl, arith}
use Rattle.am_record.proofs.Widths.{widened}
use Rattle.am_record.proofs.value.ShortValue.value.Goals as goal

pub invariant_of-result : goal.invariant_of-result
invariant_of-result c = widened 16 c.self.inside.bytes c.self.inside.len c.self.invariant 64 (omega arith) _
    c.copy_from_slice.new.self c.self.told c.copy_from_slice.ensures.after refl
