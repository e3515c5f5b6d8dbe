use Rattle.std.proofs.Common.{refl, arith}
use Rattle.am_record.proofs.Padding.{padded}
use Rattle.am_record.proofs.key.Key.new.Goals as goal

pub invariant_of-result : goal.invariant_of-result
invariant_of-result c = padded 32 c.copy_from_slice.new.self c.args.bytes.now _ c.copy_from_slice.ensures.after
    (omega arith) refl
