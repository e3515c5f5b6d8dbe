-- How records come in.
use Rattle.std.specs.Prelude.{Bool, true, false}
use Rattle.am_record.specs.Plain.{Records}
use Rattle.am_record.specs.declared.step.Op.{Op}
use Rattle.am_record.specs.declared.step.Op.TheVariants as op
use Rattle.am_c_steps.specs.declared.bringing.Bringing.{Bringing}
use Rattle.am_c_steps.specs.declared.bringing.Bringing.TheVariants.{Load, Put}

-- the operation that brings these in
abbrev pub brings : Bringing → Records → Op
brings Load pairs = op.Load pairs
brings Put pairs = op.Put pairs

-- whether the records are copied before the store is asked: a load's are read where they lie
abbrev pub copies : Bringing → Bool
copies Load = false
copies Put = true
