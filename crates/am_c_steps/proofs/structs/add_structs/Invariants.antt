use Rattle.std.proofs.Common.{◌≡◌, ◌++◌}
use Rattle.am_c_steps.specs.AskedSteps.{of_one}
use Rattle.am_c_steps.specs.Structs.{structs_given}
use Rattle.am_c_steps.proofs.structs.add_structs.Given as goal

-- what was made and what is left come to all
abbrev pub invariant-loop-left : goal.invariant-loop-left
invariant-loop-left l =
    of_one (λ ps. l.pairs.items ++ ps) (structs_given l.layout l.rest l.left) ≡
    structs_given l.fn.layout l.fn.structs l.fn.count

abbrev pub decreases-loop-left : goal.decreases-loop-left
decreases-loop-left l = l.left
