use Rattle.std.proofs.Common.{rules}
use Rattle.am_program_listen.proofs.Bounds.{in_bounds}
use Rattle.am_program_listen.proofs.asked.Goals as goal

pub returns-in-Listen : goal.returns-in-Listen
returns-in-Listen c = let named = rw c.in-Listen.is at c.in_ok-listening.ensures.accepted in search (in_bounds, rules)
