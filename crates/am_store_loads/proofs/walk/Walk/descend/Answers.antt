use Rattle.std.proofs.Common.{sym, ◌∙◌, ap}
use Rattle.am_index.specs.Entries.{next_from}
use Rattle.am_store_loads.proofs.PartitionWalks.{begins}
use Rattle.am_store_loads.proofs.walk.Walk.descend.Goals as goal

pub returns-in-Some-clause-walk : goal.returns-in-Some-clause-walk
returns-in-Some-clause-walk g c =
    begins c.next_from.ensures.sound.rising c.args.key c.in-Some.entry c.stand_at.new.self
    (ap (λ p. next_from c.args.parts.now.entries p c.args.key) c.stand_at.ensures.part ∙ sym c.next_from.ensures.found ∙
    c.in-Some.is) c.stand_at.ensures.read c.stand_at.ensures.passed c.stand_at.ensures.last
