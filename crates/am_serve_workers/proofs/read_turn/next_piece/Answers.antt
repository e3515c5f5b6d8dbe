use Rattle.std.proofs.Common.{None, subst}
use Rattle.am_record.specs.OrderedKey.{OrderedKey}
use Rattle.am_serve_workers.specs.ReadTurns.{IsNextFrom}
use Rattle.am_serve_workers.proofs.read_turn.next_piece.Goals as goal

pub returns-in-None : goal.returns-in-None
returns-in-None c = (
  None,
  c.in-None.ensures,
  subst (λ (k : OrderedKey). IsNextFrom c.args.store.now.entries k c.next_from-in-None.result) c.least.ensures.value
      c.next_from-in-None.ensures,
)
