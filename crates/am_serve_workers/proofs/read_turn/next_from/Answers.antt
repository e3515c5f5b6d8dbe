use Rattle.std.proofs.Common.{inl}
use Rattle.am_serve_workers.proofs.read_turn.next_from.Goals as goal

pub returns : goal.returns
returns c = inl (c.in-Some.range, c.in-Some.ensures.from, c.next_in_runs.ensures)
