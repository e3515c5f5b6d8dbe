use Rattle.std.proofs.Common.{◌≤◌, length}
use Rattle.am_serve_connections.proofs.connections.Connections.served.Given as goal

abbrev pub invariant-loop-place : goal.invariant-loop-place
invariant-loop-place g l = length l.served.items ≤ l.place-index
