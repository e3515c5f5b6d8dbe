use Rattle.std.proofs.Common.{◌≡◌, length}
use Rattle.am_serve_connections.proofs.connections.Connections.new.Given as goal

abbrev pub invariant-loop : goal.invariant-loop
invariant-loop g l = length l.places.items ≡ l.counter
