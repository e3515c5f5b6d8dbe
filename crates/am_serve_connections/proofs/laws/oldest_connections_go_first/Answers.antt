use Rattle.am_serve_connections.proofs.AcceptorOrders.{leave_in_order, nobody_waits}
use Rattle.am_serve_connections.proofs.laws.oldest_connections_go_first.Goals as goal

pub returns : goal.returns
returns c = record { order = leave_in_order; seats = nobody_waits }
