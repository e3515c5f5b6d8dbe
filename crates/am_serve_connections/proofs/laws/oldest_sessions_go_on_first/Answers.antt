use Rattle.am_serve_connections.proofs.TurnOrders.{go_on_in_order}
use Rattle.am_serve_connections.proofs.laws.oldest_sessions_go_on_first.Goals as goal

pub returns : goal.returns
returns c = go_on_in_order
