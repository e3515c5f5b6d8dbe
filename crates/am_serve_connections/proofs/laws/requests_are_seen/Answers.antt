use Rattle.am_serve_connections.proofs.Requests.{requests_are_seen}
use Rattle.am_serve_connections.proofs.laws.requests_are_seen.Goals as goal

pub returns : goal.returns
returns c = requests_are_seen
