use Rattle.std.proofs.Common.{length}
use Rattle.am_serve_connections.proofs.http.+begins_in_any_case.Given as goal

abbrev pub decreases-begins_in_any_case : goal.decreases-begins_in_any_case
decreases-begins_in_any_case l = length l.letters.now
