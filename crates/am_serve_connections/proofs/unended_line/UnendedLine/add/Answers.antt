use Rattle.std.proofs.Common.{arith}
use Rattle.am_serve_connections.proofs.HttpLines.{kept_bytes}
use Rattle.am_serve_connections.proofs.unended_line.UnendedLine.add.Goals as goal

pub returns : goal.returns
returns c = grind (arith, kept_bytes)
