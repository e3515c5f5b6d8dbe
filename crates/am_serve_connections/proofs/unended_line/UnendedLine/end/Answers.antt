use Rattle.std.proofs.Common.{◌∙◌, ◌++◌, ap}
use Rattle.am_serve_connections.specs.Http.{is_of_http}
use Rattle.am_serve_connections.proofs.HttpLines.{is_of_http-front}
use Rattle.am_serve_connections.proofs.unended_line.UnendedLine.end.Goals as goal

pub returns-clause-http : goal.returns-clause-http
returns-clause-http c =
    c.is_of_http-is_of_http.ensures ∙ ap is_of_http c.add.ensures ∙
    is_of_http-front (c.args.self.now.bytes.items ++ c.args.bytes.now)
