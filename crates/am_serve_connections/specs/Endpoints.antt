-- How an endpoint is told.
use Rattle.std.specs.Prelude.{ℕ, List, decimal, string_bytes}
use Rattle.am_serve_connections.specs.declared.endpoint.Endpoint.{Endpoint}
use Rattle.am_serve_connections.specs.declared.endpoint.Endpoint.TheVariants.{Port, Socket}

-- the number of the port, or the name of the socket
abbrev pub endpoint_text : Endpoint → List ℕ
endpoint_text (Port listener port) = decimal port
endpoint_text (Socket listener path) = string_bytes path
