-- Where a server listens.
use Rattle.std.specs.Prelude.{◌≡◌, ℕ, List, string_bytes}
use Rattle.am_serve_connections.specs.declared.endpoint.Endpoint.{Endpoint}
use Rattle.am_serve_connections.specs.declared.endpoint.Endpoint.TheVariants.{Port, Socket}

-- the endpoint is a port
abbrev pub IsAtPort : Endpoint → Type 0
IsAtPort (Port listener number) = Unit {0}
IsAtPort (Socket listener path) = ⊥

-- the endpoint is the socket of this name
abbrev pub IsAtSocket : List ℕ → Endpoint → Type 0
IsAtSocket name (Port listener number) = ⊥
IsAtSocket name (Socket listener path) = string_bytes path ≡ name
