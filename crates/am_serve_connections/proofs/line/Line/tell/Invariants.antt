use Rattle.std.proofs.Common.{◌≡◌, ◌++◌, map, take, drop}
use Rattle.am_serve_connections.specs.Connections.{with_standing}
use Rattle.am_serve_connections.proofs.line.Line.tell.Given as goal

abbrev pub invariant-loop-told : goal.invariant-loop-told
invariant-loop-told l =
    l.sessions ≡ map (with_standing l.self.holder l.self.waiting.items) (take l.told-index l.fn.sessions) ++
    drop l.told-index l.fn.sessions
