use Rattle.std.proofs.Common.{◌≡◌, take}
use Rattle.std.specs.List.{filter_map}
use Rattle.am_serve_seat.specs.ToldSessions.{told_of}
use Rattle.am_serve_seat.proofs.told.tell.Given as goal

abbrev pub invariant-loop-session : goal.invariant-loop-session
invariant-loop-session l = l.told.items ≡ filter_map (told_of l.which) (take l.session-index l.served)
