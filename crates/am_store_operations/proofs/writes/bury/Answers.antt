use Rattle.am_store_operations.proofs.Rooms.{live_room}
use Rattle.am_store_operations.proofs.writes.bury.Goals as goal

pub set-requires-clause-room : goal.set-requires-clause-room
set-requires-clause-room g c = live_room c.args.parts.now.entries c.args.parts.now.roomy c.args.live.now.key
    c.args.live.now c.requires.values c.requires.live
