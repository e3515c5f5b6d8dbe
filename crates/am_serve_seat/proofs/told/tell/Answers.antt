use Rattle.std.proofs.Common.{◌<◌, length, None, rules, arith}
use Rattle.am_serve_seat.proofs.OneMore.{filter_map-more}
use Rattle.am_serve_seat.specs.ToldSessions.{told_of}
use Rattle.am_serve_connections.specs.declared.connections.ServedSession.{ServedSession}
use Rattle.am_serve_connections.specs.declared.line.Standing.TheVariants.{Free}
use Rattle.am_serve_seat.proofs.told.tell.Goals.{in-Some+in_ok-push, in_default}
use Rattle.am_serve_seat.proofs.told.tell.Goals as goal

nobody : ServedSession
nobody = record { session = 0; tx = None; seconds = 0; standing = Free }

pub loop-session-preserved : goal.loop-session-preserved
unfolding nobody
loop-session-preserved c =
    let served = c.args.served.now in
    let i = c.loop-session.session-index in
    let inside : i < length served = omega arith in
    let more = filter_map-more (told_of c.args.which) served i nobody c.told_of.result inside c.told_of.ensures in
    elim c.match-told_of.branch [
      | in-Some+in_ok-push w ↦ search rules
      | in_default w ↦ search rules
    ]
