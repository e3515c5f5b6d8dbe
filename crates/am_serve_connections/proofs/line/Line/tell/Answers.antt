use Rattle.std.proofs.Common.{◌≡◌, ◌<◌, ◌+◌, ◌++◌, map, take, drop, length, get_or, set, None, subst}
use Rattle.std.proofs.Common.{sym, arith}
use Rattle.std.proofs.lemmas.List.{get_or_default}
use Rattle.std.proofs.lemmas.List.Edits.{map_over_more}
use Rattle.am_serve_connections.specs.Connections.{with_standing}
use Rattle.am_serve_connections.specs.declared.connections.ServedSession.{ServedSession}
use Rattle.am_serve_connections.specs.declared.line.Standing.{Standing}
use Rattle.am_serve_connections.specs.declared.line.Standing.TheVariants.{Free}
use Rattle.am_serve_connections.proofs.line.Line.tell.Goals as goal

nobody : ServedSession
nobody = record { session = 0; tx = None; seconds = 0; standing = Free }

pub loop-told-preserved : goal.loop-told-preserved
unfolding nobody
loop-told-preserved c =
    let line = c.args.self.now in
    let all = c.args.sessions.now in
    let told = c.loop-told.sessions in
    let i = c.loop-told.told-index in
    let inside : i < length told = omega arith in
    let within : i < length all = omega arith in
    let one = get_or told i nobody in
    subst (λ (how : Standing). set told i (record one { standing = how }) ≡
    map (with_standing line.holder line.waiting.items) (take (i + 1) all) ++ drop (i + 1) all)
    (sym c.standing-told.ensures)
    (map_over_more (with_standing line.holder line.waiting.items) all told i one within c.loop-told.invariant
    (get_or_default told i nobody one inside))
