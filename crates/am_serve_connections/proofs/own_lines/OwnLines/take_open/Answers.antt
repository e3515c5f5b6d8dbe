use Rattle.std.proofs.Common.{◌<◌, ◌≤◌, ℕ, List, length, take, drop, arith, refl, subst}
use Rattle.std.proofs.lemmas.List.{length-take-le}
use Rattle.am_line_source.specs.SourceReads.{Took}
use Rattle.am_serve_connections.specs.declared.own_lines.Stage.TheVariants.{Closed}
use Rattle.am_serve_connections.proofs.PassedLines.{none_passed, all_passed, some_passed, held_back, held_behind}
use Rattle.am_serve_connections.proofs.PassedLines.{closes}
use Rattle.am_serve_connections.proofs.own_lines.OwnLines.take_open.Goals as goal

pub returns-then-len-eq0-clause-passed : goal.returns-then-len-eq0-clause-passed
returns-then-len-eq0-clause-passed g c =
    let old = c.args.self.now in
    let mid = record old { source = c.take.new.self } in
    none_passed g.S.Source.comes c.end.result old mid c.end.new.self (length c.args.into.now) c.in-Ok.len
    c.take.new.into
    c.is_empty.result c.requires.unclosed c.in-Ok.ensures.taken c.if-len-eq0.true c.take.auto.into c.is_empty.ensures
    refl
    refl (omega (arith, old.line.few)) c.end.ensures.none c.end.ensures.ended c.end.ensures.ok

pub returns-in-None-clause-passed : goal.returns-in-None-clause-passed
returns-in-None-clause-passed g c =
    all_passed g.S.Source.comes c.args.self.now _ (length c.args.into.now) c.in-Ok.len c.take.new.into c.own_end.result
    c.in-Ok.ensures.taken c.in-Ok.ensures.fits c.take.auto.into c.if-len-eq0.false c.own_end.ensures.end c.in-None.is
    c.in-None.ensures.line refl

pub returns-in-Some-eq0-clause-kept : goal.returns-in-Some-eq0-clause-kept
returns-in-Some-eq0-clause-kept g c =
    held_back g.S.Source.comes c.refuse.result c.args.self.now c.refuse.new.self c.take.new.self
    (take c.in-Ok.len c.take.new.into) c.requires.unclosed c.in-Ok.ensures.taken c.refuse.ensures.closed
    c.refuse.ensures.same.0

pub returns-in-Some-clause-taken : goal.returns-in-Some-clause-taken
returns-in-Some-clause-taken g c =
    let into = c.take.new.into in
    let len = c.in-Ok.len in
    let end = c.in-Some.end in
    let few : end ≤ len = omega (arith, c.in-Some.ensures.within, length-take-le len into c.in-Ok.ensures.fits) in
    λ rest h. closes g.S.Source.comes c.args.self.now.stage Closed c.args.self.now.source c.take.new.self
    (take end into)
    (drop end (take len into)) c.requires.unclosed refl
    (subst (λ (l : List ℕ). Took g.S.Source.comes c.args.self.now.source l c.take.new.self)
    (held_behind end len into few) c.in-Ok.ensures.taken) rest h

pub returns-in-Some-clause-passed : goal.returns-in-Some-clause-passed
returns-in-Some-clause-passed g c =
    let into = c.take.new.into in
    let len = c.in-Ok.len in
    let end = c.in-Some.end in
    let few : end ≤ len = omega (arith, c.in-Some.ensures.within, length-take-le len into c.in-Ok.ensures.fits) in
    let some : 0 < end = omega (arith, c.in-Some.end-test) in
    some_passed g.S.Source.comes c.args.self.now _ (length c.args.into.now) len end into c.own_end.result
    c.in-Ok.ensures.taken c.in-Ok.ensures.fits c.take.auto.into c.if-len-eq0.false c.own_end.ensures.end c.in-Some.is
    some few refl
