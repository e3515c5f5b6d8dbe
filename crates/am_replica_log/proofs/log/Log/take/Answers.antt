use Rattle.std.proofs.Common.{◌≡◌, ◌≤◌, ◌==◌, ◌&&◌, ◌∷◌, true, arith, ap, sym, subst, ◌∙◌}
use Rattle.std.proofs.lemmas.Bool.{and_parts, eqb-true}
use Rattle.am_replica_log.specs.LogState.{LogState}
use Rattle.am_replica_log.specs.Readers.{IsAt}
use Rattle.am_replica_log.proofs.Standing.{floor_is_new, part_is_taken}
use Rattle.am_replica_log.proofs.log.Log.take.Goals as goal

pub returns-then-revision-self-clause-goes_on : goal.returns-then-revision-self-clause-goes_on
returns-then-revision-self-clause-goes_on c from before change low at told =
    let floors : c.self.inside.floor ≡ c.args.self.now.floor = ap (λ l. l.floor) c.self.view_is in
    let known : c.args.revision ≤ c.args.self.now.floor = omega arith in
    absurd (floor_is_new from c.args.self.now before at change c.args.revision c.args.event c.args.text.now
    c.in-Moved.floor told c.in-Moved.is known)

pub returns-in_ok-take_part-in-Put-clause-goes_on : goal.returns-in_ok-take_part-in-Put-clause-goes_on
returns-in_ok-take_part-in-Put-clause-goes_on c from before change low at told =
    let inside = c.self.inside in
    let put = c.in-Put in
    let log : LogState =
    record { floor = inside.floor; generation = inside.generation; pieces = inside.pieces.items } in
    let here : IsAt from log before = subst (λ (l : LogState). IsAt from l before) (sym c.self.view_is) at in
    let counted : ((put.generation == inside.generation) && put.is_new) ≡ true =
    sym c.counts.ensures ∙ c.if-not-counts.false in
    let parts = and_parts (put.generation == inside.generation) put.is_new counted in
    let is = part_is_taken from log before here change c.args.revision c.args.event c.args.text.now put.generation
    put.name put.part put.is_new low told put.is parts.1 (eqb-true put.generation inside.generation parts.0) in (
      subst (λ pieces. IsAt from (record log { pieces = pieces }) (change ∷ before))
          (sym c.in_ok-take_part-in-Put.ensures.kept) is.0,
      c.in_ok-take_part-in-Put.ensures.ended ∙ is.1,
    )
