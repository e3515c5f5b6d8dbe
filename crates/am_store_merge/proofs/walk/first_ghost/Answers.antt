use Rattle.std.proofs.Common.{true, false, refl, sym, ◌∙◌, arith}
use Rattle.am_record.specs.Interval.{key_le-itself}
use Rattle.am_store_merge.proofs.Walks.{tells_from, ghosts_end, ghost_is_in, ghost_below, ghost_above, ghost_goes_down}
use Rattle.am_store_merge.proofs.Walks.{ghost_past_down, ghost_past_all}
use Rattle.am_store_merge.proofs.walk.first_ghost.Goals as goal

pub loop-entry-init : goal.loop-entry-init
loop-entry-init g c = record { in_range = c.requires; same = refl }

pub returns-then-contains-clause-first : goal.returns-then-contains-clause-first
returns-then-contains-clause-first g c =
    ghost_is_in c.args.parts.now.entries c.next_ghost.ensures.sound.rising c.args.range c.loop-entry.part
    c.loop-entry.key c.loop-entry.invariant.in_range c.in-Some.entry c.in-Some.ensures.found
    (sym c.contains.ensures ∙ c.if-contains.true)
    ∙ c.loop-entry.invariant.same

pub returns-in_err-part-clause-first : goal.returns-in_err-part-clause-first
returns-in_err-part-clause-first g c =
    c.from_residual.ensures
    ∙ ghost_past_all c.args.parts.now.entries c.next_ghost.ensures.sound c.args.range c.loop-entry.part c.loop-entry.key
    c.loop-entry.invariant.in_range c.in-Some.entry c.in-Some.ensures.found
    (sym c.contains.ensures ∙ c.if-contains.false)
    (tells_from c.args.range c.in-Some.entry.key c.lo-key.result c.lt.result false c.lo-key.ensures.value c.lt.ensures
    c.if-lt.false) (omega (arith, c.in_err-part.ensures))
    ∙ c.loop-entry.invariant.same

pub loop-entry-smaller-then-lt : goal.loop-entry-smaller-then-lt
loop-entry-smaller-then-lt g c =
    ghost_goes_down c.args.parts.now.entries c.next_ghost.ensures.sound c.args.range c.loop-entry.part c.loop-entry.key
    c.loop-entry.invariant.in_range c.in-Some.entry c.in-Some.ensures.found
    (tells_from c.args.range c.in-Some.entry.key c.lo-key.result c.lt.result true c.lo-key.ensures.value c.lt.ensures
    c.if-lt.true)

pub loop-entry-preserved-then-lt : goal.loop-entry-preserved-then-lt
loop-entry-preserved-then-lt g c =
    let below = tells_from c.args.range c.in-Some.entry.key c.lo-key.result c.lt.result true c.lo-key.ensures.value
    c.lt.ensures c.if-lt.true in
    rw c.lo-key.ensures.value (record {
      in_range = key_le-itself c.args.range.lo;
      same = ghost_below c.args.parts.now.entries c.next_ghost.ensures.sound.rising c.args.range c.loop-entry.part
          c.loop-entry.key c.loop-entry.invariant.in_range c.in-Some.entry c.in-Some.ensures.found below ∙
          c.loop-entry.invariant.same;
    })

pub loop-entry-smaller : goal.loop-entry-smaller
loop-entry-smaller g c =
    rw c.in_ok-part.ensures.1 (ghost_past_down c.args.parts.now.entries c.next_ghost.ensures.sound c.args.range
    c.loop-entry.part c.loop-entry.key c.loop-entry.invariant.in_range c.in-Some.entry c.in-Some.ensures.found)

pub loop-entry-preserved : goal.loop-entry-preserved
loop-entry-preserved g c =
    let not_below = tells_from c.args.range c.in-Some.entry.key c.lo-key.result c.lt.result false c.lo-key.ensures.value
    c.lt.ensures c.if-lt.false in
    rw (c.in_ok-part.ensures.1, c.lo-key.ensures.value) (record {
      in_range = key_le-itself c.args.range.lo;
      same = ghost_above c.args.parts.now.entries c.next_ghost.ensures.sound.rising c.args.range c.loop-entry.part
          c.loop-entry.key c.loop-entry.invariant.in_range c.in-Some.entry c.in-Some.ensures.found
          (sym c.contains.ensures ∙ c.if-contains.false) not_below ∙ c.loop-entry.invariant.same;
    })

pub returns-clause-first : goal.returns-clause-first
returns-clause-first g c = ghosts_end c.args.parts.now.entries c.next_ghost.ensures.sound.rising c.args.range
    c.loop-entry.part c.loop-entry.key c.loop-entry.invariant.in_range c.in_default.ensures.found ∙
    c.loop-entry.invariant.same
