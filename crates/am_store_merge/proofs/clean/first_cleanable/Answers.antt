use Rattle.std.proofs.Common.{◌∙◌}
use Rattle.am_store_merge.specs.LockHolders.{holder_of}
use Rattle.am_store_merge.proofs.CleanSteps.{inside, walk_ends, walk_finds, walk_goes_on, walk_stops, walk_goes_down}
use Rattle.am_store_merge.proofs.clean.first_cleanable.Goals as goal

pub returns-then-is_free : goal.returns-then-is_free
returns-then-is_free g c =
    walk_finds c.args.parts.now.entries (holder_of c.args.locks.now) c.args.range c.first_ghost.ensures.sound.rising
    c.loop-entry.from c.loop-entry.invariant c.in-Some.entry c.in-Some.ensures.first c.is_free.result
    c.is_free.ensures c.if-is_free.true

pub place_after-requires : goal.place_after-requires
place_after-requires g c =
    inside c.args.parts.now.entries (holder_of c.args.locks.now) c.args.range c.first_ghost.ensures.sound.rising
    c.loop-entry.from c.loop-entry.invariant c.in-Some.entry c.in-Some.ensures.first

pub returns-in_err-from : goal.returns-in_err-from
returns-in_err-from g c =
    c.from_residual.ensures
    ∙ walk_stops c.args.parts.now.entries (holder_of c.args.locks.now) c.args.range c.first_ghost.ensures.sound.rising
    c.loop-entry.from c.loop-entry.invariant c.in-Some.entry c.in-Some.ensures.first c.is_free.result
    c.is_free.ensures c.if-is_free.false
    c.in_err-from.ensures.none

pub loop-entry-smaller : goal.loop-entry-smaller
loop-entry-smaller g c =
    walk_goes_down c.args.parts.now.entries (holder_of c.args.locks.now) c.args.range c.first_ghost.ensures.sound.rising
    c.loop-entry.from c.loop-entry.invariant c.in-Some.entry c.in-Some.ensures.first c.in_ok-from.from
    c.in_ok-from.ensures.next

pub loop-entry-preserved : goal.loop-entry-preserved
loop-entry-preserved g c =
    walk_goes_on c.args.parts.now.entries (holder_of c.args.locks.now) c.args.range c.first_ghost.ensures.sound.rising
    c.loop-entry.from c.loop-entry.invariant c.in-Some.entry c.in-Some.ensures.first c.is_free.result
    c.is_free.ensures c.if-is_free.false
    c.in_ok-from.from c.in_ok-from.ensures.next

pub returns : goal.returns
returns g c =
    walk_ends c.args.parts.now.entries (holder_of c.args.locks.now) c.args.range c.first_ghost.ensures.sound.rising
    c.loop-entry.from c.loop-entry.invariant c.in_default.ensures.first
