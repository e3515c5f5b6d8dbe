use Rattle.std.proofs.Common.{◌≡◌, ◌++◌, ◌∷◌, []}
use Rattle.std.proofs.lemmas.Result.{err_from_is_err_and}
use Rattle.std.proofs.lemmas.List.{map_push}
use Rattle.am_replica_entries.specs.Texts.{the_block, the_blocks}
use Rattle.am_replica_entries.specs.Reading.{blocks_at}
use Rattle.am_replica_entries.proofs.Loop.{goes_on, ends, is_done}
use Rattle.am_replica_entries.proofs.reading.blocks_of.Goals as goal

pub returns-in_err-block : goal.returns-in_err-block
returns-in_err-block c =
    let p = err_from_is_err_and c.from_residual.result c.from_residual.ensures.1 in
    rw (p.1, p.2) (ends (the_blocks c.loop.found.items) c.args.count c.loop.counter c.loop.rest.now
    (blocks_at c.args.count c.args.bytes.now) c.in_err-block.field-0.0 c.loop-test.true c.in_err-block.ensures
    c.loop.invariant)

pub loop-preserved : goal.loop-preserved
loop-preserved c =
    let b = c.in_ok-block.block in
    let e : the_blocks c.push.new.self.items ≡ the_blocks c.loop.found.items ++ the_block b ∷ [] =
    rw c.in_ok-push.ensures.items (map_push _ c.loop.found.items b) in
    rw e (goes_on (the_blocks c.loop.found.items) c.args.count c.loop.counter c.loop.rest.now
    (blocks_at c.args.count c.args.bytes.now) (the_block b) c.in_ok-block.after.now c.loop-test.true
    c.in_ok-block.ensures
    c.loop.invariant)

pub returns : goal.returns
returns c = is_done (the_blocks c.loop.found.items) c.args.count c.loop.counter c.loop.rest.now
    (blocks_at c.args.count c.args.bytes.now) c.loop-test.false c.loop.invariant
