use Rattle.std.proofs.Common.{◌+◌, ◌<◌, ◌∷◌, [], ◌++◌, take, length, arith, sym, subst, Err, ap, ◌∙◌}
use Rattle.std.proofs.lemmas.Result.{err_from_is_err_and}
use Rattle.am_replica_entries.specs.Texts.{the_block, the_blocks}
use Rattle.am_replica_texts.specs.Entries.{AreBlocksOf}
use Rattle.am_replica_texts.proofs.Entries.{blocks_push, none_at, one_more_view, err_is_one, at_most}
use Rattle.am_replica_texts.proofs.blocks.read_blocks.Goals as goal

pub returns-in_err-one_block-clause-none : goal.returns-in_err-one_block-clause-none
returns-in_err-one_block-clause-none g c is blocks of =
    let returned = err_from_is_err_and c.from_residual-in_err-one_block.result
    c.from_residual-in_err-one_block.ensures.1 in
    let inside : c.loop-block.block-index < length c.args.entry.now = omega arith in
    none_at g.D.Digest.digest_of c.args.entry.now c.loop-block.block-index c.block-item.result inside c.block-item.is
    (c.one_block.ensures.none (c.in_err-one_block.was ∙ ap Err (sym returned.2
    ∙ err_is_one (sym returned.1 ∙ is)))) blocks of

pub loop-block-preserved : goal.loop-block-preserved
loop-block-preserved g c =
    let inside : c.loop-block.block-index < length c.args.entry.now = omega arith in
    let digest = g.D.Digest.digest_of in
    subst (λ built. AreBlocksOf digest (the_blocks (take (c.loop-block.block-index + 1) c.args.entry.now)) built)
    (sym c.in_ok-push.ensures.items)
    (subst (λ entry. AreBlocksOf digest entry (c.loop-block.blocks.items ++ c.in_ok-one_block.field-0 ∷ []))
    (sym (one_more_view c.args.entry.now c.loop-block.block-index c.block-item.result inside c.block-item.is))
    (blocks_push digest (the_blocks (take c.loop-block.block-index c.args.entry.now)) c.loop-block.blocks.items
    (the_block c.block-item.result) c.in_ok-one_block.field-0 c.loop-block.invariant c.in_ok-one_block.ensures.read))

pub returns-clause-few : goal.returns-clause-few
returns-clause-few g c =
    let most = at_most g.D.Digest.digest_of c.loop-block.block-index c.args.entry.now c.loop-block.blocks.items
    c.loop-block.invariant in
    omega (arith, most, c.requires)
