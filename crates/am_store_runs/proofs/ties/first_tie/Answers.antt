use Rattle.std.proofs.Common.{sym, ◌∙◌}
use Rattle.am_store_runs.proofs.Twice.{all_left, tie_of, walk_of, walked}
use Rattle.am_store_runs.proofs.ties.first_tie.Goals as goal

pub loop-left-init : goal.loop-left-init
loop-left-init c = all_left c.args.keys.now c.requires

pub returns-then-eq : goal.returns-then-eq
returns-then-eq c = tie_of c.args.keys.now c.loop-left.left.now c.key-item.result c.next-item.result
    c.loop-left.invariant c.in-len2-up.len_at_least c.key-item.is c.next-item.is (sym c.eq.ensures ∙ c.if-eq.true)

pub loop-left-preserved : goal.loop-left-preserved
loop-left-preserved c = walk_of c.args.keys.now c.loop-left.left.now c.key-item.result c.next-item.result
    c.loop-left.invariant c.in-len2-up.len_at_least c.key-item.is c.next-item.is (sym c.eq.ensures ∙ c.if-eq.false)

pub returns : goal.returns
returns c = walked c.args.keys.now c.loop-left.left.now c.loop-left.invariant c.in_default.len_below
