use Rattle.std.proofs.Common.{List, sym, subst, ◌∙◌}
use Rattle.am_store_locks.specs.OwnerLocks.{OwnerLocks}
use Rattle.am_law_effect.specs.MergeAnswers.{MergeRight}
use Rattle.am_store_merge.specs.LockHolders.{holder_of}
use Rattle.am_store.proofs.Merges.{says_bad_merge, after_bad_merge, says_merge, after_merge}
use Rattle.am_store.proofs.inner.Inner.merge.Goals as goal

pub returns-then-not-is_limit-clause-says : goal.returns-then-not-is_limit-clause-says
returns-then-not-is_limit-clause-says g c = let old = c.args.self.now in says_bad_merge old.most_runs old.parts old.txs
    old.wishes
    old.commits c.args.limit (sym c.is_limit.ensures ∙ c.if-not-is_limit.true)

pub returns-then-not-is_limit-clause-after : goal.returns-then-not-is_limit-clause-after
returns-then-not-is_limit-clause-after g c = let old = c.args.self.now in after_bad_merge old.most_runs old.parts
    old.txs old.wishes
    old.commits c.args.limit

pub returns-clause-says : goal.returns-clause-says
returns-clause-says g c =
    let old = c.args.self.now in
    says_merge old.most_runs old.parts old.txs old.wishes old.commits c.args.limit c.merge_step.result
    c.locks.ensures.consistent
    (sym c.is_limit.ensures ∙ c.if-not-is_limit.false)
    (subst (λ (table : List OwnerLocks). MergeRight old.parts.entries old.wishes (holder_of table) c.args.limit
    c.merge_step.result) c.locks.ensures.locks c.merge_step.ensures.reply)

pub returns-clause-after : goal.returns-clause-after
returns-clause-after g c =
    let old = c.args.self.now in
    after_merge old.most_runs old.parts old.txs old.wishes old.commits c.args.limit c.merge_step.new.parts
    c.merge_step.new.wishes
    c.merge_step.result c.merge_step.ensures.entries c.merge_step.ensures.wishes c.merge_step.ensures.runs
