use Rattle.std.proofs.Common.{◌≡◌, List, sym, subst, ◌∙◌}
use Rattle.am_store_locks.specs.OwnerLocks.{OwnerLocks}
use Rattle.am_law_effect.specs.MergeAnswers.{CleanRight, cleaned_by, all_worked_off}
use Rattle.am_store_merge.specs.LockHolders.{holder_of}
use Rattle.am_store.proofs.Merges.{says_bad_clean, says_clean, after_clean}
use Rattle.am_store.proofs.inner.Inner.clean.Goals as goal

pub returns-then-not-is_limit-clause-says : goal.returns-then-not-is_limit-clause-says
returns-then-not-is_limit-clause-says g c = let old = c.args.self.now in says_bad_clean old.most_runs old.parts old.txs
    old.wishes
    old.commits c.args.limit c.args.range (sym c.is_limit.ensures ∙ c.if-not-is_limit.true)

pub returns-clause-says : goal.returns-clause-says
returns-clause-says g c =
    let old = c.args.self.now in
    says_clean old.most_runs old.parts old.txs old.wishes old.commits c.args.limit c.args.range c.clean_step.result
    c.locks.ensures.consistent (sym c.is_limit.ensures ∙ c.if-not-is_limit.false)
    (subst (λ (table : List OwnerLocks). CleanRight old.parts.entries (holder_of table) c.args.range c.args.limit
    c.clean_step.result) c.locks.ensures.locks c.clean_step.ensures.reply)

pub returns-clause-after : goal.returns-clause-after
returns-clause-after g c =
    let old = c.args.self.now in
    let es = subst (λ (table : List OwnerLocks). c.clean_step.new.parts.entries ≡ all_worked_off
    (cleaned_by old.parts.entries (holder_of table) c.args.range c.clean_step.result) old.parts.entries)
    c.locks.ensures.locks c.clean_step.ensures.entries in
    after_clean old.most_runs old.parts old.txs old.wishes old.commits c.args.limit c.args.range c.clean_step.new.parts
    c.clean_step.result c.locks.ensures.consistent es c.clean_step.ensures.runs
