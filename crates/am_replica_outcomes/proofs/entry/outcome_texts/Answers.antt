use Rattle.std.proofs.Common.{◌∷◌, ◌++◌, ◌∙◌, ℕ, List, ap, sym, subst}
use Rattle.am_replica.specs.Ordered.{verdict, verdicts}
use Rattle.am_replica_entries.specs.Texts.{the_block, the_blocks}
use Rattle.am_replica_outcomes.specs.Entries.{told_to_all}
use Rattle.am_replica_outcomes.proofs.Entries.{IsLeft, none_left, none_came, one_told}
use Rattle.am_replica_outcomes.proofs.entry.outcome_texts.Goals as goal

pub loop-block-preserved : goal.loop-block-preserved
loop-block-preserved c lines asks =
    let more = verdicts c.in-Some-split_first.rest.now in
    let others = the_blocks c.in-Some.others.now in
    let whole = told_to_all (the_blocks c.args.entry.now) lines (verdicts c.args.outcomes.now) in
    subst (λ (text : List ℕ). IsLeft others more text whole)
    (ap (λ (text : List ℕ). c.loop-block.text.items ++ text) (sym c.deref.ensures.value)
    ∙ sym c.in_ok-extend_from_slice.ensures.items)
    (one_told (the_block c.in-Some.block.now) others (verdict c.in-Some-split_first.outcome.now) more
    c.loop-block.text.items c.in_ok-outcome_text.field-0.items _ c.in_ok-outcome_text.ensures
    (subst (λ blocks. IsLeft (the_blocks blocks) (verdict c.in-Some-split_first.outcome.now ∷ more)
    c.loop-block.text.items whole) c.in-Some.ensures.cases.0
    (subst (λ ends. IsLeft (the_blocks c.loop-block.blocks.now) (verdicts ends) c.loop-block.text.items whole)
    c.in-Some-split_first.ensures.cases.0 (c.loop-block.invariant lines asks))))

pub returns-in_default : goal.returns-in_default
returns-in_default c lines asks =
    none_left c.loop-block.blocks.now (verdicts c.loop-block.left.now) c.loop-block.text.items _
    c.in_default.ensures.cases (c.loop-block.invariant lines asks)

pub returns-in_default-split_first : goal.returns-in_default-split_first
returns-in_default-split_first c lines asks =
    none_came (the_blocks c.loop-block.blocks.now) c.loop-block.left.now c.loop-block.text.items _
    c.in_default-split_first.ensures.cases (c.loop-block.invariant lines asks)
