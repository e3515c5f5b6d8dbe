use Rattle.std.proofs.Common.{◌+◌, ◌-◌, ◌++◌, drop, sym, subst, ◌∙◌}
use Rattle.am_record.specs.Plain.{Records}
use Rattle.am_index.specs.Entries.{IsRising}
use Rattle.am_index.specs.Runs.{run_entries}
use Rattle.am_index_btree.proofs.LeafFills.{front_rises}
use Rattle.am_index_btree.proofs.fill.fill_leaf.Goals as goal

pub append-added-requires-clause-rising : goal.append-added-requires-clause-rising
append-added-requires-clause-rising g c =
    let part = c.args.part in let es = c.args.leaf.now.entries in
    let left = drop c.args.from (g.S.RecordSource.records c.args.records.now) in
    subst (λ (rs : Records). IsRising (es ++ run_entries part rs)) (sym (c.records.ensures ∙ c.read.ensures))
    (front_rises part es left c.requires.rising (c.args.from + c.min-count.result - c.args.from))
