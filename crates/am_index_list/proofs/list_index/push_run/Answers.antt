use Rattle.std.proofs.Common.{◌≡◌, ◌<◌, ◌+◌, List, [], ◌∷◌, ◌++◌, length, take, sym, ap, ◌∙◌, add-one, arith}
use Rattle.std.proofs.lemmas.List.{get_or_default}
use Rattle.am_record.specs.declared.entry.Entry.{Entry}
use Rattle.am_index.specs.Runs.{live_entry, run_entries}
use Rattle.am_index.proofs.Runs.{one_more_pushed, pushed}
use Rattle.am_index_list.proofs.list_index.push_run.Goals as goal

pub loop-at-preserved : goal.loop-at-preserved
loop-at-preserved g c =
    let part = c.args.part in let es = c.args.items.now.items in
    let rs = g.S.RecordSource.records c.args.records.now in let at = c.loop-at.at in let r = c.get-key.result in
    let within : at < length rs = omega (arith, c.loop-at-test.true, c.len-at-end.ensures) in
    let more : (es ++ run_entries part (take at rs)) ++ live_entry part r ∷ [] ≡ es ++
    run_entries part (take (at + 1) rs) =
    rw add-one (one_more_pushed part es rs at r within (c.get-key.ensures ∙ get_or_default rs at _ r within)) in
    c.push.ensures.items
    ∙ pushed c.push.result _ _ (sym c.is_err.ensures.value ∙ c.if-is_err.false)
    ∙ ap (λ (l : List Entry). l ++ live_entry part r ∷ []) c.loop-at.invariant ∙ more
