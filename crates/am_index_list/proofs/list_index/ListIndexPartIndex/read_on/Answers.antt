use Rattle.std.proofs.Common.{ap, ◌∙◌, ◌++◌, ◌-◌, length, take, drop, eqb}
use Rattle.std.specs.List.{take_while}
use Rattle.am_index.proofs.Batches.{all_after_at}
use Rattle.am_index.proofs.Searches.{whole_rest}
use Rattle.am_index_list.proofs.list_index.ListIndexPartIndex.read_on.Goals as goal

pub returns-clause-read : goal.returns-clause-read
returns-clause-read c =
    let from = c.upper_bound-from.result in
    c.push_part.ensures ∙ ap (λ es. take 16 (c.args.batch.now ++ take_while (λ e. eqb e.part c.args.part)
    (take (length es - from) (drop from es)))) (c.deref.ensures.value ∙ c.self.view_is)
    ∙ ap (λ es. take 16 (c.args.batch.now ++ take_while (λ e. eqb e.part c.args.part) es))
    (whole_rest from c.args.self.now)
    ∙ ap (λ es. take 16 (c.args.batch.now ++ es)) (all_after_at c.args.part c.args.key c.args.self.now from
    c.upper_bound-from.ensures.bound c.upper_bound-from.ensures.rising)
