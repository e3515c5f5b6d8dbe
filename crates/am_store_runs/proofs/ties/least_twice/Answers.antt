use Rattle.std.proofs.Common.{sym, subst}
use Rattle.std.specs.Prelude.{List}
use Rattle.std.specs.List.Sorted.{IsPermutation}
use Rattle.am_record.specs.OrderedKey.{OrderedKey}
use Rattle.am_store_runs.specs.Cuts.{keys_of}
use Rattle.am_store_runs.proofs.Twice.{found_permuted}
use Rattle.am_store_runs.proofs.ties.least_twice.Goals as goal

pub returns : goal.returns
returns g c =
    let moved : IsPermutation (keys_of (g.S.RecordSource.records c.args.source.now)) c.deref.result.now =
    subst (λ (ks : List OrderedKey). IsPermutation ks c.deref.result.now) c.in_ok-keys.ensures
    (subst (IsPermutation c.in_ok-keys.keys.items) (sym c.deref.ensures.value)
    c.sort_unstable.ensures.permutation) in
    found_permuted c.first_tie.result (keys_of (g.S.RecordSource.records c.args.source.now)) c.deref.result.now moved
    c.first_tie.ensures
