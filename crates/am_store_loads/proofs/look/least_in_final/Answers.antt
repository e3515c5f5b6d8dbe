use Rattle.std.proofs.Common.{ℕ, sym, subst}
use Rattle.std.specs.Prelude.{MatchOption}
use Rattle.am_index_parts.specs.Partitions.{NoneLiveIn}
use Rattle.am_store_loads.specs.Looks.{IsLeastLiveIn}
use Rattle.am_store_loads.proofs.LeastLive.{empty_final, first_of_final, from_first}
use Rattle.am_store_loads.proofs.look.least_in_final.Goals as goal

pub returns-in_err-first-clause-found : goal.returns-in_err-first-clause-found
returns-in_err-first-clause-found g c =
    rw c.from_residual.ensures (empty_final c.next_from.ensures.sound (g.S.RecordSource.records c.args.records.now)
    c.key.result c.key.ensures c.requires (sym c.in_err-first.ensures.found))

pub least_live_in-requires-clause-first : goal.least_live_in-requires-clause-first
least_live_in-requires-clause-first g c =
    let next = sym c.in_ok-first.ensures.found in
    from_first c.args.parts.now.entries (g.S.RecordSource.records c.args.records.now) c.key.result
    c.in_ok-first.first c.key.ensures
    (first_of_final c.next_from.ensures.sound c.key.result c.in_ok-first.first next) next

pub returns-clause-found : goal.returns-clause-found
returns-clause-found g c =
    let rs = g.S.RecordSource.records c.args.records.now in
    let final = first_of_final c.next_from.ensures.sound c.key.result c.in_ok-first.first
    (sym c.in_ok-first.ensures.found) in
    subst (λ (p : ℕ). MatchOption c.least_live_in.result (NoneLiveIn c.args.parts.now.entries p rs)
    (IsLeastLiveIn c.args.parts.now.entries p rs)) final c.least_live_in.ensures
