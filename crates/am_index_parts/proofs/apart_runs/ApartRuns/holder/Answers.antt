use Rattle.std.proofs.Common.{◌≡◌, Some, true, get_or, sym, ap, subst}
use Rattle.am_record.specs.Interval.{Interval, meets}
use Rattle.am_index_parts.specs.declared.apart_runs.ApartRun.{ApartRun}
use Rattle.am_index_parts.specs.ApartRuns.{StandsApart, NoneMeets}
use Rattle.am_index_parts.proofs.ApartRuns.{stands_at, stands_nowhere, only_one}
use Rattle.am_index_parts.proofs.apart_runs.ApartRuns.holder.Goals as goal
use Rattle.am_index_parts.proofs.apart_runs.ApartRuns.holder.Goals.{After-index}

held : (c : After-index) → StandsApart c.args.self.now.list.items c.index.result.now.part c.args.key
held c =
    let run : ApartRun = c.index.result.now in
    let met = c.in_ok-at.ensures.met in
    subst (λ (p : ApartRun). StandsApart c.args.self.now.list.items p.part c.args.key) (sym c.index.ensures)
    (stands_at c.args.self.now.list.items c.args.key c.in_ok-at.at run met.0
    (subst (λ (r : Interval). meets (get_or c.args.self.now.list.items c.in_ok-at.at run).range r ≡ true)
    c.point.ensures (met.1 run)))

pub returns-clause-held : goal.returns-clause-held
returns-clause-held c = held c

pub returns-clause-only : goal.returns-clause-only
returns-clause-only c = λ part it. ap (λ p. Some p)
    (only_one c.args.self.now.list.items c.index.result.now.part part c.args.key c.requires (held c) it)

pub returns-in_err-at-clause-only : goal.returns-in_err-at-clause-only
returns-in_err-at-clause-only c = λ part it. absurd (stands_nowhere c.args.self.now.list.items part c.args.key
    (subst (NoneMeets c.args.self.now.list.items) c.point.ensures c.in_err-at.ensures.none) it)
