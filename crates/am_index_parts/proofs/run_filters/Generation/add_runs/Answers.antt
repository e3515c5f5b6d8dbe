use Rattle.std.proofs.Common.{◌≡◌, ◌<◌, List, length, get_or, subst}
use Rattle.am_index_parts.specs.declared.run_filters.RunFilter.{RunFilter}
use Rattle.am_index_parts.proofs.MeetingRuns.{one_filter_more}
use Rattle.am_index_parts.proofs.run_filters.Generation.add_runs.Goals as goal

pub loop-run-preserved : goal.loop-run-preserved
loop-run-preserved c =
    let fs : List RunFilter = c.args.self.now.runs.items in
    let at = c.loop-run.run-index in
    let f = c.run-item.result in
    one_filter_more fs c.args.parts.now.items c.loop-run.parts.items c.push.new.self.items at f
    (subst (λ (l : List RunFilter). at < length l) c.deref-run-items.ensures.value c.loop-run-test.true)
    (subst (λ (l : List RunFilter). f ≡ get_or l at f) c.deref-run-items.ensures.value c.run-item.is)
    c.in_ok-push.ensures.items c.loop-run.invariant
