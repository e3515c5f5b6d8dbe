use Rattle.std.proofs.Common.{◌≡◌, ◌<◌, List, length, get_or, subst}
use Rattle.am_index_parts.specs.declared.run_filters.Generation.{Generation}
use Rattle.am_index_parts.proofs.MeetingRuns.{one_generation_more}
use Rattle.am_index_parts.proofs.run_filters.RunFilters.add_runs.Goals as goal

pub loop-generation-preserved : goal.loop-generation-preserved
loop-generation-preserved c =
    let gs : List Generation = c.args.self.now.generations.items in
    let at = c.loop-generation.generation-index in
    let g = c.generation-item.result in
    one_generation_more gs c.args.parts.now.items c.loop-generation.parts.items c.add_runs.new.parts.items at g
    (subst (λ (l : List Generation). at < length l) c.deref-generation-items.ensures.value c.loop-generation-test.true)
    (subst (λ (l : List Generation). g ≡ get_or l at g) c.deref-generation-items.ensures.value c.generation-item.is)
    c.add_runs.ensures.kept
    c.in_ok-add_runs.ensures.added c.loop-generation.invariant
