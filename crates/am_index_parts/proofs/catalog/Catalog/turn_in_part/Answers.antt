use Rattle.std.proofs.Common.{◌∙◌, subst, arith}
use Rattle.am_index_parts.specs.Catalogs.{IsRunAt, IsGapAt}
use Rattle.am_index_parts.proofs.ListedRuns.{is_listed, not_one, no_run_at_gap, final_set}
use Rattle.am_index_parts.proofs.CatalogCalls.{turned_at, has_alive, has_dead}
use Rattle.am_index_parts.proofs.catalog.Catalog.turn_in_part.Goals as goal

pub returns-then-part-eq0-clause-listed : goal.returns-then-part-eq0-clause-listed
returns-then-part-eq0-clause-listed c = λ es key value h there mark.
    final_set h c.args.part key value c.args.was_live there c.if-part-eq0.true

pub unreachable-requires : goal.unreachable-requires
unreachable-requires c =
    let gap = subst (λ l. IsGapAt l c.args.part c.in_default.field-0) c.deref.ensures.value
    c.in_default.ensures.absent in
    not_one c.args.part c.args.self.now.runs.items
    (no_run_at_gap c.args.part c.args.self.now.runs.items c.in_default.field-0 gap.below gap.above)
    (is_listed c.requires.catalog.counted c.args.part c.requires.key (omega (arith, c.if-part-eq0.false))
    c.requires.stands)

pub turn-requires-clause-live : goal.turn-requires-clause-live
turn-requires-clause-live c = λ lives.
    let it = c.requires in
    let at = subst (λ l. IsRunAt l c.args.part c.in-Ok.at) c.deref.ensures.value c.in-Ok.ensures.found in
    has_alive it.catalog.counted c.args.part c.in-Ok.at at c.index_mut.result.now c.index_mut.ensures.value it.key
    it.stands (it.mark ∙ lives)

pub turn-requires-clause-other : goal.turn-requires-clause-other
turn-requires-clause-other c = λ dead.
    let it = c.requires in
    let at = subst (λ l. IsRunAt l c.args.part c.in-Ok.at) c.deref.ensures.value c.in-Ok.ensures.found in
    has_dead it.catalog.counted c.args.part c.in-Ok.at at c.index_mut.result.now c.index_mut.ensures.value it.key
    it.stands (it.mark ∙ dead)

pub returns-clause-listed : goal.returns-clause-listed
returns-clause-listed c =
    let at = subst (λ l. IsRunAt l c.args.part c.in-Ok.at) c.deref.ensures.value c.in-Ok.ensures.found in
    turned_at at c.index_mut.result.now c.turn.new.self c.index_mut.ensures.value c.args.self.now.in_final
    c.args.was_live c.if-part-eq0.false c.turn.ensures
