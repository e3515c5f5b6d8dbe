use Rattle.std.proofs.Common.{◌≡◌, ◌<◌, ℕ, sym, ap, ◌∙◌, subst, arith}
use Rattle.std.proofs.lemmas.List.{get_or_default}
use Rattle.std.specs.Prelude.{IsSome}
use Rattle.am_index.specs.Entries.{find}
use Rattle.am_index_parts.specs.declared.catalog.OpenRun.{OpenRun}
use Rattle.am_index_parts.specs.Catalogs.{AreListed, IsRunAt, IsGapAt}
use Rattle.am_index_parts.proofs.ListedRuns.{is_listed, not_one, no_run_at_gap, run_gone, some_left, final_less}
use Rattle.am_index_parts.proofs.CatalogCalls.{less_at, has_alive}
use Rattle.am_index_parts.proofs.catalog.Catalog.take_from_part.Goals as goal

pub unreachable-requires : goal.unreachable-requires
unreachable-requires c =
    let gap = subst (λ l. IsGapAt l c.args.part c.in_default.field-0) c.deref.ensures.value
    c.in_default.ensures.absent in
    not_one c.args.part c.args.self.now.runs.items
    (no_run_at_gap c.args.part c.args.self.now.runs.items c.in_default.field-0 gap.below gap.above)
    (is_listed c.requires.counted.catalog.counted c.args.part c.requires.counted.key
    (omega (arith, c.if-part-eq0.false)) c.requires.counted.stands)

pub take-requires-clause-live : goal.take-requires-clause-live
take-requires-clause-live c = λ lives.
    let it = c.requires.counted in
    let at = subst (λ l. IsRunAt l c.args.part c.in-Ok.at) c.deref.ensures.value c.in-Ok.ensures.found in
    has_alive it.catalog.counted c.args.part c.in-Ok.at at c.index_mut.result.now c.index_mut.ensures.value it.key
    it.stands (it.mark ∙ lives)

pub returns-then-index-gt1-clause-listed : goal.returns-then-index-gt1-clause-listed
returns-then-index-gt1-clause-listed c =
    let at = subst (λ l. IsRunAt l c.args.part c.in-Ok.at) c.deref.ensures.value c.in-Ok.ensures.found in
    let old = c.index_mut.result.now in
    let same : old.left ≡ c.index.result.now.left =
    ap (λ (r : OpenRun). r.left) (c.index_mut.ensures.value ∙ get_or_default c.args.self.now.runs.items c.in-Ok.at
    old c.index.result.now at.in_range ∙ sym c.index.ensures) in
    let many : 1 < old.left = omega (arith, same, c.if-index-gt1.true) in
    less_at at old c.take.new.self c.index_mut.ensures.value c.args.self.now.in_final c.args.was_live
    c.if-part-eq0.false c.take.ensures (omega (arith, many, c.take.ensures.left))

pub returns-clause-listed : goal.returns-clause-listed
returns-clause-listed c = λ es key h stands mark.
    let at = subst (λ l. IsRunAt l c.args.part c.in-Ok.at) c.deref.ensures.value c.in-Ok.ensures.found in
    subst (AreListed _ _) (sym c.remove.ensures.items)
    (run_gone h c.args.part key stands (omega (arith, c.if-part-eq0.false)) c.in-Ok.at at c.index.result.now
    (omega (arith, ap (λ (r : OpenRun). r.left) c.index.ensures, c.if-index-gt1.false)))

pub overflow_sub-self : goal.overflow_sub-self
overflow_sub-self c =
    let it = c.requires.counted in
    let stands : IsSome (find it.entries 0 it.key) =
    subst (λ (p : ℕ). IsSome (find it.entries p it.key)) c.if-part-eq0.true it.stands in
    omega (arith, some_left it.catalog.counted 0 it.key stands, it.catalog.counted.counted)

pub returns-then-part-eq0-clause-listed : goal.returns-then-part-eq0-clause-listed
returns-then-part-eq0-clause-listed c = λ es key h stands mark. final_less h c.args.part key stands c.if-part-eq0.true
