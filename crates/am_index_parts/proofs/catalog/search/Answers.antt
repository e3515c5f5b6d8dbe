use Rattle.std.proofs.Common.{◌<◌, ◌≤◌, ℕ, take, drop, ◌∙◌, ap, subst}
use Rattle.std.specs.List.{AllByRecursion}
use Rattle.std.proofs.lemmas.List.{get_or_default}
use Rattle.am_index_parts.specs.declared.catalog.OpenRun.{OpenRun}
use Rattle.am_index_parts.proofs.CatalogCalls.{strictly}
use Rattle.am_index_parts.proofs.catalog.search.Goals as goal

pub returns-in_default-clause-absent : goal.returns-in_default-clause-absent
returns-in_default-clause-absent c = record {
  in_range = c.count_below-at.ensures.in_range;
  below = subst (λ (p : ℕ). AllByRecursion (λ (r : OpenRun). r.part < p) (take c.count_below-at.result c.args.runs.now))
      c.from.ensures c.count_below-at.ensures.below;
  above = strictly c.args.part c.args.runs.now c.count_below-at.result c.requires
      (subst (λ (p : ℕ). AllByRecursion (λ (r : OpenRun). p ≤ r.part) (drop c.count_below-at.result c.args.runs.now))
      c.from.ensures c.count_below-at.ensures.others) (λ d lt same.
      c.if-run-part.false (ap (λ (r : OpenRun). r.part)
      (c.in-Some.ensures.lookup.1 ∙ get_or_default c.args.runs.now c.count_below-at.result c.in-Some.run'.now d
      lt) ∙ same));
}
