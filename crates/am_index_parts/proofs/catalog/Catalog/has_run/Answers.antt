use Rattle.std.proofs.Common.{List, ap, ◌∙◌}
use Rattle.am_index_parts.specs.declared.catalog.OpenRun.{OpenRun}
use Rattle.am_index_parts.specs.Catalogs.{parts_of, is_one_of}
use Rattle.am_index_parts.proofs.CatalogCalls.{is_listed_as}
use Rattle.am_index_parts.proofs.catalog.Catalog.has_run.Goals as goal

pub returns : goal.returns
returns c =
    c.is_ok.ensures.value ∙
    is_listed_as c.deref.result.now c.args.part c.search.result c.search.ensures.found c.search.ensures.absent ∙
    ap (λ (l : List OpenRun). is_one_of (parts_of l) c.args.part) c.deref.ensures.value
