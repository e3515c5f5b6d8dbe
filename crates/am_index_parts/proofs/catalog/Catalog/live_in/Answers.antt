use Rattle.std.proofs.Common.{sym, subst}
use Rattle.am_index_parts.specs.Catalogs.{IsGapAt}
use Rattle.am_index_parts.proofs.CatalogCalls.{none_lives}
use Rattle.am_index_parts.proofs.catalog.Catalog.live_in.Goals as goal

pub returns-in-Err : goal.returns-in-Err
returns-in-Err c = λ es whole some.
    let gap = subst (λ l. IsGapAt l c.args.part c.in-Err.field-0) c.deref.ensures.value c.in-Err.ensures.absent in
    sym (none_lives whole.counted c.args.part c.in-Err.field-0 gap some)
