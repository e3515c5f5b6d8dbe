use Rattle.std.proofs.Common.{◌++◌, sym, ap, ◌∙◌}
use Rattle.std.proofs.lemmas.List.{append-nil}
use Rattle.std.specs.FinMap as map
use Rattle.am_record_model.specs.Slots.{live, records_of_cells}
use Rattle.am_record_model.proofs.OrderedRanges.{all_rows}
use Rattle.am_record_model.proofs.sorted_records.SortedRecords.all.Goals as goal

pub returns : goal.returns
returns c =
    let rows = c.loop-key.rows.items in
    let es = c.self.inside.by_key.entries in
    sym (append-nil rows)
    ∙ ap (λ xs. rows ++ xs) (sym (ap records_of_cells c.in-None.ensures.steps.0))
    ∙ c.loop-key.invariant.listed
    ∙ ap records_of_cells (c.into_iter-key-iterator.ensures.into_iter_gives ∙ c.iter-key-items.ensures.rest)
    ∙ all_rows es c.iter-key-items.ensures.ordered
    ∙ ap (λ m. map.entries (live m)) c.self.view_is
