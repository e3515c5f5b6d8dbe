use Rattle.std.proofs.Common.{◌≡◌, inl, inr, take, sym, ap, ◌∙◌}
use Rattle.std.specs.declared.ops.Bound.TheVariants.{Included}
use Rattle.std.specs.BTreeMap.Range.{entries_between}
use Rattle.std.specs.Range.{range_inclusive_end}
use Rattle.am_record.specs.OrderedKey.{key_cmp}
use Rattle.am_record.specs.Interval.{within}
use Rattle.am_record.specs.Plain.{rows_where}
use Rattle.am_record_model.specs.Slots.{live, records_of_cells}
use Rattle.am_record_model.proofs.OrderedRanges.{between_rows, first_rows}
use Rattle.am_record_model.proofs.sorted_records.SortedRecords.rows.Goals as goal
use Rattle.am_record_model.proofs.sorted_records.SortedRecords.rows.Goals.{in-None, in-Some+then-len-max}

pub returns : goal.returns
returns c =
    let all = c.into_iter-key-iterator.result in
    let es = c.self.inside.by_key.entries in
    let lo = c.new.ensures.start ∙ c.lo.ensures.value in
    let hi = c.new.ensures.end ∙ c.hi.ensures.value in
    let whole : records_of_cells all ≡ rows_where (within c.args.range) (live c.args.self.now) =
    ap records_of_cells (c.into_iter-key-iterator.ensures.into_iter_gives ∙
    c.range-key-items.ensures.between c.new.ensures.exhausted
    ∙ ap (λ k. entries_between key_cmp (Included k) (Included (range_inclusive_end c.new.result)) es) lo
    ∙ ap (λ k. entries_between key_cmp (Included c.args.range.lo) (Included k) es) hi)
    ∙ between_rows es c.args.range c.range-key-items.ensures.ordered
    ∙ ap (λ m. rows_where (within c.args.range) (live m)) c.self.view_is in
    first_rows (records_of_cells all) c.loop-key.rows.items (records_of_cells c.loop-key.key-iterator) c.args.max
    c.loop-key.invariant.listed c.loop-key.invariant.few
    (elim c.match-next.branch [
      | in-None w ↦ inl (ap records_of_cells (w.in-None.ensures.steps.0))
      | in-Some+then-len-max w ↦ inr (sym c.loop-key.rows.ok.0 ∙ sym w.len.ensures ∙ w.if-len-max.true)
    ])
    ∙ ap (take c.args.max) whole
