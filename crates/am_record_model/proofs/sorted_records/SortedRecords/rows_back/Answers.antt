use Rattle.std.proofs.Common.{◌≡◌, ◌∷◌, ◌++◌, [], inl, inr, take, reverse, sym, ap, ◌∙◌, rules}
use Rattle.std.specs.declared.ops.Bound.TheVariants.{Included}
use Rattle.std.specs.BTreeMap.Range.{entries_between}
use Rattle.std.specs.Range.{range_inclusive_end}
use Rattle.am_record.specs.OrderedKey.{key_cmp}
use Rattle.am_record.specs.Interval.{within}
use Rattle.am_record.specs.Plain.{rows_where}
use Rattle.am_record_model.specs.Slots.{Cell, live, records_of_cells}
use Rattle.am_record_model.proofs.OrderedRanges.{between_rows, first_rows, listed_back, passed_back}
use Rattle.am_record_model.proofs.sorted_records.SortedRecords.rows_back.Goals as goal
use Rattle.am_record_model.proofs.sorted_records.SortedRecords.rows_back.Goals.{in-None, in-Some+then-len-max}

pub loop-key-preserved-in-Continue-1 : goal.loop-key-preserved-in-Continue-1
loop-key-preserved-in-Continue-1 c = record {
  listed = ap (λ xs. xs ++ reverse (records_of_cells c.next.new.self.iter)) c.in_ok-push.ensures.items ∙
      listed_back c.loop-key.rows.items _ c.loop-key.key-iterator.iter c.next.new.self.iter c.in-Some.key.now
      c.loop-key.invariant.listed c.in-Some-slot.value
      (c.in-Some.ensures.steps ∙ ap (λ (s : Cell). c.next.new.self.iter ++ (c.in-Some.key.now, s) ∷ [])
      c.in-Some-slot.is);
  few = search rules;
}

pub loop-key-preserved : goal.loop-key-preserved
loop-key-preserved c = record {
  listed = passed_back c.loop-key.rows.items _ c.loop-key.key-iterator.iter c.next.new.self.iter c.in-Some.key.now
      c.loop-key.invariant.listed
      (c.in-Some.ensures.steps ∙ ap (λ (s : Cell). c.next.new.self.iter ++ (c.in-Some.key.now, s) ∷ [])
      c.in_default.is);
  few = c.loop-key.invariant.few;
}

pub returns : goal.returns
returns c =
    let all = c.into_iter-key-iterator.result.iter in
    let es = c.self.inside.by_key.entries in
    let lo = c.new.ensures.start ∙ c.lo.ensures.value in
    let hi = c.new.ensures.end ∙ c.hi.ensures.value in
    let whole : records_of_cells all ≡ rows_where (within c.args.range) (live c.args.self.now) =
    ap records_of_cells (ap (λ r. r.iter) c.into_iter-key-iterator.ensures.into_iter_gives ∙
    c.rev-key-items.ensures.source ∙
    c.range.ensures.between c.new.ensures.exhausted
    ∙ ap (λ k. entries_between key_cmp (Included k) (Included (range_inclusive_end c.new.result)) es) lo
    ∙ ap (λ k. entries_between key_cmp (Included c.args.range.lo) (Included k) es) hi)
    ∙ between_rows es c.args.range c.range.ensures.ordered
    ∙ ap (λ m. rows_where (within c.args.range) (live m)) c.self.view_is in
    first_rows (reverse (records_of_cells all)) c.loop-key.rows.items
    (reverse (records_of_cells c.loop-key.key-iterator.iter)) c.args.max
    c.loop-key.invariant.listed c.loop-key.invariant.few
    (elim c.match-next.branch [
      | in-None w ↦ inl (ap (λ es. reverse (records_of_cells es)) (w.in-None.ensures.steps.0))
      | in-Some+then-len-max w ↦ inr (sym c.loop-key.rows.ok.0 ∙ sym w.len.ensures ∙ w.if-len-max.true)
    ])
    ∙ ap (λ rows. take c.args.max (reverse rows)) whole
