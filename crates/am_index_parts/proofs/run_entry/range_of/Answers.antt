use Rattle.std.proofs.Common.{◌≡◌, ◌-◌, ℕ, [], length, get_or, ap, ◌∙◌}
use Rattle.std.proofs.lemmas.Bool.{false≢true}
use Rattle.am_record.specs.Interval.{key_le}
use Rattle.am_record.specs.OrderedKey.{key_least}
use Rattle.am_record.proofs.FirstRows.{Record}
use Rattle.am_index_parts.proofs.RecordRanges.{ends_in_order, range_between}
use Rattle.am_index_parts.proofs.run_entry.range_of.Goals as goal

pub unreachable-requires : goal.unreachable-requires
unreachable-requires g c =
    let rs = g.S.RecordSource.records c.args.records.now in
    let d : Record = (key_least, []) in
    let hi : c.key-hi.result ≡ (get_or rs (length rs - 1) d).0 = c.key-hi.ensures ∙
    ap (λ (n : ℕ). (get_or rs (n - 1) d).0) c.len.ensures in
    false≢true (c.in-None.ensures.ordered.1
    ((λ i. key_le (c.key-lo.ensures i) (hi i)) ∙ ends_in_order rs d c.requires))

pub returns : goal.returns
returns g c =
    let rs = g.S.RecordSource.records c.args.records.now in
    let d : Record = (key_least, []) in
    let hi : c.key-hi.result ≡ (get_or rs (length rs - 1) d).0 = c.key-hi.ensures ∙
    ap (λ (n : ℕ). (get_or rs (n - 1) d).0) c.len.ensures in
    range_between rs d c.in-Some.range c.requires
    (c.in-Some.ensures.value ∙ (λ i. record { lo = c.key-lo.ensures i; hi = hi i }))
