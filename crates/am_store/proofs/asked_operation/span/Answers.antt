use Rattle.std.proofs.Common.{◌≡◌, ◌-◌, true, [], IsSome, Some, length, get_or, sym, ap, ◌∙◌, subst, arith}
use Rattle.std.specs.Prelude.{slice_get}
use Rattle.std.proofs.lemmas.Bool.{false≢true}
use Rattle.std.proofs.lemmas.Option.{slice_get-get_or}
use Rattle.am_record.specs.Asks.{span}
use Rattle.am_record.specs.Interval.{Interval, key_le}
use Rattle.am_record.specs.OrderedKey.{key_least}
use Rattle.am_record.specs.Plain.{Records, is_rising}
use Rattle.am_record.proofs.FirstRows.{Record}
use Rattle.am_record.proofs.RisingRecords.{run_some}
use Rattle.am_record.proofs.Spans.{ordered, spanned}
use Rattle.am_store.proofs.asked_operation.span.Given.{Over}
use Rattle.am_store.proofs.asked_operation.span.Goals as goal
use Rattle.am_store.proofs.asked_operation.span.Goals.{After-new}

module _ (rs : Records) (rising : is_rising rs ≡ true) where
  abbrev first : Record
  first = get_or rs 0 (key_least, [])

  abbrev last : Record
  last = get_or rs (length rs - 1) (key_least, [])

  is_first : Some first ≡ slice_get rs 0
  is_first = sym (slice_get-get_or rs 0 (key_least, []) (run_some rs rising))

  is_last : Some last ≡ slice_get rs (length rs - 1)
  is_last = sym (slice_get-get_or rs (length rs - 1) (key_least, []) (omega (arith, run_some rs rising)))

  in_order : key_le first.0 last.0 ≡ true
  in_order = ordered rs first last rising is_first is_last

  is_span : ◌≡◌ {A = Interval} (record { lo = first.0; hi = last.0 }) (span rs)
  is_span = spanned rs first last rising is_first is_last

-- the key that was read last
last_key_is : (g : Over) (c : After-new g) → c.key-2.result ≡
    (get_or (g.S.RecordSource.records c.args.records.now)
    (length (g.S.RecordSource.records c.args.records.now) - 1) (key_least, [])).0
last_key_is g c = c.key-2.ensures ∙
    ap (λ n. (get_or (g.S.RecordSource.records c.args.records.now) (n - 1) (key_least, [])).0) c.len.ensures

pub unreachable-requires : goal.unreachable-requires
unreachable-requires g c =
    let at = goal.at.unreachable-requires g c in
    let rs = g.S.RecordSource.records c.args.records.now in
    let le : key_le c.key.result c.key-2.result ≡ true =
    (λ i. key_le (c.key.ensures i) (last_key_is g at.After-new i)) ∙ in_order rs c.requires in
    false≢true (subst IsSome c.in_default.is (c.new.ensures.ordered.1 le))

pub returns : goal.returns
returns g c =
    let at = goal.at.returns g c in
    let rs = g.S.RecordSource.records c.args.records.now in
    c.in-Some.ensures.value ∙
    (λ i. record { lo = c.key.ensures i; hi = last_key_is g at.After-new i }) ∙ is_span rs c.requires
