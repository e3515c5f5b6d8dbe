use Rattle.std.proofs.Common.{◌≡◌, ◌<◌, ◌≤◌, ℕ, List, [], length, take, vec_capacity, ap, sym, ◌∙◌, arith}
use Rattle.std.proofs.lemmas.Bool.{eqb-true, eqb-false}
use Rattle.std.proofs.lemmas.List.{get_or_default}
use Rattle.am_record.specs.KeyFront.{key_front}
use Rattle.am_record.specs.OrderedKey.{OrderedKey, key_least}
use Rattle.am_index.specs.Content.{rows_in}
use Rattle.am_store_scan.specs.Directions.{as_read}
use Rattle.am_store_scan.proofs.HeadMoves.{begins_at, begins_past}
use Rattle.am_store_scan.proofs.head.Head.first.Goals as goal

pub returns-then-is_empty-clause-none : goal.returns-then-is_empty-clause-none
returns-then-is_empty-clause-none g c =
    let back = g.D.Direction.is_back in
    let rows = c.read_rows-is_all.new.rows in
    let all = as_read back (rows_in c.args.parts.now.entries c.args.part c.args.range) in
    let read : rows.items ≡ take c.args.room all =
    c.read_rows-is_all.ensures.rows ∙ ap (λ n. take n all) c.in_ok-rows.ensures.exact in
    let none = eqb-true rows.len 0 (sym c.is_empty.ensures ∙ c.if-is_empty.true) in
    begins_past back (λ p r. c.rows_follow.ensures.reads c.args.parts.now.entries p r c.requires.rising) c.args.part
    c.args.range c.args.room rows.items c.requires.room read (omega (arith, none, rows.ok.0))

pub invariant_of-result : goal.invariant_of-result
invariant_of-result g c =
    let rows = c.read_rows-is_all.new.rows in
    let full = eqb-false rows.len 0 (sym c.is_empty.ensures ∙ c.if-is_empty.false) in
    let some : 0 < length rows.items = omega (arith, full, rows.ok.0) in
    let room : 2 ≤ vec_capacity rows = omega (
      arith,
      c.requires.room,
      c.in_ok-rows.ensures.exact,
      c.read_rows-is_all.ensures.room,
    ) in
    let row = c.index.ensures ∙ get_or_default rows.items 0 c.index.result.now (key_least, []) some in
    (some, room, c.front.ensures ∙ ap (λ (r : OrderedKey × List ℕ). key_front r.0) row)

pub returns-clause-some : goal.returns-clause-some
returns-clause-some g c =
    let back = g.D.Direction.is_back in
    let es = c.args.parts.now.entries in
    let rows = c.read_rows-is_all.new.rows in
    let all = as_read back (rows_in es c.args.part c.args.range) in
    let read : rows.items ≡ take c.args.room all =
    c.read_rows-is_all.ensures.rows ∙ ap (λ n. take n all) c.in_ok-rows.ensures.exact in
    begins_at back (λ p r. c.rows_follow.ensures.reads es p r c.requires.rising) c.args.part c.args.range c.args.room
    rows.items c.read_rows-is_all.result c.requires.room read
    (λ none. eqb-false rows.len 0 (sym c.is_empty.ensures ∙ c.if-is_empty.false) (omega (arith, none, rows.ok.0)))
    (λ short. let less = c.read_rows-is_all.ensures.all.0 short in omega (arith, less, c.in_ok-rows.ensures.exact))
