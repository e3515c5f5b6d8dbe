use Rattle.std.proofs.Common.{◌≡◌, ◌++◌, ℕ, List, [], ◌∷◌, take, Option, sym, ap, ◌∙◌, subst, arith}
use Rattle.std.proofs.lemmas.Bool.{eqb-true}
use Rattle.std.specs.List.{cons_option}
use Rattle.std.specs.BinaryHeap.{heap_items, heap_len}
use Rattle.am_record.specs.Interval.{Interval}
use Rattle.am_record.specs.Plain.{Records}
use Rattle.am_index.specs.Content.{content, rows_in}
use Rattle.am_store_scan.specs.Directions.{as_read}
use Rattle.am_store_scan.specs.Heads.{Stand}
use Rattle.am_store_scan.specs.Cursors.{AreAhead, rows_ahead}
use Rattle.am_store_scan.proofs.TakenRows.{no_length}
use Rattle.am_store_scan.proofs.FirstRecords.{alone_rows}
use Rattle.am_store_scan.proofs.cursor.Cursor.copy_rest.Goals as goal

pub returns-clause-copied : goal.returns-clause-copied
returns-clause-copied g c =
    let back = g.D.Direction.is_back in
    let es = c.self.inside.parts.now.entries in
    let range = c.self.inside.range in
    let h = c.in-Some.head in
    let sound = c.self.invariant.ahead.sound in
    let none : heap_items c.self.inside.others ≡ [] = no_length (heap_items c.self.inside.others)
    (omega (
      arith,
      eqb-true (heap_len c.self.inside.others) 0 (sym c.is_empty.ensures ∙ c.if-not-is_empty.false),
      c.self.inside.others.data.ok.0,
    )) in
    let alone = subst (λ (l : List Stand). AreAhead back es range (h ∷ l)) none
    (subst (λ (o : Option Stand). AreAhead back es range (cons_option o (heap_items c.self.inside.others)))
    c.in-Some.is c.self.invariant.ahead) in
    let seen = sym c.self.view_is ∙ ap (λ (o : Option Stand). rows_ahead back
    (cons_option o (heap_items c.self.inside.others)) range (content es)) c.in-Some.is ∙
    ap (λ (l : List Stand). rows_ahead back (h ∷ l) range (content es)) none in
    let rows = alone_rows back h alone (λ part r. c.rows_follow.ensures.alone es part r sound.rising sound.one_place) in
    λ _. c.in_ok-copy_rows.ensures.copied ∙ ap (λ (l : Records). take c.args.max (c.args.rows.now.items ++ l))
    (ap (λ (r : ℕ × Interval). as_read back (rows_in es r.0 r.1)) c.rest-part.ensures ∙ sym rows ∙ sym seen)
