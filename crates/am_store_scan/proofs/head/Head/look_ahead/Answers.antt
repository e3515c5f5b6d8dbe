use Rattle.std.proofs.Common.{ℕ, ◌<◌, ◌↔◌, IsTrue, length, take, vec_capacity, sym, ap, ◌∙◌, subst}
use Rattle.am_record.specs.Interval.{Interval}
use Rattle.am_index.specs.Content.{rows_in}
use Rattle.am_store_scan.specs.Directions.{as_read}
use Rattle.am_store_scan.specs.Heads.{Stand, stand_at, HasReadSome}
use Rattle.am_store_scan.proofs.HeadMoves.{read_anew}
use Rattle.am_store_scan.proofs.head.Head.look_ahead.Goals as goal

pub returns-clause-ready : goal.returns-clause-ready
returns-clause-ready g c =
    let back = g.D.Direction.is_back in
    let es = c.args.parts.now.entries in
    let room = vec_capacity c.self.inside.rows in
    let again = c.read_rows-self-inside in
    let anew = read_anew back c.args.self.now room again.new.rows.items again.result c.self.invariant.1 c.requires.reads
    (again.ensures.rows ∙ ap (λ (r : ℕ × Interval). take room (as_read back (rows_in es r.0 r.1))) c.rest-part.ensures)
    (subst (λ (r : ℕ × Interval). IsTrue again.result ↔ length (as_read back (rows_in es r.0 r.1)) < room)
    c.rest-part.ensures
    again.ensures.all) in
    subst (λ p. HasReadSome back es c.args.range (stand_at p again.new.rows.items 0 again.result))
    (sym (ap (λ (h : Stand). h.part) c.self.view_is)) anew
