use Rattle.std.proofs.Common.{◌≡◌, ◌∙◌, ◌==◌, ℕ, None, not, ap, subst, arith, rules}
use Rattle.am_latch.specs.Receipts.{SeatState, moved_in}
use Rattle.am_latch.specs.Ties.{open_of}
use Rattle.am_serve_workers.specs.ReadTurns.{ReadsRange, read_behind, read_outlook}
use Rattle.am_serve_workers.proofs.read_turn.read.Goals as goal

pub returns : goal.returns
returns g c =
    let lent = c.in-Some.ensures.lent in
    let same = c.look-found.ensures.same in
    let reads = c.read_range-was_read.result in
    let idle : open_of c.args.seat.now.receipts ≡ None = search rules in
    let moved : c.moved-moved.result ≡ moved_in c.args.seat.now.receipts =
    c.moved-moved.ensures.moved ∙ ap (λ (s : SeatState). moved_in s.receipts) same in record {
      unasked = omega (arith, c.if-runs-eq0.false);
      idle = idle;
      range = c.in-Some.range;
      found = (lent.0.now, lent.1, lent.3, lent.4);
      reads = reads;
      read = subst (λ (s : SeatState). ReadsRange c.in-Some.range s reads c.read_range-was_read.new.seat) same
          c.read_range-was_read.ensures;
      seen = c.read_outlook-outlook.ensures ∙
          ap (λ (n : ℕ). read_outlook reads (not (c.args.place.now.moved == n))) moved;
      behind = c.behind.ensures ∙ ap (read_behind c.in-Some.range) moved;
    }
