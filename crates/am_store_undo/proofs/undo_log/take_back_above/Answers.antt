use Rattle.std.proofs.Common.{◌∙◌, ◌<◌, subst, reverse, drop}
use Rattle.am_index.proofs.Rooms.{keep_on}
use Rattle.am_store_undo.proofs.Above.{above_goes_on, above_fits, above_stood}
use Rattle.am_store_undo.proofs.Fits.{fits_on}
use Rattle.am_store_undo.proofs.undo_log.take_back_above.Goals as goal

pub take_back_one-requires-clause-room : goal.take_back_one-requires-clause-room
take_back_one-requires-clause-room g c = (above_fits c.loop-notes.invariant.above
    (subst (λ n. c.args.mark < n) c.len.ensures.value c.loop-notes-test.true) c.pop.new.self.items c.in-Some.note
    c.in-Some.ensures.items c.loop-notes.parts.roomy c.loop-notes.invariant.fits).0

pub loop-notes-preserved : goal.loop-notes-preserved
loop-notes-preserved g c =
    let some = subst (λ n. c.args.mark < n) c.len.ensures.value c.loop-notes-test.true in
    let above = above_goes_on c.loop-notes.invariant.above some c.pop.new.self.items c.in-Some.note
    c.in-Some.ensures.items c.take_back_one.new.parts.entries c.take_back_one.ensures.back
    c.take_back_one.ensures.rising in
    record {
      above = above;
      runs = c.take_back_one.ensures.runs ∙ c.loop-notes.invariant.runs;
      rooms = keep_on c.args.parts.now.roomy c.loop-notes.parts.roomy c.take_back_one.new.parts.roomy
          c.loop-notes.parts.entries c.take_back_one.new.parts.entries c.loop-notes.invariant.rooms
          c.take_back_one.ensures.rooms (λ part key among stands. above_stood c.loop-notes.invariant.above some
          c.pop.new.self.items c.in-Some.note c.in-Some.ensures.items c.take_back_one.new.parts.entries
          c.take_back_one.ensures.back part key stands);
      fits = fits_on c.loop-notes.parts.roomy c.take_back_one.new.parts.roomy c.take_back_one.new.parts.entries
          c.take_back_one.ensures.rooms (reverse (drop c.args.mark c.pop.new.self.items)) above.undone.can
          (above_fits c.loop-notes.invariant.above some c.pop.new.self.items c.in-Some.note c.in-Some.ensures.items
          c.loop-notes.parts.roomy c.loop-notes.invariant.fits).1;
      capacity = c.pop.ensures.capacity ∙ c.loop-notes.invariant.capacity;
    }
