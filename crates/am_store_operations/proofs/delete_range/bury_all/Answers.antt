use Rattle.std.proofs.Common.{length, sym, ap, ◌∙◌, arith}
use Rattle.std.specs.Prelude.{is_some}
use Rattle.am_index.specs.Entries.{find}
use Rattle.am_index.proofs.Rooms.{keep_on}
use Rattle.am_law_effect.specs.Operations.{find_live}
use Rattle.am_store_operations.proofs.Ghosts.{stood_ghost, whole, ghosts_on, notes_on}
use Rattle.am_store_operations.proofs.delete_range.bury_all.Goals as goal

pub loop-at-preserved : goal.loop-at-preserved
loop-at-preserved g c =
    let rows = c.args.rows.now in
    let at = c.loop-at.at in
    let row = c.index-rows-at.result in
    let es = c.loop-at.parts.entries in
    let done = c.bury_record.ensures in
    record {
      entries = ghosts_on rows at row c.loop-at-test.true c.index-rows-at.is es c.bury_record.new.parts.entries
          done.entries ∙ c.loop-at.invariant.entries;
      notes = notes_on rows at row c.loop-at-test.true c.index-rows-at.is es c.bury_record.new.parts.entries
          done.entries c.loop-at.log.notes c.bury_record.new.log.notes done.notes ∙ c.loop-at.invariant.notes;
      runs = done.runs ∙ c.loop-at.invariant.runs;
      marks = done.marks ∙ c.loop-at.invariant.marks;
      room = omega (
        arith,
        c.loop-at.invariant.room,
        done.room,
        ap length (whole rows at row c.loop-at-test.true c.index-rows-at.is),
      );
      rooms = keep_on c.args.parts.now.roomy c.loop-at.parts.roomy c.bury_record.new.parts.roomy es
          c.bury_record.new.parts.entries c.loop-at.invariant.rooms done.rooms
          (λ part key among stands. sym (stood_ghost (find_live es row.0) es part key) ∙
          ap (λ l. is_some (find l part key)) (sym done.entries) ∙ stands);
    }
