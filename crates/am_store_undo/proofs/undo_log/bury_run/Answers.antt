use Rattle.std.proofs.Common.{◌∙◌, subst, refl}
use Rattle.am_index.proofs.Rooms.{keep_all}
use Rattle.am_store_undo.proofs.Fits.{keep_set}
use Rattle.am_store_undo.proofs.Run.{Buries, starts, stands, is_there, goes_on, goes_down}
use Rattle.am_store_undo.proofs.undo_log.bury_run.Goals as goal

pub loop-next-init : goal.loop-next-init
loop-next-init g c = record {
  buries = starts c.args.parts.now.entries c.args.run c.least.result c.next_from-next.result
      c.next_from-next.ensures.sound.rising c.least.ensures.least c.next_from-next.ensures.found;
  runs = refl;
  rooms = keep_all c.args.parts.now.roomy c.args.parts.now.entries c.next_from-next.ensures.room;
}

pub set-requires-clause-room : goal.set-requires-clause-room
set-requires-clause-room g c = c.loop-next.invariant.rooms.have.values c.args.run c.in-Some.entry.key _
    (stands c.args.parts.now.entries c.loop-next.parts.entries c.args.run c.in-Some.entry
    (subst (λ n. Buries c.args.parts.now.entries c.loop-next.parts.entries c.args.run n) c.in-Some.is
    c.loop-next.invariant.buries))

pub loop-next-smaller : goal.loop-next-smaller
loop-next-smaller g c =
    rw c.in-Some.is
    (goes_down c.args.parts.now.entries c.loop-next.parts.entries c.args.run c.in-Some.entry
    (subst (λ n. Buries c.args.parts.now.entries c.loop-next.parts.entries c.args.run n) c.in-Some.is
    c.loop-next.invariant.buries)
    c.set.new.self.entries c.after-next.result c.after-next.ensures.found)

pub loop-next-preserved : goal.loop-next-preserved
loop-next-preserved g c = record {
  buries = goes_on c.args.parts.now.entries c.loop-next.parts.entries c.args.run c.in-Some.entry
      (subst (λ n. Buries c.args.parts.now.entries c.loop-next.parts.entries c.args.run n) c.in-Some.is
      c.loop-next.invariant.buries)
      c.set.new.self.entries c.after-next.result c.set.ensures.entries c.after-next.ensures.sound.rising
      c.after-next.ensures.found;
  runs = c.set.ensures.runs ∙ c.loop-next.invariant.runs;
  rooms = keep_set c.args.parts.now.roomy c.loop-next.parts.roomy c.set.new.self.roomy c.loop-next.parts.entries
      c.args.run c.in-Some.entry.key _ _ (is_there c.args.parts.now.entries c.loop-next.parts.entries c.args.run
      c.in-Some.entry (subst (λ n. Buries c.args.parts.now.entries c.loop-next.parts.entries c.args.run n) c.in-Some.is
      c.loop-next.invariant.buries)) c.loop-next.invariant.rooms c.set.new.self.entries c.set.ensures.entries
      c.set.ensures.rooms;
}
