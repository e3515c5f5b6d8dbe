use Rattle.std.proofs.Common.{ℕ, subst}
use Rattle.am_record.proofs.Outcomes.{OnErr-from}
use Rattle.am_index.specs.Rooms.{HasRoom}
use Rattle.am_store_operations.proofs.Rooms.{over_wants}
use Rattle.am_store_operations.proofs.writes.write_over.Goals as goal

pub returns-in_err-make_room-clause-memory : goal.returns-in_err-make_room-clause-memory
returns-in_err-make_room-clause-memory g c =
    let entry = c.args.entry.now in
    OnErr-from c.from_residual-in_err-make_room.result
    (over_wants c.args.parts.now.entries c.args.parts.now.roomy entry.part entry.key c.args.value
    (entry.value, entry.is_ghost) c.args.log.now.notes c.requires.values c.requires.there
    (subst (λ (n : ℕ). ¬ HasRoom c.args.parts.now.roomy entry.part entry.key n) c.len.ensures.all
    c.in_err-make_room.ensures.full))
