use Rattle.std.proofs.Common.{◌≡◌, take}
use Rattle.std.specs.List.{AllByRecursion}
use Rattle.am_record_model.specs.Slots.{live, IsNoPlace}
use Rattle.am_record_model.proofs.log.ChangeLog.forget.Given as goal

abbrev pub invariant-loop-note : goal.invariant-loop-note
invariant-loop-note l =
    (live l.records ≡ live l.fn.records) × AllByRecursion (λ n. IsNoPlace l.records n.key)
    (take l.note-index l.note-items)
