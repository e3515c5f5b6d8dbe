use Rattle.std.proofs.Common.{◌≡◌, ◌==◌, position, IsSome, subst, sym, ◌∙◌}
use Rattle.am_store_locks.specs.OwnerLocks.{OwnerLocks}
use Rattle.am_record.proofs.ByNumber.{position-map, position-found, position-number}
use Rattle.am_store_locks.proofs.Places.{entry_at, set-with_locks}
use Rattle.am_store_locks.proofs.table.LockTable.slot_of.Goals as goal

pub unwrap-requires : goal.unwrap-requires
unwrap-requires c =
    let e : c.place_of-slot.result ≡ position (λ (h : OwnerLocks). h.owner == c.args.tx) c.args.self.now =
    c.place_of-slot.ensures.place ∙ position-map (λ (h : OwnerLocks). h.owner) c.args.tx c.args.self.now in
    subst IsSome (sym e) (position-found (λ (h : OwnerLocks). h.owner) c.args.tx c.args.self.now c.requires)

pub returns-clause-held : goal.returns-clause-held
returns-clause-held c =
    let e : c.place_of-slot.result ≡ position (λ (h : OwnerLocks). h.owner == c.args.tx) c.args.self.now =
    c.place_of-slot.ensures.place ∙ position-map (λ (h : OwnerLocks). h.owner) c.args.tx c.args.self.now in
    λ d. let at = position-number (λ (h : OwnerLocks). h.owner) c.args.self.now c.unwrap.result c.args.tx d
    (sym e ∙ c.unwrap.ensures) in
    entry_at c.args.self.now c.unwrap.result d c.args.tx c.place_of-slot.ensures.apart at.0 at.1

pub returns-clause-write : goal.returns-clause-write
returns-clause-write c =
    let e : c.place_of-slot.result ≡ position (λ (h : OwnerLocks). h.owner == c.args.tx) c.args.self.now =
    c.place_of-slot.ensures.place ∙ position-map (λ (h : OwnerLocks). h.owner) c.args.tx c.args.self.now in
    λ locks. let none : OwnerLocks = record { owner = 0; locks = locks } in
    let at = position-number (λ (h : OwnerLocks). h.owner) c.args.self.now c.unwrap.result c.args.tx none
    (sym e ∙ c.unwrap.ensures) in
    set-with_locks c.args.self.now c.unwrap.result none c.args.tx c.place_of-slot.ensures.apart at.0 at.1 locks
