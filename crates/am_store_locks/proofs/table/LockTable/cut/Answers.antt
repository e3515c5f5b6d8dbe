use Rattle.std.proofs.Common.{◌≡◌, ◌<◌, ◌≤◌, ◌++◌, length, set, take, drop, subst, refl, sym, ap, ◌∙◌, arith}
use Rattle.std.proofs.lemmas.List.{length-set, length-take, take_rest, get_or_default}
use Rattle.std.proofs.lemmas.List.Elements.{All-set, All-get_or}
use Rattle.am_store_locks.specs.OwnerLocks.{OwnerLocks, HasFew}
use Rattle.am_store_locks.specs.Table.{locks_owned, with_locks, AreAllApart}
use Rattle.am_store_locks.proofs.Numbers.{numbers-set}
use Rattle.am_store_locks.specs.KeyCounts.{all_locks, AreCountsOf}
use Rattle.am_store_locks.proofs.AllLocks.{AreCountsOf-cut}
use Rattle.am_store_locks.proofs.Apart.{AreAllApart-take}
use Rattle.am_store_locks.proofs.Places.{own_entry}
use Rattle.am_store_locks.proofs.table.LockTable.cut.Goals as goal

pub remove-requires : goal.remove-requires
remove-requires c =
    let old : OwnerLocks = c.index.result.now in
    let new : OwnerLocks = record { owner = c.args.tx; locks = take c.args.n old.locks } in
    let rest = take_rest c.locks.result.now c.args.n ∙ ap (drop c.args.n) c.locks.ensures in (
      all_locks (set c.self.inside.owners.items c.slot_of-slot.result new),
      subst (λ locks. AreCountsOf (locks ++ all_locks (set c.self.inside.owners.items c.slot_of-slot.result new))
          c.self.inside.counts.buckets.items) (sym rest)
          (AreCountsOf-cut c.self.inside.owners.items c.slot_of-slot.result c.args.n old new
          c.self.inside.counts.buckets.items (omega (arith, c.slot_of-slot.ensures.in_bounds, ap length c.self.view_is))
          c.index.ensures refl c.self.invariant.4),
    )

pub invariant_of-self : goal.invariant_of-self
invariant_of-self c =
    let now = c.args.self.now in
    let slot = c.slot_of-slot.result in
    let old : OwnerLocks = c.index_mut.result.now in
    let entry = own_entry _ _ _ _ _ c.index_mut.ensures.value c.self.view_is c.slot_of-slot.ensures.held in
    let new : c.cut.new.self ≡ record {
      owner = c.args.tx;
      locks = take c.args.n (locks_owned now c.args.tx);
    } = c.cut.ensures ∙ (λ i. record { owner = (entry i).owner; locks = take c.args.n (entry i).locks }) in
    let all : set c.self.inside.owners.items slot c.cut.new.self ≡ with_locks now c.args.tx
    (take c.args.n (locks_owned now c.args.tx)) =
    (λ i. set (c.self.view_is i) slot (new i)) ∙ c.slot_of-slot.ensures.write _ in
    let inside : slot < length c.self.inside.owners.items = omega (
      arith,
      c.slot_of-slot.ensures.in_bounds,
      ap length c.self.view_is,
    ) in
    let same : old ≡ c.index.result.now = c.index_mut.ensures.value ∙
    get_or_default c.self.inside.owners.items slot old c.index.result.now inside ∙ sym c.index.ensures in
    let locks : c.cut.new.self.locks ≡ take c.args.n c.index.result.now.locks =
    (λ i. (c.cut.ensures i).locks) ∙ ap (λ (h : OwnerLocks). take c.args.n h.locks) same in
    let rest = take_rest c.locks.result.now c.args.n ∙ ap (drop c.args.n) c.locks.ensures in
    let few : length c.index.result.now.locks ≤ 256 = subst HasFew
    (sym c.index.ensures) (All-get_or HasFew c.self.inside.owners.items slot
    c.index.result.now inside c.self.invariant.3) in
    let left = all_locks (set c.self.inside.owners.items slot c.cut.new.self) in (
      subst AreAllApart (sym all) (AreAllApart-take now c.args.tx c.args.n
          (subst AreAllApart c.self.view_is c.self.invariant.0)),
      omega (arith, c.self.invariant.1, length-set c.self.inside.owners.items slot c.cut.new.self),
      c.self.invariant.2,
      All-set HasFew c.self.inside.owners.items slot c.cut.new.self
          (omega (arith, few, ap length locks, length-take c.args.n c.index.result.now.locks)) c.self.invariant.3,
      c.remove.ensures left (subst (λ locks. AreCountsOf (locks ++ left) c.self.inside.counts.buckets.items) (sym rest)
          (AreCountsOf-cut c.self.inside.owners.items slot c.args.n c.index.result.now c.cut.new.self
          c.self.inside.counts.buckets.items inside c.index.ensures locks c.self.invariant.4)),
      c.self.invariant.5,
      c.self.invariant.6 ∙ sym (numbers-set c.self.inside.owners.items slot c.cut.new.self old
          (ap (λ (h : OwnerLocks). h.owner) c.cut.ensures ∙
          ap (λ (h : OwnerLocks). h.owner) c.index_mut.ensures.value)),
    )
