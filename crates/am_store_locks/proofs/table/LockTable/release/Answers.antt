use Rattle.std.proofs.Common.{not, ◌==◌, ◌≡◌, ◌++◌, All, length, subst, sym, ap, ◌∙◌, arith}
use Rattle.std.specs.List.{remove}
use Rattle.std.proofs.lemmas.List.{length-map}
use Rattle.std.proofs.lemmas.List.Elements.{All-filter}
use Rattle.am_store_locks.specs.OwnerLocks.{OwnerLocks, HasFew}
use Rattle.am_store_locks.specs.Table.{without_owner, owner_numbers, AreAllApart}
use Rattle.am_store_locks.proofs.Numbers.{numbers-removed}
use Rattle.am_store_locks.specs.KeyCounts.{all_locks, AreCountsOf}
use Rattle.am_store_locks.proofs.AllLocks.{AreCountsOf-released}
use Rattle.am_store_locks.proofs.Apart.{AreAllApart-filter}
use Rattle.am_record.proofs.ByNumber.{remove-without_number}
use Rattle.am_store_locks.proofs.Places.{AreOnce-AreAllApart, own_entry}
use Rattle.am_store_locks.proofs.table.LockTable.release.Goals as goal

pub remove-requires : goal.remove-requires
remove-requires c =
    let now = c.args.self.now in
    let buckets = c.self.inside.counts.buckets.items in
    let rest = all_locks (without_owner now c.args.tx) in
    let entry = own_entry _ _ _ _ _ c.remove-released.ensures.value c.self.view_is c.slot_of-slot.ensures.held in
    let own = c.locks.ensures ∙ ap (λ (h : OwnerLocks). h.locks) entry in (
      rest,
      subst (λ locks. AreCountsOf (locks ++ rest) buckets) (sym own)
          (AreCountsOf-released now c.args.tx buckets (subst AreAllApart c.self.view_is c.self.invariant.0)
          (subst (λ t. AreCountsOf (all_locks t) buckets) c.self.view_is c.self.invariant.4)),
    )

pub remove-requires-2 : goal.remove-requires-2
remove-requires-2 c = omega (
  arith,
  c.slot_of-slot.ensures.in_bounds,
  ap length (c.self.invariant.6 ∙ ap owner_numbers c.self.view_is),
  length-map c.args.self.now (λ (h : OwnerLocks). h.owner),
)

pub returns : goal.returns
returns c =
    let now = c.args.self.now in
    let slot = c.slot_of-slot.result in
    let d = c.remove-released.result in
    c.remove-released.ensures.items ∙ ap (λ t. remove t slot) c.self.view_is ∙
    remove-without_number (λ (h : OwnerLocks). h.owner) now slot d c.args.tx
    (AreOnce-AreAllApart now (subst AreAllApart c.self.view_is c.self.invariant.0))
    c.slot_of-slot.ensures.in_bounds (ap (λ (h : OwnerLocks). h.owner) (c.slot_of-slot.ensures.held d))

pub invariant_of-self : goal.invariant_of-self
invariant_of-self c =
    let now = c.args.self.now in
    let slot = c.slot_of-slot.result in
    let d = c.remove-released.result in
    let buckets = c.self.inside.counts.buckets.items in
    let rest = all_locks (without_owner now c.args.tx) in
    let apart = subst AreAllApart c.self.view_is c.self.invariant.0 in
    let entry = own_entry _ _ _ _ _ c.remove-released.ensures.value c.self.view_is c.slot_of-slot.ensures.held in
    let own = c.locks.ensures ∙ ap (λ (h : OwnerLocks). h.locks) entry in
    let counts = c.remove.ensures rest (subst (λ locks. AreCountsOf (locks ++ rest) buckets) (sym own)
    (AreCountsOf-released now c.args.tx buckets apart
    (subst (λ t. AreCountsOf (all_locks t) buckets) c.self.view_is c.self.invariant.4))) in
    let left : c.remove-released.new.self.items ≡ without_owner now c.args.tx =
    c.remove-released.ensures.items ∙ ap (λ t. remove t slot) c.self.view_is ∙
    remove-without_number (λ (h : OwnerLocks). h.owner) now slot d c.args.tx (AreOnce-AreAllApart now apart)
    c.slot_of-slot.ensures.in_bounds
    (ap (λ (h : OwnerLocks). h.owner) (c.slot_of-slot.ensures.held d)) in (
      subst AreAllApart (sym left) (AreAllApart-filter (λ (h : OwnerLocks). not (h.owner == c.args.tx)) now apart),
      omega (arith, c.remove-released.ensures.len, c.self.invariant.1),
      omega (arith, c.remove-released.ensures.capacity, c.self.invariant.2),
      subst (All HasFew) (sym left)
          (All-filter (λ (h : OwnerLocks). not (h.owner == c.args.tx)) HasFew now
          (subst (All HasFew) c.self.view_is c.self.invariant.3)),
      subst (λ t. AreCountsOf (all_locks t) c.remove.new.self.buckets.items) (sym left) counts,
      omega (arith, c.remove-2.ensures.capacity, c.self.invariant.5),
      c.remove-2.ensures.items ∙ ap (λ ns. remove ns slot) c.self.invariant.6 ∙
          numbers-removed c.self.inside.owners.items slot ∙ ap owner_numbers (sym c.remove-released.ensures.items),
    )
