use Rattle.std.proofs.Common.{All, [], ◌∷◌, ◌++◌, ◌≡◌, length, subst, sym, ap, ◌∙◌, arith, length-append}
use Rattle.am_store_locks.specs.Table.{AreAllApart, entered, owner_numbers}
use Rattle.am_store_locks.proofs.Numbers.{numbers-entered}
use Rattle.std.proofs.lemmas.List.Elements.{All-push}
use Rattle.am_store_locks.specs.OwnerLocks.{HasFew}
use Rattle.am_store_locks.specs.KeyCounts.{all_locks, AreCountsOf}
use Rattle.am_store_locks.proofs.AllLocks.{all_locks-entered}
use Rattle.am_store_locks.proofs.Apart.{AreAllApart-entered}
use Rattle.am_store_locks.proofs.table.LockTable.enter.Goals as goal

pub invariant_of-self : goal.invariant_of-self
invariant_of-self c =
    let all : c.push.new.self.items ≡ entered c.args.self.now c.args.tx = c.in-Ok.ensures.items ∙
    (λ i. c.self.view_is i ++ c.new-owner.ensures i ∷ []) in (
      subst AreAllApart (sym all) (AreAllApart-entered c.args.self.now c.args.tx
          (subst AreAllApart c.self.view_is c.self.invariant.0) c.requires.new),
      omega (
        arith,
        c.requires.room,
        ap length all,
        length-append c.args.self.now (record { owner = c.args.tx; locks = [] } ∷ []),
      ),
      omega (arith, c.self.invariant.2, c.push.ensures.capacity),
      subst (All HasFew) (sym all)
          (All-push HasFew c.args.self.now (record { owner = c.args.tx; locks = [] })
          (subst (All HasFew) c.self.view_is c.self.invariant.3) (omega arith)),
      subst (λ locks. AreCountsOf locks c.self.inside.counts.buckets.items)
          (ap all_locks c.self.view_is ∙ sym (all_locks-entered c.args.self.now c.args.tx) ∙ ap all_locks (sym all))
          c.self.invariant.4,
      omega (arith, c.self.invariant.5, c.push_reserved.ensures.capacity),
      c.push_reserved.ensures.items ∙
          ap (λ ns. ns ++ c.args.tx ∷ []) (c.self.invariant.6 ∙ ap owner_numbers c.self.view_is) ∙
          sym (numbers-entered c.args.self.now c.args.tx) ∙ ap owner_numbers (sym all),
    )
