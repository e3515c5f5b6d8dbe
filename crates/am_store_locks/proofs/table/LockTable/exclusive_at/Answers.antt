use Rattle.std.proofs.Common.{◌≡◌, find, [], ◌∷◌, Some, None, option_map, option_to_list, subst, sym, ap, ◌∙◌, rules}
use Rattle.std.proofs.lemmas.Iterator.{YieldsList-from_slice}
use Rattle.std.proofs.lemmas.Iterator.Search.{find_from_yields_List}
use borrow.Author.Tests.{tests}
use denote.Ref.{Bor}
use Rattle.std.specs.List.{count_by}
use Rattle.am_record.specs.declared.lock.Mode.TheVariants.{Shared}
use Rattle.am_store_locks.specs.OwnerLocks.{OwnerLocks, is_exclusive_at}
use Rattle.am_store_locks.specs.Table.{AreAllApart}
use Rattle.am_store_locks.specs.KeyCounts.{all_locks, may_clash}
use Rattle.am_store_locks.proofs.AllLocks.{nobody_holds}
use Rattle.am_store_locks.proofs.Apart.{exclusive_holders-find}
use Rattle.am_store_locks.proofs.table.LockTable.exclusive_at.Goals as goal

pub returns-then-near-eq0-clause-holder : goal.returns-then-near-eq0-clause-holder
returns-then-near-eq0-clause-holder c =
    let near = c.near.ensures (all_locks c.self.inside.owners.items) c.self.invariant.4 in
    nobody_holds c.args.self.now c.args.key
    ((λ i. count_by (may_clash Shared (sym c.key_bucket-bucket.ensures.bucket i)) (all_locks (sym c.self.view_is i))) ∙
    sym near ∙ c.if-near-eq0.true)

pub returns-in_err-owner-clause-holder : goal.returns-in_err-owner-clause-holder
returns-in_err-owner-clause-holder c =
    let owners = YieldsList-from_slice c.args.self.now (c.iter.ensures.rest ∙ c.deref.ensures.value ∙ c.self.view_is) in
    let first = find_from_yields_List (is_exclusive_at c.args.key) _ _ c.find.result c.find.ensures.ran owners
    (λ x b q k. search (rules, tests)) in
    let all = exclusive_holders-find c.args.self.now c.args.key (subst AreAllApart c.self.view_is c.self.invariant.0) in
    let none : find (is_exclusive_at c.args.key) c.args.self.now ≡ None = sym first ∙
    ap (option_map (λ (h : Bor OwnerLocks). h.now)) c.in_err-owner.was in
    all ∙ ap (λ o. option_to_list (option_map (λ (h : OwnerLocks). h.owner) o)) none ∙
    ap option_to_list (sym c.from_residual.ensures)

pub returns-clause-holder : goal.returns-clause-holder
returns-clause-holder c =
    let owners = YieldsList-from_slice c.args.self.now (c.iter.ensures.rest ∙ c.deref.ensures.value ∙ c.self.view_is) in
    let first = find_from_yields_List (is_exclusive_at c.args.key) _ _ c.find.result c.find.ensures.ran owners
    (λ x b q k. search (rules, tests)) in
    let all = exclusive_holders-find c.args.self.now c.args.key (subst AreAllApart c.self.view_is c.self.invariant.0) in
    let some : find (is_exclusive_at c.args.key) c.args.self.now ≡ Some c.in_ok-owner.owner.now = sym first ∙
    ap (option_map (λ (h : Bor OwnerLocks). h.now)) c.in_ok-owner.was in
    all ∙ ap (λ o. option_to_list (option_map (λ (h : OwnerLocks). h.owner) o)) some ∙
    (λ i. sym c.number.ensures i ∷ [])
