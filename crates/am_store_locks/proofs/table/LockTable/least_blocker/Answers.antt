use Rattle.std.proofs.Common.{◌≡◌, min, subst, sym, ◌∙◌, [], MatchOption, rules}
use Rattle.std.specs.List.{reduce}
use Rattle.std.proofs.lemmas.Iterator.{YieldsList-from_slice, YieldsList-from_map}
use Rattle.std.proofs.lemmas.Iterator.Adapters.{option_map_id}
use Rattle.std.proofs.lemmas.Iterator.Consumers.{YieldsList-from_filter, YieldsList-at, min_from_yields_List}
use borrow.Author.Tests.{tests}
use Rattle.am_store_locks.specs.OwnerLocks.{OwnerLocks, blocks}
use Rattle.am_store_locks.specs.Table.{blockers}
use Rattle.am_store_locks.specs.Answers.{IsLeastOf}
use Rattle.am_store_locks.proofs.Least.{reduce_min-least}
use Rattle.am_store_locks.proofs.table.LockTable.least_blocker.Goals as goal

pub returns : goal.returns
returns c =
    let numbers = blockers c.args.self.now c.number-tx.result c.args.asked.now in
    let owners = YieldsList-from_slice c.args.self.now (c.iter.ensures.rest ∙ c.deref.ensures.value ∙ c.self.view_is) in
    let e : c.min.result ≡ reduce min numbers =
    sym (option_map_id c.min.result)
    ∙ min_from_yields_List c.map.result c.min.result c.min.ensures.ran
    (YieldsList-from_map _ (λ (h : OwnerLocks). h.owner)
    (YieldsList-at c.map.ensures.source
    (YieldsList-from_filter _ (blocks c.number-tx.result c.args.asked.now)
    (YieldsList-at c.filter.ensures.source owners)
    c.filter.ensures.closure (λ x r q k. search (rules, tests))))
    c.map.ensures.closure (λ x r q k. search rules)) in
    subst (λ n. MatchOption c.min.result (blockers c.args.self.now n c.args.asked.now ≡ [])
    (IsLeastOf (blockers c.args.self.now n c.args.asked.now))) c.number-tx.ensures
    (subst (λ r. MatchOption r (numbers ≡ []) (IsLeastOf numbers)) (sym e) (reduce_min-least numbers))
