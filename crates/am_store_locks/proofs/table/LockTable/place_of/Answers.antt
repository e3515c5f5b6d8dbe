use Rattle.std.proofs.Common.{◌≡◌, ◌<◌, List, get_or, length, ℕ, subst, sym, ap, ◌∙◌}
use Rattle.am_store_locks.specs.Table.{owner_numbers, AreAllApart}
use Rattle.am_store_locks.proofs.Places.{position-at}
use Rattle.am_store_locks.proofs.table.LockTable.place_of.Goals as goal

pub returns-clause-place : goal.returns-clause-place
returns-clause-place c =
    let now = c.args.self.now in
    let tx = c.args.tx in
    let recent = c.self.inside.recent in
    let numbers : c.deref.result.now ≡ owner_numbers now =
    c.deref.ensures.value ∙ c.self.invariant.6 ∙ ap owner_numbers c.self.view_is in
    let found = c.in-Some.ensures.lookup.3 in
    sym (position-at now recent tx (subst AreAllApart c.self.view_is c.self.invariant.0)
    (subst (λ (ns : List ℕ). recent < length ns) numbers found.0)
    (ap (λ (ns : List ℕ). get_or ns recent tx) (sym numbers) ∙ sym (found.1 tx) ∙ c.if-number-tx.true))
