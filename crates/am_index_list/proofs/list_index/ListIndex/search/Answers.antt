use Rattle.std.proofs.Common.{◌≡◌, refl, rules}
use Rattle.std.proofs.lemmas.Fn.{answers_by}
use Rattle.am_record.specs.EntryOrder.{place_of, place_cmp}
use Rattle.am_index.proofs.Searches.{searched}
use Rattle.am_index_list.proofs.list_index.ListIndex.search.Goals as goal

-- the closure keeps the partition and the key that it captured
pub returns-clause-found : goal.returns-clause-found
returns-clause-found c =
    let facts = c.binary_search_by.ensures in
    let by_place = facts.position (λ e. place_cmp (place_of e) (c.args.part, c.args.key))
    (answers_by _ _ (λ f. (f.0.now ≡ c.args.part) × (f.1.now ≡ c.args.key))
    (λ f a r g called held. (search rules, search rules)) _ (refl, refl)) in
    rw (← c.self.view_is, ← c.deref.ensures.value)
    ((searched _ (rw c.deref.ensures.value c.self.invariant) c.args.part c.args.key _ facts.bound by_place).0)

pub returns-clause-absent : goal.returns-clause-absent
returns-clause-absent c =
    let facts = c.binary_search_by.ensures in
    let by_place = facts.position (λ e. place_cmp (place_of e) (c.args.part, c.args.key))
    (answers_by _ _ (λ f. (f.0.now ≡ c.args.part) × (f.1.now ≡ c.args.key))
    (λ f a r g called held. (search rules, search rules)) _ (refl, refl)) in
    rw (← c.self.view_is, ← c.deref.ensures.value)
    ((searched _ (rw c.deref.ensures.value c.self.invariant) c.args.part c.args.key _ facts.bound by_place).1)
