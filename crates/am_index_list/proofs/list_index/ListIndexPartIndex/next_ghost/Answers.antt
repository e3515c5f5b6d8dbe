use Rattle.std.proofs.Common.{◌≡◌, ap, sym, ◌∙◌, Bool, cond, ◌-◌, List, [], ◌∷◌, Option, Some, None, option_map, length}
use Rattle.std.proofs.Common.{take, drop, refl, rules, tests}
use Rattle.std.specs.List.{find}
use Rattle.std.proofs.lemmas.Iterator.{YieldsList-from_slice}
use Rattle.std.proofs.lemmas.Iterator.Consumers.{YieldsList-from_copied}
use Rattle.std.proofs.lemmas.Iterator.Search.{find_from_yields_List}
use Rattle.std.specs.Slice.Iter.{iter_rest}
use Rattle.am_record.specs.declared.entry.Entry.{Entry}
use Rattle.am_index.specs.Entries.{first_such}
use Rattle.am_index.proofs.Searches.{whole_rest, next_ghost_at}
use Rattle.am_index_list.proofs.list_index.ListIndexPartIndex.next_ghost.Goals as goal

itself : (o : Option Entry) → option_map (λ e. e) o ≡ o
itself None = refl
itself (Some e) = refl

find_such : (test : Entry → Bool) (es : List Entry) → find test es ≡ first_such test es
find_such test [] = refl
find_such test (e ∷ es) = λ i. cond (test e) (Some e) (find_such test es i)

pub returns-clause-found : goal.returns-clause-found
returns-clause-found c =
    let from = c.lower_bound-from.result in
    let rest = ap (λ es. take (length es - from) (drop from es)) (c.deref.ensures.value ∙ c.self.view_is) ∙
    whole_rest from c.args.self.now in
    sym (itself c.find.result)
    ∙ find_from_yields_List (λ e. e.is_ghost) _ _ c.find.result c.find.ensures.ran
    (YieldsList-from_copied (YieldsList-from_slice (drop from c.args.self.now) (ap iter_rest c.copied.ensures.source ∙
    c.iter.ensures.rest ∙ rest))) (λ x b q k. search (rules, tests))
    ∙ find_such (λ e. e.is_ghost) (drop from c.args.self.now) ∙ next_ghost_at c.args.self.now c.args.part c.args.key
    from c.lower_bound-from.ensures.bound
