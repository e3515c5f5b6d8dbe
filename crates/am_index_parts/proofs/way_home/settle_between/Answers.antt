use Rattle.std.proofs.Common.{◌≡◌, ◌≤◌, List, length, take, sym, ap, ◌∙◌, subst}
use Rattle.std.proofs.lemmas.List.{length-take-le}
use Rattle.std.specs.List.{AllByRecursion}
use Rattle.am_record.specs.declared.entry.Entry.{Entry}
use Rattle.am_index.specs.Entries.{all_inserted, IsRising}
use Rattle.am_index.proofs.Insertions.{AllFree}
use Rattle.am_index.proofs.Lists.{rising-take}
use Rattle.am_index_parts.specs.Catalogs.{IsCatalog}
use Rattle.am_index_parts.specs.GoingHome.{homes_of, IsHome}
use Rattle.am_index_parts.proofs.SettledEntries.{settled_inserted, all_are_home, fewer_homes, fewer_live}
use Rattle.am_index_parts.proofs.way_home.settle_between.Goals as goal

pub returns-clause-settled : goal.returns-clause-settled
returns-clause-settled g c =
    let es = g.I.PartIndex.entries c.args.index.now in let xs = c.args.entries.now in
    let homes = c.args.homes.now in let h = c.requires.homes in
    let n = c.insert_among-count.result in let e = c.insert_among-count.ensures in
    let le : n ≤ length homes = e.most in
    let taken : take n homes ≡ homes_of (take n xs) = ap (take n) h.first ∙ fewer_homes n (length homes) xs le in
    e.added ∙ ap (λ l. all_inserted l es) taken ∙
    sym (settled_inserted (take n xs) es (fewer_live n (length homes) xs le h.live)
    (subst IsRising taken (rising-take n homes h.rising))
    (subst (AllFree es) taken e.free))

pub returns-clause-catalog : goal.returns-clause-catalog
returns-clause-catalog g c =
    let es = g.I.PartIndex.entries c.args.index.now in let xs = c.args.entries.now in
    let homes = c.args.homes.now in let h = c.requires.homes in
    let n = c.insert_among-count.result in let e = c.insert_among-count.ensures in
    let le : n ≤ length homes = e.most in
    let taken : take n homes ≡ homes_of (take n xs) = ap (take n) h.first ∙ fewer_homes n (length homes) xs le in
    subst (λ (l : List Entry). IsCatalog l c.add_homes.new.self) (sym e.added)
    (c.add_homes.ensures es (take n homes) (sym (length-take-le n homes e.most))
    (subst (AllByRecursion IsHome) (sym taken) (all_are_home (take n xs))) c.requires.counted)
