use Rattle.std.proofs.Common.{◌≡◌, ◌+◌, ◌<◌, ◌∷◌, ◌++◌, [], length, get_or, take, drop, suc, sym, ap, ◌∙◌, subst}
use Rattle.std.proofs.Math.Seq.{drop-cons, take-add}
use Rattle.std.specs.Prelude.{IsSome}
use Rattle.am_record.specs.declared.entry.Entry.{Entry}
use Rattle.am_index.specs.Entries.{find}
use Rattle.am_index.proofs.Rooms.{keep_on}
use Rattle.am_index_parts.specs.Partitions.{settled_too, all_settled}
use Rattle.am_index_parts.proofs.SettledEntries.{settled_on}
use Rattle.am_index_parts.proofs.StandingEntries.{with_all_settled}
use Rattle.am_index_parts.proofs.way_home.settle_first.Goals as goal

pub returns-in-Ok-clause-settled : goal.returns-in-Ok-clause-settled
returns-in-Ok-clause-settled g c =
    let es = g.I.PartIndex.entries c.args.index.now in let xs = c.args.entries.now in
    let between = c.settle_between-between in let x = c.in-Some.next.now in
    let found = c.in-Some.ensures.lookup in
    let inside : between.result < length xs = found.3.0 in
    let here : x ≡ get_or xs between.result x = found.1 in
    let ys = take between.result xs in
    let further : take (between.result + 1) xs ≡ ys ++ x ∷ [] = take-add between.result 1 xs ∙
    ap (λ l. ys ++ take 1 l) (drop-cons xs between.result x inside ∙
    ap (λ (y : Entry). y ∷ drop (suc between.result) xs) (sym here)) in
    c.in-Ok.ensures.ok ∙ ap (settled_too x) between.ensures.settled ∙
    sym (settled_on ys (x ∷ []) es) ∙ ap (λ l. all_settled l es) (sym further)

pub returns-in-Ok-clause-rooms : goal.returns-in-Ok-clause-rooms
returns-in-Ok-clause-rooms g c =
    let es = g.I.PartIndex.entries c.args.index.now in let between = c.settle_between-between in
    let stood = g.I.PartIndex.entries between.new.index in let new = g.I.PartIndex.entries c.settle.new.index in
    keep_on _ _ _ stood new between.ensures.rooms c.settle.ensures.rooms
    (λ part key among stands. subst (λ l. IsSome (find l part key)) (sym between.ensures.settled)
    (with_all_settled part key (take between.result c.args.entries.now) es (c.requires.room.places part key among)))
