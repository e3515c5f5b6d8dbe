use Rattle.std.specs.Prelude.{option_copied}
use Rattle.std.proofs.Common.{◌≡◌, ◌+◌, ◌∷◌, ◌++◌, [], None, take, drop, suc, sym, ap, ◌∙◌, subst, arith}
use Rattle.std.proofs.Math.Seq.{drop-cons, take-add}
use Rattle.std.specs.List.{AllByRecursion}
use Rattle.am_record.proofs.Lists.{AllByRecursion-push}
use Rattle.am_record.specs.declared.entry.Entry.{Entry}
use Rattle.am_index.specs.Entries.{find, insert_entry, all_inserted}
use Rattle.am_index.proofs.Insertions.{free_before, inserted_further}
use Rattle.am_index_btree.specs.EntriesBetween.{GoesAmong}
use Rattle.am_index_btree.proofs.EntriesBetween.{among_further}
use Rattle.am_index_btree.proofs.insert_among.put_all_among.Goals as goal

pub put-preserved : goal.put-preserved
put-preserved c =
    let es = c.args.leaf.now.entries in let more = c.args.more.now in let at = c.put.added in
    let bound = option_copied c.args.bound in
    let x = c.index-more-added.result in let before = c.put.invariant in let put = c.if-not-put_among.ensures.put in
    let ys = take at more in
    let further : take (at + 1) more ≡ ys ++ x ∷ [] = take-add at 1 more ∙
    ap (λ l. ys ++ take 1 l) (drop-cons more at x c.put-test.true ∙
    ap (λ (y : Entry). y ∷ drop (suc at) more) (sym c.index-more-added.is)) in
    record {
      range = omega (arith, c.put-test.true);
      among = subst (AllByRecursion (GoesAmong es bound)) (sym further)
          (AllByRecursion-push (GoesAmong es bound) ys x before.among
          (among_further es bound ys before.among x (subst (λ l. GoesAmong l bound x) before.entries put.among)));
      free = subst (AllByRecursion (λ (e : Entry). find es e.part e.key ≡ None)) (sym further)
          (AllByRecursion-push (λ (e : Entry). find es e.part e.key ≡ None) ys x before.free
          (free_before ys es x.part x.key (ap (λ l. find l x.part x.key) (sym before.entries) ∙ put.free)));
      entries = put.added ∙ ap (λ l. insert_entry l x) before.entries ∙ sym (inserted_further ys x es) ∙
          ap (λ l. all_inserted l es) (sym further);
      same_room = c.put_among.ensures.same_room ∙ before.same_room;
    }
