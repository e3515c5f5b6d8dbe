use Rattle.std.proofs.Common.{◌≡◌, ◌<◌, true, length, inl, inr, sym, ◌∙◌, arith}
use Rattle.std.specs.Prelude.{◌⊎◌, option_copied}
use Rattle.std.proofs.lemmas.Bool.{not-false}
use Rattle.am_index.proofs.Searches.{find_absent, insert_gap}
use Rattle.am_index_btree.specs.EntriesBetween.{is_below}
use Rattle.am_index_btree.proofs.EntriesBetween.{among_gap}
use Rattle.am_index_btree.proofs.insert_among.put_among.Goals as goal
use Rattle.am_index_btree.proofs.insert_among.put_among.Goals.{then-at-len, else-at-len}

pub returns-clause-put : goal.returns-clause-put
returns-clause-put c =
    let es = c.args.leaf.now.entries in let x = c.args.entry.now in let at = c.in-Err.at in
    let gap = c.in-Err.ensures.absent in
    let end : (at < length es) ⊎ (is_below (option_copied c.args.bound) x ≡ true) =
    elim c.if-at-len.branch [
      | then-at-len w ↦ inr (sym w.is_below.ensures ∙ not-false _ (sym w.value-is ∙ c.if-not-is_below.false))
      | else-at-len w ↦ inl (omega (arith, w.if-at-len.false, c.len-len.ensures.all, gap.in_range))
    ] in
    record {
      among = among_gap es (option_copied c.args.bound) x at gap (omega (arith, c.if-at-eq0.false)) end;
      free = find_absent es x.part x.key at gap;
      added = c.insert_at.ensures.entries ∙ insert_gap es x at gap;
    }
