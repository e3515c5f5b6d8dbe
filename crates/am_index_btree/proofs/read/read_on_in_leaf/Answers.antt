use Rattle.std.proofs.Common.{◌≢◌, ◌++◌, ◌<◌, ◌≤◌, Bool, [], ◌∷◌, length, take, eqb, sym, ap, ◌∙◌, arith}
use Rattle.std.proofs.lemmas.Bool.{eq-eqb, ne_eqb, eqb-true, true≢false}
use Rattle.std.proofs.lemmas.List.{take_all, drop_all, length-append}
use Rattle.std.specs.List.{take_while}
use Rattle.am_record.specs.declared.entry.Entry.{Entry}
use Rattle.am_index.proofs.Batches.{passes_on, ends_here}
use Rattle.am_index_btree.proofs.ChildWalks.{walk_on, walk_full, walk_out}
use Rattle.am_index_btree.proofs.Seeks.{such_at}
use Rattle.am_index_btree.proofs.read.read_on_in_leaf.Goals as goal

pub loop-at-init : goal.loop-at-init
loop-at-init c = record {
  fits = c.entries.ensures.fits;
  same = ap (λ es. take 16 (c.args.batch.now ++ es))
      (such_at c.args.start c.args.part c.args.key c.args.leaf.now.entries c.start_in_leaf-at.result
      c.start_in_leaf-at.ensures.begins c.start_in_leaf-at.ensures.rising);
}

pub returns-then-is_full-clause-read : goal.returns-then-is_full-clause-read
returns-then-is_full-clause-read c = walk_full c.loop-at.invariant
    (omega (arith, eqb-true _ _ (sym c.is_full.ensures.full ∙ c.if-is_full.true)))

pub returns-then-entry-part-clause-read : goal.returns-then-entry-part-clause-read
returns-then-entry-part-clause-read c =
    let in_part : Entry → Bool = λ e. eqb e.part c.args.part in
    let within : c.loop-at.at < length c.args.leaf.now.entries =
    omega (arith, c.loop-at-test.true, c.len-at-end.ensures.all) in
    walk_out c.loop-at.invariant (ends_here in_part c.args.leaf.now.entries c.loop-at.at c.get-entry.result within
    c.get-entry.ensures (ne_eqb _ _ c.if-entry-part.true))

pub loop-at-preserved : goal.loop-at-preserved
loop-at-preserved c =
    let batch = c.loop-at.batch in let e = c.get-entry.result in
    let in_part : Entry → Bool = λ e. eqb e.part c.args.part in
    let within : c.loop-at.at < length c.args.leaf.now.entries =
    omega (arith, c.loop-at-test.true, c.len-at-end.ensures.all) in
    let not_full : length batch ≢ 16 = λ full. true≢false
    (sym (eq-eqb _ _ full) ∙ (sym c.is_full.ensures.full ∙ c.if-is_full.false)) in
    let fits : length (batch ++ e ∷ []) ≤ 16 =
    omega (arith, c.is_full.ensures.fits, not_full, length-append batch (e ∷ [])) in
    walk_on c.loop-at.invariant (e ∷ []) _ _ (passes_on in_part c.args.leaf.now.entries c.loop-at.at e within
    c.get-entry.ensures (eq-eqb _ _ c.if-entry-part.false))
    (c.push.ensures ∙ sym (take_all 16 (batch ++ e ∷ []) fits))

pub returns-clause-read : goal.returns-clause-read
returns-clause-read c =
    let past : length c.args.leaf.now.entries ≤ c.loop-at.at =
    omega (arith, c.loop-at-test.false, c.len-at-end.ensures.all) in
    walk_out c.loop-at.invariant
    (ap (take_while (λ e. eqb e.part c.args.part)) (drop_all c.loop-at.at c.args.leaf.now.entries past))
