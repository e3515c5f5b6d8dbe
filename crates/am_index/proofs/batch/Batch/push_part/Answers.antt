use Rattle.std.proofs.Common.{◌≡◌, ◌≢◌, ◌++◌, ◌+◌, Bool, [], ◌∷◌, length, take, drop, eqb, sym, ap, ◌∙◌, append_assoc}
use Rattle.std.proofs.Common.{arith}
use Rattle.std.proofs.lemmas.Bool.{eq-eqb, ne_eqb, eqb-true, true≢false}
use Rattle.std.proofs.lemmas.List.{drop_all, length-append}
use Rattle.std.specs.List.{take_while}
use Rattle.am_record.specs.declared.entry.Entry.{Entry}
use Rattle.am_index.proofs.Batches.{take_whole, take_full, passes_on, ends_here}
use Rattle.am_index.proofs.batch.Batch.push_part.Goals as goal
use Rattle.am_index.proofs.batch.Batch.push_part.Goals.{then-is_full-via-then-is_full}
use Rattle.am_index.proofs.batch.Batch.push_part.Goals.{then-is_full-via-else-is_full+then-entry-part}

pub returns-then-is_full : goal.returns-then-is_full
returns-then-is_full c =
    let batch = c.loop-entry.self in
    let in_part : Entry → Bool = λ e. eqb e.part c.args.part in
    let left = take_while in_part (drop c.loop-entry.entry-index c.args.list.now) in
    let taken : take 16 (batch ++ left) ≡ batch =
    elim c.then-is_full.branch [
      | then-is_full-via-then-is_full w ↦ take_full 16 batch left
          (eqb-true _ _ (sym c.is_full.ensures.full ∙ w.if-is_full.true))
      | then-is_full-via-else-is_full+then-entry-part w ↦
          ap (λ l. take 16 (batch ++ l)) (ends_here in_part c.args.list.now c.loop-entry.entry-index c.entry-item.result
          c.loop-entry-test.true c.entry-item.is (ne_eqb _ _ w.if-entry-part.true))
          ∙ take_whole 16 batch c.loop-entry.invariant.fits
    ] in
    sym taken ∙ c.loop-entry.invariant.same

pub loop-entry-preserved : goal.loop-entry-preserved
loop-entry-preserved c =
    let batch = c.loop-entry.self in
    let e = c.entry-item.result in
    let in_part : Entry → Bool = λ e. eqb e.part c.args.part in
    let rest = take_while in_part (drop (c.loop-entry.entry-index + 1) c.args.list.now) in
    let not_full : length batch ≢ 16 = λ full. true≢false
    (sym (eq-eqb _ _ full) ∙ (sym c.is_full.ensures.full ∙ c.if-is_full.false)) in
    let goes_on = passes_on in_part c.args.list.now c.loop-entry.entry-index e c.loop-entry-test.true c.entry-item.is
    (eq-eqb _ _ c.if-entry-part.false) in
    record {
      fits = omega (arith, c.is_full.ensures.fits, not_full, ap length c.push.ensures, length-append batch (e ∷ []));
      same = ap (λ l. take 16 (l ++ rest)) c.push.ensures ∙ ap (take 16) (append_assoc batch (e ∷ []) rest) ∙
          ap (λ l. take 16 (batch ++ l)) (sym goes_on) ∙ c.loop-entry.invariant.same;
    }

pub returns : goal.returns
returns c =
    let batch = c.loop-entry.self in
    let in_part : Entry → Bool = λ e. eqb e.part c.args.part in
    sym (take_whole 16 batch c.loop-entry.invariant.fits) ∙ ap (λ l. take 16 (batch ++ take_while in_part l))
    (sym (drop_all c.loop-entry.entry-index c.args.list.now c.loop-entry-test.false)) ∙ c.loop-entry.invariant.same
