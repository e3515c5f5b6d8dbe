use Rattle.std.proofs.Common.{◌≡◌, ◌≤◌, ◌∷◌, suc, drop, length, sym, ap, ◌∙◌, subst, arith}
use Rattle.std.proofs.Math.Seq.{drop-cons, drop-length}
use Rattle.std.specs.Prelude.{is_none}
use Rattle.std.proofs.lemmas.Bool.{and_from, and_left, and_right}
use Rattle.am_record.specs.Interval.{within}
use Rattle.am_record.specs.declared.entry.Entry.{Entry}
use Rattle.am_store_merge.specs.LockHolders.{holder_of}
use Rattle.am_store_merge.specs.Steps.{is_free_in}
use Rattle.am_store_merge.proofs.PassingPrefixes.{passing, first_passes, one_more, no_more, within_limit}
use Rattle.am_store_merge.proofs.merge.count_free.Goals as goal
use Rattle.am_store_merge.proofs.merge.count_free.Goals.{then-at-most-via-then-at-most}
use Rattle.am_store_merge.proofs.merge.count_free.Goals.{then-at-most-via-else-at-most+then-not-contains}
use Rattle.am_store_merge.proofs.merge.count_free.Goals.{
  then-at-most-via-else-at-most+else-not-contains+then-not-is_free,
}

pub returns-then-at-most : goal.returns-then-at-most
returns-then-at-most c =
    let test = is_free_in (holder_of c.args.locks.now) c.args.range in
    let es = c.args.entries.now in let at = c.loop-at.at in let e = c.index-entries-at.result in
    let rest : drop at es ≡ e ∷ drop (suc at) es = drop-cons es at e c.loop-at-test.true ∙
    ap (λ (x : Entry). x ∷ drop (suc at) es) (sym c.index-entries-at.is) in
    elim c.then-at-most.branch [
      | then-at-most-via-then-at-most w ↦
          omega (arith, c.loop-at.invariant, w.if-at-most.true, within_limit test c.args.most es)
      | then-at-most-via-else-at-most+then-not-contains w ↦
          no_more test at c.args.most es c.loop-at.invariant (ap (first_passes test) rest ∙
          and_left (within c.args.range e.key) (is_none (holder_of c.args.locks.now e.key))
          (sym w.contains.ensures ∙ w.if-not-contains.true))
      | then-at-most-via-else-at-most+else-not-contains+then-not-is_free w ↦
          no_more test at c.args.most es c.loop-at.invariant (ap (first_passes test) rest ∙
          and_right (within c.args.range e.key) (is_none (holder_of c.args.locks.now e.key))
          (sym w.is_free.ensures ∙ w.if-not-is_free.true))
    ]

pub loop-at-preserved : goal.loop-at-preserved
loop-at-preserved c =
    let test = is_free_in (holder_of c.args.locks.now) c.args.range in
    let es = c.args.entries.now in let at = c.loop-at.at in let e = c.index-entries-at.result in
    let rest : drop at es ≡ e ∷ drop (suc at) es = drop-cons es at e c.loop-at-test.true ∙
    ap (λ (x : Entry). x ∷ drop (suc at) es) (sym c.index-entries-at.is) in
    let on : suc at ≤ passing test c.args.most es =
    one_more test at c.args.most es (omega (arith, c.if-at-most.false)) c.loop-at.invariant
    (ap (first_passes test) rest ∙
    and_from (within c.args.range e.key) (is_none (holder_of c.args.locks.now e.key))
    (sym c.contains.ensures ∙ c.if-not-contains.false)
    (sym c.is_free.ensures ∙ c.if-not-is_free.false)) in
    omega (arith, on)

pub returns : goal.returns
returns c =
    let test = is_free_in (holder_of c.args.locks.now) c.args.range in
    let es = c.args.entries.now in let at = c.loop-at.at in
    let end : at ≡ length es = omega (arith, c.loop-at-test.false, c.loop-at.auto) in
    subst (λ n. n ≡ passing test c.args.most es) end
    (no_more test at c.args.most es c.loop-at.invariant
    (ap (first_passes test) (ap (λ n. drop n es) end ∙ drop-length es)))
