use Rattle.std.proofs.Common.{◌≡◌, ◌+◌, ◌++◌, [], ◌∷◌, take, sym, ap, ◌∙◌, subst, arith, add-one}
use Rattle.std.proofs.lemmas.Grind.{common_steps}
use Rattle.std.proofs.Math.Seq.{take-suc}
use Rattle.std.specs.Prelude.{is_some}
use Rattle.am_record_model.specs.Slots.{live}
use Rattle.am_record_model.proofs.Leasts.{IsLeast, least_found, least_of_none, least_stays, least_moves}
use Rattle.am_record_model.proofs.sorted_records.SortedRecords.least_taken.Goals as goal
use Rattle.am_record_model.proofs.sorted_records.SortedRecords.least_taken.Goals.{then-is_some, else-is_some}

pub loop-pair-init : goal.loop-pair-init
loop-pair-init c = least_of_none _

pub loop-pair-preserved : goal.loop-pair-preserved
loop-pair-preserved c =
    let next : take (c.loop-pair.pair-index + 1) c.args.pairs.now ≡ take c.loop-pair.pair-index c.args.pairs.now ++
    c.pair-item.result ∷ [] =
    ap (λ n. take n c.args.pairs.now) (add-one c.loop-pair.pair-index) ∙
    take-suc c.args.pairs.now c.loop-pair.pair-index c.pair-item.result c.loop-pair-test.true
    ∙ ap (λ r. take c.loop-pair.pair-index c.args.pairs.now ++ r ∷ []) (sym c.pair-item.is) in
    subst (λ rs. IsLeast (live c.args.self.now) rs c.if-is_some.least) (sym next)
    (elim c.if-is_some.branch [
      | then-is_some w ↦ subst (IsLeast (live c.args.self.now) (take c.loop-pair.pair-index c.args.pairs.now ++
          c.pair-item.result ∷ [])) (sym (w.least-is ∙ w.lesser-least.ensures))
          (least_moves _ _ _ _ c.loop-pair.invariant (ap is_some (sym c.get.ensures) ∙ sym c.is_some.ensures ∙
          w.if-is_some.true))
      | else-is_some w ↦ subst (IsLeast (live c.args.self.now) (take c.loop-pair.pair-index c.args.pairs.now ++
          c.pair-item.result ∷ [])) (sym w.least-is) (least_stays _ _ _ _ c.loop-pair.invariant
          (ap is_some (sym c.get.ensures) ∙ sym c.is_some.ensures ∙ w.if-is_some.false))
    ])

pub returns : goal.returns
returns c =
    let all : take c.loop-pair.pair-index c.args.pairs.now ≡ c.args.pairs.now = grind (arith, common_steps) in
    least_found _ _ _ (subst (λ rs. IsLeast (live c.args.self.now) rs c.loop-pair.least) all c.loop-pair.invariant)
