use Rattle.std.proofs.Common.{◌≡◌, ◌+◌, ℕ, Some, sym, ◌∙◌, subst}
use Rattle.std.specs.Prelude.{slice_get}
use Rattle.am_c_store.proofs.Turns.{IsLoading, sum_fits, brought_in, not_brought, is_over}
use Rattle.am_c_store.proofs.runs.load_in_turn.Goals as goal

pub overflow_add-records : goal.overflow_add-records
overflow_add-records g c =
    let next : Some c.in-Some.run' ≡ slice_get c.loop-run.runs 0 = sym c.in-Some.is ∙ c.run.ensures.run in
    record {
      fits = rw c.len-len.ensures (sum_fits _ _ _ _ _ _ _ c.in-Some.run' c.loop-run.invariant next c.requires);
    }

pub loop-run-preserved : goal.loop-run-preserved
loop-run-preserved g c =
    let next : Some c.in-Some.run' ≡ slice_get c.loop-run.runs 0 = sym c.in-Some.is ∙ c.run.ensures.run in
    subst (λ (n : ℕ). IsLoading c.args.tx c.args.bringing c.args.runs c.args.store.now.value c.pass.new.self
    (c.loop-run.records + n) c.bring.new.store.value) (sym c.len-len.ensures)
    (rw c.pass.ensures (brought_in _ _ _ _ _ _ _ _ c.in-Some.run' _ c.loop-run.invariant next c.bring.ensures
    c.in-Done.is))

pub returns-in_default-bring : goal.returns-in_default-bring
returns-in_default-bring g c =
    let next : Some c.in-Some.run' ≡ slice_get c.loop-run.runs 0 = sym c.in-Some.is ∙ c.run.ensures.run in
    not_brought _ _ _ _ _ _ _ _ c.in-Some.run' _ c.loop-run.invariant next c.bring.ensures c.in_default-bring.not-Done

pub returns : goal.returns
returns g c = is_over _ _ _ _ _ _ _ c.loop-run.invariant (sym c.in_default.is ∙ c.run.ensures.run)
