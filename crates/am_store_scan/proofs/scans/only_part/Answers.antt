use Rattle.std.proofs.Common.{◌≡◌, ◌⊎◌, ◌≤◌, ◌+◌, ◌∙◌, ℕ, false, Option, None, Some, sym, subst, ⊎_elim, inl, inr}
use Rattle.std.specs.Option.{IfNone, is_some}
use Rattle.am_store_scan.proofs.GatheredHeads.{max_one, only_lives}
use Rattle.am_store_scan.proofs.scans.only_part.Goals as goal

nothing : {A P : Type 0} (o : Option A) → is_some o ≡ false → IfNone o P → P
nothing None h none = none
nothing (Some x) h none = absurd (cc)

pub returns-clause-only : goal.returns-clause-only
returns-clause-only g c =
    let es = c.args.parts.now.entries in
    let part = c.in_ok-part.part in
    let run = c.first_run-first_run.result in
    let to = c.max.result in
    let which = subst (λ (n : ℕ). (n ≡ part + 1) ⊎ (n ≤ run)) (sym c.max.ensures)
    (⊎_elim (λ same. inl (same ∙ c.in_ok-above.ensures.1)) (λ low. inr low) (max_one c.in_ok-above.above run)) in
    only_lives part run to c.in_ok-part.ensures.passed c.first_run-first_run.ensures.none_before which
    (nothing c.next_part-2.result (sym c.is_some.ensures ∙ c.if-is_some.false) c.next_part-2.ensures.none)
