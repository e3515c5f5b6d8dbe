use Rattle.std.proofs.Common.{◌≡◌, ℕ, Bool, true, false, cond, Option, Some, None, refl, sym, ◌∙◌, subst}
use Rattle.std.specs.Prelude.{nat_le, not, ◌&&◌}
use Rattle.std.proofs.lemmas.Bool.{false≢true}
use Rattle.am_record.specs.Plain.{Records, is_rising}
use Rattle.am_record.specs.Refusals.{refusal_before_lock, or_else}
use Rattle.am_record.specs.declared.step.Op.TheVariants.{Load, Mark}
use Rattle.am_record.specs.declared.step.Refusal.{Refusal}
use Rattle.am_record.specs.declared.step.Refusal.TheVariants.{TooManyOps, NotRising, TooManyRuns}
use Rattle.am_store.proofs.asked_operation.SourceLoadAskedOperation.refusal.Goals as goal

-- where the transaction is active: by whether it had too many operations, and whether the records rise
abbrev due : Bool → Bool → Bool → Option Refusal
due many rising full = cond many (Some TooManyOps)
    (cond (not rising) (Some NotRising) (cond (true && full) (Some TooManyRuns) None))

where_active : (many rising full : Bool) → rising ≡ true → due many rising full ≡
    or_else (cond many (Some TooManyOps) (cond (false && full) (Some TooManyRuns) None))
    (cond full (Some TooManyRuns) None)
where_active true rising full e = refl
where_active false true true e = refl
where_active false true false e = refl
where_active false false full e = absurd (false≢true e)

-- the refusal of a load is that of any operation, or that all runs are made
of_load : (active : Bool) (ops : ℕ) (full : Bool) (rs : Records) → is_rising rs ≡ true →
    refusal_before_lock active ops full (Load rs) ≡
    or_else (refusal_before_lock active ops full Mark) (cond full (Some TooManyRuns) None)
of_load false ops full rs rising = refl
of_load true ops full rs rising = where_active (nat_le 4096 ops) (is_rising rs) full rising

pub returns-then-is_full : goal.returns-then-is_full
returns-then-is_full g c = sym (of_load c.args.is_active c.args.ops c.args.is_full c.args.self.now
    (subst (λ (rs : Records). is_rising rs ≡ true) c.self.view_is c.self.invariant) ∙
    (λ i. or_else ((sym c.refusal.ensures ∙ c.in_default.is) i) (cond (c.if-is_full.true i) (Some TooManyRuns) None)))

pub returns : goal.returns
returns g c = sym (of_load c.args.is_active c.args.ops c.args.is_full c.args.self.now
    (subst (λ (rs : Records). is_rising rs ≡ true) c.self.view_is c.self.invariant) ∙
    (λ i. or_else ((sym c.refusal.ensures ∙ c.in_default.is) i) (cond (c.if-is_full.false i) (Some TooManyRuns) None)))
