use Rattle.std.proofs.Common.{◌≡◌, ◌+◌, ◌∷◌, [], ◌++◌, take, sym, ap, ◌∙◌, subst, arith, add-one, inl, inr}
use Rattle.std.proofs.lemmas.Grind.{common_steps}
use Rattle.std.proofs.lemmas.List.{map-append}
use Rattle.std.proofs.Math.Seq.{take-suc}
use Rattle.am_store_locks.specs.Table.{blockers}
use Rattle.am_store_locks.specs.Answers.{IsLeastOf, MatchBusy}
use Rattle.am_audit_locks.specs.OnlyOwnerLocks.{only_owner, lock_at, listed_locks}
use Rattle.am_audit_locks.proofs.OnlyOwnerLocks.{never_busy, never_full, granted_to}
use Rattle.am_audit_locks.proofs.OnlyOwners.{few_listed}
use Rattle.am_audit_locks.proofs.held_locks.enter_all.Goals as goal

pub unreachable-requires : goal.unreachable-requires
unreachable-requires c =
    let before = take c.loop-asked.asked-index c.args.listed.now in
    elim c.in-Busy.is [
      | inl busy ↦ never_busy c.args.number (listed_locks before) c.lock.result c.loop-asked.table
          c.loop-asked.invariant busy.0
          (subst (λ r. MatchBusy r (IsLeastOf (blockers c.loop-asked.table c.args.number c.lock.result))
          (blockers c.loop-asked.table c.args.number c.lock.result ≡ [])) busy.1 c.ask.ensures.busy)
      | inr full ↦ never_full c.args.number (listed_locks before) c.lock.result c.loop-asked.table
          c.loop-asked.invariant (few_listed before (grind (arith, common_steps)))
          (c.ask.ensures.too_many_locks.0 full).2
    ]

pub loop-asked-preserved : goal.loop-asked-preserved
loop-asked-preserved c =
    let listed = c.args.listed.now in
    let i = c.loop-asked.asked-index in
    let next : take (i + 1) listed ≡ take i listed ++ c.asked-item.result ∷ [] =
    ap (λ n. take n listed) (add-one i) ∙ take-suc listed i c.asked-item.result c.loop-asked-test.true
    ∙ ap (λ l. take i listed ++ l ∷ []) (sym c.asked-item.is) in
    granted_to c.args.number (listed_locks (take i listed)) c.lock.result c.loop-asked.table c.loop-asked.invariant
    c.ask.new.self (c.ask.ensures.granted c.in-Granted.is)
    ∙ ap (λ l. only_owner c.args.number (listed_locks (take i listed) ++ l ∷ []) ∷ []) c.lock.ensures
    ∙ ap (λ ls. only_owner c.args.number ls ∷ []) (sym (ap listed_locks next ∙ map-append lock_at (take i listed)
    (c.asked-item.result ∷ [])))
