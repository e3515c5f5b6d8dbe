use Rattle.std.proofs.Common.{◌∙◌, ◌++◌, ◌∷◌, [], Some, refl, sym, ap, subst, arith}
use Rattle.am_audit.specs.AuditStates.{IsSoFar}
use Rattle.am_audit.specs.declared.trace_audit.Audit.{Audit}
use Rattle.am_audit.proofs.Checks.{none_there, some_there, stands_here, is_told, goes_wrong, goes_right, stays_wrong}
use Rattle.am_audit.proofs.Checks.{one_more}
use Rattle.am_audit.proofs.trace_audit.Audit.judge.Goals as goal
use Rattle.am_audit.proofs.trace_audit.Audit.judge.Goals.{then-is_none, in-Err, in_default, else-is_none}

pub judge-requires : goal.judge-requires
judge-requires c = (
  stands_here c.formed_traces_follow.ensures c.requires.seen c.args.self.now.checker c.args.self.now.fault
      c.args.self.now.seen (none_there _ _ c.is_none.ensures c.if-is_none.true) c.requires.judged.so_far,
  refl,
)

pub fault_of-requires : goal.fault_of-requires
fault_of-requires c =
    let low = is_told c.formed_traces_follow.ensures c.requires.seen c.args.self.now.checker c.args.self.now.fault
    c.args.self.now.seen c.args.step c.args.reply c.in-Err.event_fault
    (none_there _ _ c.is_none.ensures c.if-is_none.true) c.requires.judged.so_far c.requires.judged.count
    c.in-Err.ensures.event_fault in
    let room = c.requires.room in
    omega arith

pub returns : goal.returns
returns c = λ most_runs seen h.
    elim c.if-is_none.branch [
      | then-is_none w ↦
          let none = none_there _ _ c.is_none.ensures w.if-is_none.true in
          elim w.match-judge.branch [
            | in-Err u ↦
                let is = w.self-is ∙ u.self-is in
                one_more most_runs c.args.self.now c.if-is_none.self seen c.args.step c.args.reply h
                (ap (λ (a : Audit). a.checker.most_runs) is ∙ w.judge.ensures.most) (ap (λ (a : Audit). a.seen) is)
                (subst (λ (a : Audit). IsSoFar a.fault a.checker (seen ++ (c.args.step, c.args.reply) ∷ [])) (sym is)
                (subst (λ f. IsSoFar (Some f) w.judge.new.self (seen ++ (c.args.step, c.args.reply) ∷ []))
                (sym u.fault_of.ensures)
                (goes_wrong c.formed_traces_follow.ensures seen c.args.self.now.checker c.args.self.now.fault
                c.args.self.now.seen c.args.step c.args.reply w.judge.new.self u.in-Err.event_fault w.judge.ensures.most
                none h.so_far
                h.count u.in-Err.ensures.event_fault)))
            | in_default u ↦
                let is = w.self-is ∙ u.self-is in
                one_more most_runs c.args.self.now c.if-is_none.self seen c.args.step c.args.reply h
                (ap (λ (a : Audit). a.checker.most_runs) is ∙ w.judge.ensures.most) (ap (λ (a : Audit). a.seen) is)
                (subst (λ (a : Audit). IsSoFar a.fault a.checker (seen ++ (c.args.step, c.args.reply) ∷ [])) (sym is)
                (goes_right c.formed_traces_follow.ensures seen c.args.self.now.checker c.args.self.now.fault
                c.args.self.now.seen c.args.step c.args.reply w.judge.new.self w.judge.ensures.most none h.so_far
                h.count
                u.in_default.ensures.takes))
          ]
      | else-is_none w ↦
          one_more most_runs c.args.self.now c.if-is_none.self seen c.args.step c.args.reply h
          (ap (λ (a : Audit). a.checker.most_runs) w.self-is) (ap (λ (a : Audit). a.seen) w.self-is)
          (subst (λ (a : Audit). IsSoFar a.fault a.checker (seen ++ (c.args.step, c.args.reply) ∷ [])) (sym w.self-is)
          (stays_wrong seen ((c.args.step, c.args.reply) ∷ []) c.args.self.now.checker
          c.args.self.now.fault (some_there _ _ c.is_none.ensures w.if-is_none.false) h.so_far))
    ]
