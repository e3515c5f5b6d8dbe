use Rattle.std.proofs.Common.{◌≤◌, ap, ◌∙◌, subst}
use Rattle.am_store_locks.specs.Table.{is_owner}
use Rattle.am_audit_locks.proofs.Tables.{owners_are, answer_to, granted_is, granted_nothing, answer_nothing}
use Rattle.am_audit_locks.proofs.lock_requests.ask.Goals as goal

pub held-few-requires : goal.held-few-requires
held-few-requires g c = ap (λ table. is_owner table c.args.tx) c.requires.0 ∙ owners_are g.txs c.args.tx ∙
    c.requires.1.1

pub ask-requires : goal.ask-requires
ask-requires g c = ap (λ table. is_owner table c.args.tx) c.requires.0 ∙ owners_are g.txs c.args.tx ∙ c.requires.1.1

pub returns-clause-answer : goal.returns-clause-answer
returns-clause-answer g c = answer_to g.txs c.args.tx c.in-Some.lock c.args.locks.now c.args.asked c.ask.result
    c.requires.1.0 c.requires.0 c.in-Some.is (subst (λ n. n ≤ 256) c.held-few.ensures.count c.held-few.ensures.few)
    c.ask.ensures.busy c.ask.ensures.too_many_locks

pub returns-clause-granted : goal.returns-clause-granted
returns-clause-granted g c = λ granted. granted_is g.txs c.args.tx c.in-Some.lock c.args.locks.now
    c.ask.new.self c.args.asked c.requires.0 c.in-Some.is (c.ask.ensures.granted granted)

pub returns-in_default-clause-answer : goal.returns-in_default-clause-answer
returns-in_default-clause-answer g c = answer_nothing g.txs c.args.tx c.args.asked c.in_default.is

pub returns-in_default-clause-granted : goal.returns-in_default-clause-granted
returns-in_default-clause-granted g c = λ granted. granted_nothing g.txs c.args.tx c.args.locks.now c.args.asked
    c.requires.1.0 c.requires.0 c.in_default.is
