use Rattle.std.proofs.Common.{◌≡◌, ◌≤◌, refl, subst}
use Rattle.am_store_locks.specs.declared.lock_answers.Asked.{Asked}
use Rattle.am_store_locks.specs.declared.lock_answers.Asked.TheVariants.{Granted, TooManyLocks, NoMemory}
use Rattle.am_store.specs.StoreContent.{actives}
use Rattle.am_store.proofs.Grants.{granted_nothing, granted, refused_busy, refused_many, refused_memory}
use Rattle.am_store.proofs.admission.ask.Goals as goal

granted_is : ◌≡◌ {A = Asked} Granted TooManyLocks → ⊥
granted_is e = cc

no_memory_is : ◌≡◌ {A = Asked} NoMemory TooManyLocks → ⊥
no_memory_is e = cc

pub returns-in_default-clause-granted : goal.returns-in_default-clause-granted
returns-in_default-clause-granted c = granted_nothing c.args.txs.now c.args.tx c.args.asked
    c.active-active.ensures.consistent c.requires c.in_default.is

pub returns-in-Granted-clause-granted : goal.returns-in-Granted-clause-granted
returns-in-Granted-clause-granted c =
    granted c.args.txs.now c.args.tx c.in-Some.lock c.active-active.ensures.consistent
    (c.tables_follow.ensures (actives c.args.txs.now)) c.args.asked c.ask.new.self c.in-Some.is c.requires
    c.in-Granted.ensures.busy (subst (λ n. n ≤ 256) c.held-held.ensures.count c.held-held.ensures.few)
    (λ many. granted_is (c.in-Granted.ensures.too_many_locks.1 many)) (c.in-Granted.ensures.granted refl)

pub returns-in-Busy-clause-refused : goal.returns-in-Busy-clause-refused
returns-in-Busy-clause-refused c =
    refused_busy c.args.txs.now c.args.tx c.in-Some.lock c.active-active.ensures.consistent
    (c.tables_follow.ensures (actives c.args.txs.now)) c.args.asked c.in-Busy.holder c.in-Some.is
    c.in-Busy.ensures.busy

pub returns-in-TooManyLocks-clause-refused : goal.returns-in-TooManyLocks-clause-refused
returns-in-TooManyLocks-clause-refused c =
    refused_many c.args.txs.now c.args.tx c.in-Some.lock c.active-active.ensures.consistent
    (c.tables_follow.ensures (actives c.args.txs.now)) c.args.asked c.in-Some.is
    (c.in-TooManyLocks.ensures.too_many_locks.0 refl)

pub returns-in-NoMemory-clause-refused : goal.returns-in-NoMemory-clause-refused
returns-in-NoMemory-clause-refused c =
    refused_memory c.args.txs.now c.args.tx c.in-Some.lock c.active-active.ensures.consistent
    (c.tables_follow.ensures (actives c.args.txs.now)) c.args.asked c.in-Some.is c.in-NoMemory.ensures.busy
    (subst (λ n. n ≤ 256) c.held-held.ensures.count c.held-held.ensures.few)
    (λ many. no_memory_is (c.in-NoMemory.ensures.too_many_locks.1 many)) (c.in-NoMemory.ensures.no_memory refl)
