use Rattle.std.proofs.Common.{◌≡◌, ◌∷◌, [], refl, sym, ap, ◌∙◌}
use Rattle.std.proofs.lemmas.Bool.{cond-true}
use Rattle.am_record.specs.Asks.{with_asked}
use Rattle.am_store_locks.specs.Table.{with_locks}
use Rattle.am_law_serial.specs.Machine.{locks_in}
use Rattle.am_record.specs.Asks.{lock_of}
use Rattle.am_audit_locks.specs.OnlyOwnerLocks.{only_owner, listed_locks}
use Rattle.am_audit_locks.proofs.OnlyOwners.{few_listed, listed_granted, listed_free, listed_few}
use Rattle.am_audit_locks.proofs.held_locks.HeldLocks.ask.Goals as goal

pub returns-then-list-clause-answer : goal.returns-then-list-clause-answer
returns-then-list-clause-answer g c =
    let n = c.self.inside.number in
    let listed = listed_locks c.self.inside.listed.items in
    let here : only_owner n listed ∷ [] ≡ c.args.self.now =
    sym (cond-true c.self.inside.is_listed (only_owner n listed ∷ []) c.self.inside.table c.if-self.true) ∙
    c.self.view_is in (
      listed_free g.txs c.args.tx n listed c.requires.1.1.0 (here ∙ c.requires.0) (lock_of c.args.op.now),
      listed_few g.txs c.args.tx n listed c.requires.1.1.0 (here ∙ c.requires.0) (lock_of c.args.op.now)
          (few_listed c.self.inside.listed.items (c.if-list.ensures.few refl)),
    )

pub returns-then-list-clause-granted : goal.returns-then-list-clause-granted
returns-then-list-clause-granted g c = λ granted.
    let n = c.self.inside.number in
    let listed = listed_locks c.self.inside.listed.items in
    let here : only_owner n listed ∷ [] ≡ c.args.self.now =
    sym (cond-true c.self.inside.is_listed (only_owner n listed ∷ []) c.self.inside.table c.if-self.true) ∙
    c.self.view_is in
    cond-true c.self.inside.is_listed (only_owner n (listed_locks c.list.new.listed.items) ∷ []) c.self.inside.table
    c.if-self.true
    ∙ ap (λ ls. only_owner n ls ∷ []) (c.list.ensures.listed c.if-list.true)
    ∙ listed_granted g.txs c.args.tx n listed c.requires.1.1.0 (here ∙ c.requires.0) (lock_of c.args.op.now)
    ∙ ap (λ table. with_locks table c.args.tx (with_asked (locks_in g.txs c.args.tx) (lock_of c.args.op.now))) here
