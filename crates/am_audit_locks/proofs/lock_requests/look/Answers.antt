use Rattle.std.proofs.Common.{length, sym, ap, ◌∙◌}
use Rattle.am_store_locks.specs.Table.{is_owner, locks_owned, with_locks}
use Rattle.am_record.specs.Asks.{with_asked}
use Rattle.am_law_serial.specs.Machine.{locks_in}
use Rattle.am_audit_locks.proofs.Tables.{owners_are, still_owner, held_before, given_back}
use Rattle.am_audit_locks.proofs.lock_requests.look.Goals as goal

pub held-held-requires : goal.held-held-requires
held-held-requires g c = ap (λ table. is_owner table c.args.tx) c.requires.0 ∙ owners_are g.txs c.args.tx ∙
    c.requires.1.1

pub cut-requires-clause-owner : goal.cut-requires-clause-owner
cut-requires-clause-owner g c = still_owner g.txs c.args.tx c.args.asked c.requires.1.0 c.requires.1.1
    c.ask-answer.new.locks
    (c.ask-answer.ensures.granted c.in-Granted.is ∙
    ap (λ table. with_locks table c.args.tx (with_asked (locks_in g.txs c.args.tx) c.args.asked)) c.requires.0)

pub cut-requires-clause-held : goal.cut-requires-clause-held
cut-requires-clause-held g c = held_before g.txs c.args.tx c.args.asked c.requires.1.0 c.requires.1.1
    c.ask-answer.new.locks
    (c.ask-answer.ensures.granted c.in-Granted.is ∙
    ap (λ table. with_locks table c.args.tx (with_asked (locks_in g.txs c.args.tx) c.args.asked)) c.requires.0)
    c.held-held.result (c.held-held.ensures.count ∙ ap (λ table. length (locks_owned table c.args.tx)) c.requires.0)

pub returns-in-Granted-clause-same : goal.returns-in-Granted-clause-same
returns-in-Granted-clause-same g c =
    c.cut.ensures ∙ given_back g.txs c.args.tx c.args.asked c.requires.1.0 c.requires.1.1 c.ask-answer.new.locks
    (c.ask-answer.ensures.granted c.in-Granted.is ∙
    ap (λ table. with_locks table c.args.tx (with_asked (locks_in g.txs c.args.tx) c.args.asked)) c.requires.0)
    c.held-held.result (c.held-held.ensures.count ∙ ap (λ table. length (locks_owned table c.args.tx)) c.requires.0) ∙
    sym c.requires.0
