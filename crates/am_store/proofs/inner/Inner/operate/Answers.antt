use Rattle.std.proofs.Common.{Bool, Option, List, sym, ap, subst, ◌∙◌}
use Rattle.std.specs.Prelude.{nat_le, ◌||◌}
use Rattle.am_record.specs.declared.lock.Lock.{Lock}
use Rattle.am_index.specs.Entries.{find}
use Rattle.am_index_parts.specs.Catalogs.{runs_in}
use Rattle.am_record.specs.Marks.{since_mark}
use Rattle.am_store_undo.specs.Notes.{CanTakeBack, NotesFit}
use Rattle.am_store_tx.specs.declared.transaction.Transaction.{Transaction}
use Rattle.am_store_tx.specs.Active.{is_active_in, ops_in, undo_log_of}
use Rattle.am_store_tx.specs.Txs.{Txs, IsConsistent}
use Rattle.am_law_effect.specs.Store.{with_wish}
use Rattle.am_law_sound.specs.StoreState.{IsFit}
use Rattle.am_store.specs.declared.inner.Inner.{Inner}
use Rattle.am_store.specs.StoreContent.{state_kept}
use Rattle.am_store.specs.Admission.{IsLockRefusal, IsLockGranted}
use Rattle.am_store.proofs.Operations.{cleared, has_number, says_first, says_lock, wants_lock, says_room, wants_memory}
use Rattle.am_store.proofs.Operations.{idle}
use Rattle.am_store.proofs.Operations.{says_done, after_done, active_then, few_then}
use Rattle.am_store.proofs.TransactionEnds.{can_back, fits_abort}
use Rattle.am_store.proofs.inner.Inner.operate.Goals as goal

-- The table in which the transaction was sought is the old one, and all calls after that speak of it.

-- whether no further run may be made
abbrev all_made : {I : Type 0} → Inner I → Bool
all_made k = nat_le k.most_runs k.parts.runs || nat_le 65535 (runs_in k.parts.entries)

pub work-requires-clause-room : goal.work-requires-clause-room
work-requires-clause-room g c =
    let op = g.A.AskedOperation.op c.args.asked in
    let old = c.args.self.now in
    let txs = c.seek.new.self in
    has_number (is_active_in txs.active c.args.tx) (ops_in txs.active c.args.tx) old.most_runs old.parts.runs
    (runs_in old.parts.entries) op c.requires.runs (sym c.in_default.is ∙ c.refusal.ensures)

pub returns-in-Some-clause-says : goal.returns-in-Some-clause-says
returns-in-Some-clause-says g c =
    let op = g.A.AskedOperation.op c.args.asked in
    let old = c.args.self.now in
    rw c.seek.ensures.same at
    (says_first old.most_runs old.parts c.seek.new.self old.wishes old.commits c.args.tx op c.in-Some.why
    (sym c.in-Some.is ∙ c.refusal.ensures))

pub returns-in-Err-clause-says : goal.returns-in-Err-clause-says
returns-in-Err-clause-says g c =
    let op = g.A.AskedOperation.op c.args.asked in
    let old = c.args.self.now in
    let txs = c.seek.new.self in
    rw c.seek.ensures.same at
    (says_lock old.most_runs old.parts txs old.wishes old.commits c.args.tx op c.in-Err.why
    (sym c.in_default.is ∙ c.refusal.ensures)
    (subst (λ (a : Option Lock). IsLockRefusal txs c.args.tx a c.in-Err.why) c.asked_lock.ensures
    c.in-Err.ensures.refused))

pub returns-in-Err-clause-memory : goal.returns-in-Err-clause-memory
returns-in-Err-clause-memory g c = λ is.
    let op = g.A.AskedOperation.op c.args.asked in
    let old = c.args.self.now in
    let txs = c.seek.new.self in
    rw c.seek.ensures.same at
    (wants_lock old.most_runs old.parts txs old.wishes old.commits c.args.tx op c.in-Err.why
    (sym c.in_default.is ∙ c.refusal.ensures)
    (subst (λ (a : Option Lock). IsLockRefusal txs c.args.tx a c.in-Err.why) c.asked_lock.ensures
    c.in-Err.ensures.refused) is)

pub work-requires-clause-back : goal.work-requires-clause-back
work-requires-clause-back g c =
    let op = g.A.AskedOperation.op c.args.asked in
    let old = c.args.self.now in
    let txs = c.seek.new.self in
    let clear = cleared (is_active_in txs.active c.args.tx) (ops_in txs.active c.args.tx) (all_made old) op
    (sym c.in_default.is ∙ c.refusal.ensures) in
    let fit = subst (λ (t : Txs). IsFit (state_kept old.most_runs old.parts t old.wishes old.commits))
    (sym c.seek.ensures.same)
    c.requires.fit in
    subst (λ (xs : List Transaction). CanTakeBack
    (since_mark (undo_log_of xs c.args.tx).marks (undo_log_of xs c.args.tx).notes)
    (find old.parts.entries)) (sym c.in-Ok.ensures.granted.locks.active)
    (can_back old.most_runs old.parts txs old.wishes old.commits c.args.tx fit clear.is_active)

pub work-requires-clause-noted : goal.work-requires-clause-noted
work-requires-clause-noted g c =
    let old = c.args.self.now in
    subst (λ (xs : List Transaction). NotesFit old.parts.roomy (undo_log_of xs c.args.tx).notes)
    (sym (c.in-Ok.ensures.granted.locks.active ∙ (λ i. (c.seek.ensures.same i).active)))
    (fits_abort old.parts.roomy old.txs c.args.tx c.requires.room.noted)

pub cut-requires-clause-active : goal.cut-requires-clause-active
cut-requires-clause-active g c =
    let op = g.A.AskedOperation.op c.args.asked in
    let old = c.args.self.now in
    let txs = c.seek.new.self in
    let clear = cleared (is_active_in txs.active c.args.tx) (ops_in txs.active c.args.tx) (all_made old) op
    (sym c.in_default.is ∙ c.refusal.ensures) in
    let stays = c.in_default-work.ensures.err in
    active_then txs c.ask.new.txs c.work.new.txs c.args.tx stays.log c.in-Ok.ensures.granted.locks.active stays.written
    clear.is_active

pub returns-in_default-work-clause-says : goal.returns-in_default-work-clause-says
returns-in_default-work-clause-says g c =
    let op = g.A.AskedOperation.op c.args.asked in
    let old = c.args.self.now in
    let txs = c.seek.new.self in
    let grant = subst (λ (a : Option Lock). IsLockGranted txs c.args.tx a c.ask.new.txs) c.asked_lock.ensures
    c.in-Ok.ensures.granted in
    rw c.seek.ensures.same at
    (says_room old.most_runs old.parts txs old.wishes old.commits c.args.tx op c.work.new.parts
    (undo_log_of c.ask.new.txs.active c.args.tx) (sym c.in_default.is ∙ c.refusal.ensures) grant.due
    c.in_default-work.ensures.memory)

pub returns-in_default-work-clause-after : goal.returns-in_default-work-clause-after
returns-in_default-work-clause-after g c =
    let op = g.A.AskedOperation.op c.args.asked in
    let old = c.args.self.now in
    let txs = c.seek.new.self in
    let grant = subst (λ (a : Option Lock). IsLockGranted txs c.args.tx a c.ask.new.txs) c.asked_lock.ensures
    c.in-Ok.ensures.granted in
    rw c.seek.ensures.same at
    (idle old.most_runs old.parts txs old.wishes old.commits c.args.tx op c.ask.new.txs c.work.new.txs
    c.cut.new.self
    c.work.new.parts c.in-Ok.held (subst IsConsistent (sym c.seek.ensures.same) c.seek.ensures.consistent) grant.locks
    c.in_default-work.ensures.err c.in-Ok.ensures.held c.cut.ensures)

pub returns-in_default-work-clause-memory : goal.returns-in_default-work-clause-memory
returns-in_default-work-clause-memory g c = λ is.
    let op = g.A.AskedOperation.op c.args.asked in
    let old = c.args.self.now in
    rw c.seek.ensures.same at
    (wants_memory old.most_runs old.parts c.seek.new.self old.wishes old.commits c.args.tx op
    (undo_log_of c.ask.new.txs.active c.args.tx)
    (ap (λ (xs : List Transaction). undo_log_of xs c.args.tx) c.in-Ok.ensures.granted.locks.active)
    c.in_default-work.ensures.memory)

pub count_op-requires-clause-active : goal.count_op-requires-clause-active
count_op-requires-clause-active g c =
    let op = g.A.AskedOperation.op c.args.asked in
    let old = c.args.self.now in
    let txs = c.seek.new.self in
    let clear = cleared (is_active_in txs.active c.args.tx) (ops_in txs.active c.args.tx) (all_made old) op
    (sym c.in_default.is ∙ c.refusal.ensures) in
    let works = c.in-Ok-work.ensures.done in
    active_then txs c.ask.new.txs c.work.new.txs c.args.tx works.log c.in-Ok.ensures.granted.locks.active works.written
    clear.is_active

pub count_op-requires-clause-few : goal.count_op-requires-clause-few
count_op-requires-clause-few g c =
    let op = g.A.AskedOperation.op c.args.asked in
    let old = c.args.self.now in
    let txs = c.seek.new.self in
    let clear = cleared (is_active_in txs.active c.args.tx) (ops_in txs.active c.args.tx) (all_made old) op
    (sym c.in_default.is ∙ c.refusal.ensures) in
    let works = c.in-Ok-work.ensures.done in
    few_then txs c.ask.new.txs c.work.new.txs c.args.tx works.log c.in-Ok.ensures.granted.locks.active works.written
    clear.few

pub returns-clause-says : goal.returns-clause-says
returns-clause-says g c =
    let op = g.A.AskedOperation.op c.args.asked in
    let old = c.args.self.now in
    let txs = c.seek.new.self in
    let grant = subst (λ (a : Option Lock). IsLockGranted txs c.args.tx a c.ask.new.txs) c.asked_lock.ensures
    c.in-Ok.ensures.granted in
    rw c.seek.ensures.same at
    (says_done old.most_runs old.parts txs old.wishes old.commits c.args.tx op c.ask.new.txs c.work.new.txs
    c.work.new.parts
    c.in-Ok-work.reply (sym c.in_default.is ∙ c.refusal.ensures) grant c.in-Ok-work.ensures.done)

pub returns-clause-after : goal.returns-clause-after
returns-clause-after g c =
    let op = g.A.AskedOperation.op c.args.asked in
    let old = c.args.self.now in
    let txs = c.seek.new.self in
    let grant = subst (λ (a : Option Lock). IsLockGranted txs c.args.tx a c.ask.new.txs) c.asked_lock.ensures
    c.in-Ok.ensures.granted in
    let wish = c.wish_for.ensures ∙ ap (with_wish old.wishes) c.wish-wish.ensures in
    rw c.seek.ensures.same at
    (after_done old.most_runs old.parts txs old.wishes old.commits c.args.tx op c.ask.new.txs c.work.new.txs
    c.count_op.new.self c.work.new.parts c.wish_for.new.wishes c.in-Ok-work.reply
    (subst IsConsistent (sym c.seek.ensures.same) c.seek.ensures.consistent) grant.locks c.in-Ok-work.ensures.done
    c.count_op.ensures wish)
