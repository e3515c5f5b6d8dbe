use Rattle.std.proofs.Common.{true, false, sym, ap, ◌∙◌, subst}
use Rattle.am_index.proofs.Rooms.{keep_all}
use Rattle.am_store_undo.specs.Notes.{NotesFit}
use Rattle.am_store_tx.specs.Active.{is_active_in, undo_log_of}
use Rattle.am_store_tx.specs.Txs.{Txs}
use Rattle.am_law_sound.specs.StoreState.{IsFit}
use Rattle.am_store.specs.StoreContent.{state_kept}
use Rattle.am_store.proofs.TransactionEnds.{is_in-inner, can_abort, fits_abort, still_active, aborted}
use Rattle.am_store.proofs.inner.Inner.abort.Goals as goal

pub returns-then-not-is_active-clause-says : goal.returns-then-not-is_active-clause-says
returns-then-not-is_active-clause-says g c =
    let sought = ap (λ (t : Txs). is_active_in t.active c.args.tx) (sym c.seek.ensures.same) in
    is_in-inner c.args.self.now.txs c.args.tx false (sought ∙ sym c.is_active.ensures.active ∙ c.if-not-is_active.true)

pub take_back-requires-clause-can : goal.take_back-requires-clause-can
take_back-requires-clause-can g c =
    let old = c.args.self.now in
    let fit = subst (λ (t : Txs). IsFit (state_kept old.most_runs old.parts t old.wishes old.commits))
    (sym c.seek.ensures.same)
    c.requires.fit in
    can_abort old.most_runs old.parts c.seek.new.self old.wishes old.commits c.args.tx fit
    (sym c.is_active.ensures.active ∙
    c.if-not-is_active.false)

pub take_back-requires-clause-room : goal.take_back-requires-clause-room
take_back-requires-clause-room g c =
    let old = c.args.self.now in
    subst (λ (t : Txs). NotesFit old.parts.roomy (undo_log_of t.active c.args.tx).notes) (sym c.seek.ensures.same)
    (fits_abort old.parts.roomy old.txs c.args.tx c.requires.room.noted)

pub returns-then-not-is_active-clause-rooms : goal.returns-then-not-is_active-clause-rooms
returns-then-not-is_active-clause-rooms g c = keep_all c.args.self.now.parts.roomy c.args.self.now.parts.entries
    c.requires.room.values

pub end-requires : goal.end-requires
end-requires g c = still_active c.seek.new.self c.take_back.new.txs c.args.tx c.take_back.ensures.log
    (sym c.is_active.ensures.active ∙ c.if-not-is_active.false)

pub returns-clause-says : goal.returns-clause-says
returns-clause-says g c =
    let sought = ap (λ (t : Txs). is_active_in t.active c.args.tx) (sym c.seek.ensures.same) in
    is_in-inner c.args.self.now.txs c.args.tx true (sought ∙ sym c.is_active.ensures.active ∙ c.if-not-is_active.false)

pub returns-clause-after : goal.returns-clause-after
returns-clause-after g c =
    let old = c.args.self.now in
    let txs = c.seek.new.self in
    let fit = subst (λ (t : Txs). IsFit (state_kept old.most_runs old.parts t old.wishes old.commits))
    (sym c.seek.ensures.same)
    c.requires.fit in
    let can = can_abort old.most_runs old.parts txs old.wishes old.commits c.args.tx fit
    (sym c.is_active.ensures.active ∙
    c.if-not-is_active.false) in
    rw c.seek.ensures.same at
    (aborted old.most_runs old.parts txs old.wishes old.commits c.take_back.new.parts c.take_back.new.txs c.end.new.self
    c.args.tx
    c.take_back.ensures.log c.end.ensures
    (c.taking_back_is_known.ensures.known _ old.parts.entries c.take_back.new.parts.entries c.requires.fit.rising can
    c.take_back.ensures.entries) c.take_back.ensures.runs)
