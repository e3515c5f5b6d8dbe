use Rattle.std.proofs.Common.{List, reverse, sym, ap, ◌∙◌, subst}
use Rattle.am_record.proofs.Newest.{since_mark_is, until_mark_is}
use Rattle.am_index.specs.Entries.{find}
use Rattle.am_store_undo.specs.declared.note.Note.{Note}
use Rattle.am_store_undo.specs.Log.{Log}
use Rattle.am_store_undo.specs.Notes.{TakesBack, CanTakeBack, NotesFit}
use Rattle.am_store_undo.proofs.undo_log.UndoLog.back.Goals as goal

pub take_back_above-requires-clause-can : goal.take_back_above-requires-clause-can
take_back_above-requires-clause-can g c =
    subst (λ (ns : List Note). CanTakeBack ns (find c.args.parts.now.entries))
    (since_mark_is c.self.inside.notes.items c.args.self.now.notes c.self.inside.marks.items c.args.self.now.marks
    (ap (λ (l : Log). l.notes) c.self.view_is) (ap (λ (l : Log). l.marks) c.self.view_is) c.pop.new.self.items
    c.in-Some.mark c.in-Some.ensures.items)
    c.requires.can

pub take_back_above-requires-clause-room : goal.take_back_above-requires-clause-room
take_back_above-requires-clause-room g c =
    subst (λ (ns : List Note). NotesFit c.args.parts.now.roomy ns)
    (since_mark_is c.self.inside.notes.items c.args.self.now.notes c.self.inside.marks.items c.args.self.now.marks
    (ap (λ (l : Log). l.notes) c.self.view_is) (ap (λ (l : Log). l.marks) c.self.view_is) c.pop.new.self.items
    c.in-Some.mark c.in-Some.ensures.items)
    c.requires.room

pub returns-clause-entries : goal.returns-clause-entries
returns-clause-entries g c =
    subst (λ (ns : List Note). TakesBack ns c.args.parts.now.entries c.take_back_above.new.parts.entries)
    (sym (since_mark_is c.self.inside.notes.items c.args.self.now.notes c.self.inside.marks.items c.args.self.now.marks
    (ap (λ (l : Log). l.notes) c.self.view_is) (ap (λ (l : Log). l.marks) c.self.view_is) c.pop.new.self.items
    c.in-Some.mark c.in-Some.ensures.items))
    c.take_back_above.ensures.entries

pub returns-clause-notes : goal.returns-clause-notes
returns-clause-notes g c =
    ap reverse c.take_back_above.ensures.notes
    ∙ sym (until_mark_is c.self.inside.notes.items c.args.self.now.notes c.self.inside.marks.items c.args.self.now.marks
    (ap (λ (l : Log). l.notes) c.self.view_is) (ap (λ (l : Log). l.marks) c.self.view_is) c.pop.new.self.items
    c.in-Some.mark c.in-Some.ensures.items)
