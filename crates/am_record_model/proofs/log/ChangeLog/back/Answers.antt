use Rattle.std.proofs.Common.{List, reverse, sym, ap, ◌∙◌, subst}
use Rattle.am_record.proofs.Newest.{since_mark_is, until_mark_is}
use Rattle.am_record_model.specs.declared.note.Note.{Note}
use Rattle.am_record_model.specs.Marks.{DraftLog}
use Rattle.am_record_model.specs.Notes.{all_undone, CanUndo}
use Rattle.am_record_model.proofs.log.ChangeLog.back.Goals as goal

pub take_back_above-requires : goal.take_back_above-requires
take_back_above-requires c =
    subst (λ (ns : List Note). CanUndo ns c.args.records.now)
    (since_mark_is c.self.inside.notes.items c.args.self.now.notes c.self.inside.marks.items c.args.self.now.marks
    (ap (λ (l : DraftLog). l.notes) c.self.view_is) (ap (λ (l : DraftLog). l.marks) c.self.view_is)
    c.pop.new.self.items c.in-Some.mark c.in-Some.ensures.items)
    c.requires

pub returns-clause-records : goal.returns-clause-records
returns-clause-records c =
    c.take_back_above.ensures.records
    ∙ ap (λ (ns : List Note). all_undone ns c.args.records.now)
    (sym (since_mark_is c.self.inside.notes.items c.args.self.now.notes c.self.inside.marks.items
    c.args.self.now.marks (ap (λ (l : DraftLog). l.notes) c.self.view_is)
    (ap (λ (l : DraftLog). l.marks) c.self.view_is) c.pop.new.self.items c.in-Some.mark c.in-Some.ensures.items))

pub returns-clause-notes : goal.returns-clause-notes
returns-clause-notes c =
    ap reverse c.take_back_above.ensures.notes
    ∙ sym (until_mark_is c.self.inside.notes.items c.args.self.now.notes c.self.inside.marks.items c.args.self.now.marks
    (ap (λ (l : DraftLog). l.notes) c.self.view_is) (ap (λ (l : DraftLog). l.marks) c.self.view_is)
    c.pop.new.self.items c.in-Some.mark c.in-Some.ensures.items)
