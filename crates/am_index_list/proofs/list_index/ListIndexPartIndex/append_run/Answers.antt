use Rattle.std.proofs.Common.{◌<◌, List, sym, subst}
use Rattle.std.specs.List.{AllByRecursion}
use Rattle.am_record.specs.declared.entry.Entry.{Entry}
use Rattle.am_index.proofs.Runs.{rising_either}
use Rattle.am_index.proofs.Rooms.{all_keep_room}
use Rattle.am_index_list.proofs.list_index.ListIndexPartIndex.append_run.Goals as goal

pub invariant_of-self : goal.invariant_of-self
invariant_of-self g c =
    let records = g.S.RecordSource.records c.args.records.now in
    let above = subst (λ (l : List Entry). AllByRecursion (λ e. e.part < c.args.part) l) (sym c.self.view_is)
    c.requires.above in
    rising_either c.push_run.result c.args.part c.self.inside.items.items records c.push_run.new.items.items
    c.self.invariant above c.requires.rising c.push_run.ensures.ok c.push_run.ensures.err

pub returns-clause-rooms : goal.returns-clause-rooms
returns-clause-rooms g c = all_keep_room _ _
