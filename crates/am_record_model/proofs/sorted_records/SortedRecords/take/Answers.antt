use Rattle.std.proofs.Common.{None, sym, ap, ◌∙◌}
use Rattle.std.specs.Prelude.{is_some}
use Rattle.std.specs.FinMap as map
use Rattle.am_record_model.specs.Slots.{live}
use Rattle.am_record_model.proofs.Maps.{got_where, taken_is_remove}
use Rattle.am_record_model.proofs.Live.{has_live, live_put}
use Rattle.am_record_model.proofs.sorted_records.SortedRecords.take.Goals as goal

pub returns-clause-stood : goal.returns-clause-stood
returns-clause-stood c =
    c.is_some.ensures ∙ ap is_some c.flatten.ensures
    ∙ sym (has_live c.args.self.now c.args.key c.remove.result
    (sym (c.remove.ensures.value ∙ got_where c.self.inside.by_key.entries c.args.key ∙ ap (λ m. map.get m c.args.key)
    c.self.view_is)))

pub returns-clause-left : goal.returns-clause-left
returns-clause-left c =
    ap live (taken_is_remove c.self.inside.by_key.entries c.remove.new.self.entries c.args.key
    c.remove.ensures.updates.0 ∙ ap (λ m. map.remove m c.args.key) c.self.view_is)
    ∙ live_put c.args.self.now c.args.key None
