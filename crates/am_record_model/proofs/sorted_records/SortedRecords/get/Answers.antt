use Rattle.std.proofs.Common.{sym, ap, ◌∙◌}
use Rattle.std.specs.Option.{option_flatten}
use Rattle.am_record_model.proofs.Live.{get_live}
use Rattle.am_record_model.proofs.sorted_records.SortedRecords.get.Goals as goal

pub returns : goal.returns
returns c = c.flatten.ensures ∙ ap option_flatten c.slot.ensures ∙ sym (get_live c.args.self.now c.args.key)
