use Rattle.std.proofs.Common.{sym, ap, ◌∙◌}
use Rattle.std.specs.Option.{option_flatten, option_copied}
use Rattle.std.specs.FinMap as map
use Rattle.am_record_model.proofs.Live.{get_live}
use Rattle.am_record_model.proofs.Maps.{got_where}
use Rattle.am_record_model.proofs.sorted_records.SortedRecords.value.Goals as goal

pub returns-in-Some : goal.returns-in-Some
returns-in-Some c =
    let there = got_where c.self.inside.by_key.entries c.args.key.now ∙
    ap (λ m. map.get m c.args.key.now) c.self.view_is in
    let stands = sym (ap option_copied c.in-Some.is) ∙ c.get.ensures.value ∙ there in
    c.as_ref.ensures.value ∙ ap option_flatten stands ∙ sym (get_live c.args.self.now c.args.key.now)

pub returns-in-None : goal.returns-in-None
returns-in-None c =
    let there = got_where c.self.inside.by_key.entries c.args.key.now ∙
    ap (λ m. map.get m c.args.key.now) c.self.view_is in
    let stands = sym (ap option_copied c.in-None.is) ∙ c.get.ensures.value ∙ there in
    ap option_flatten stands ∙ sym (get_live c.args.self.now c.args.key.now)
