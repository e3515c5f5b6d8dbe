use Rattle.std.proofs.Common.{Some, None, refl, sym, ap, ◌∙◌, subst, IsSome}
use Rattle.std.specs.Option.{option_copied_mut}
use Rattle.std.specs.FinMap as map
use Rattle.am_record_model.proofs.Maps.{got_where, put_is_insert}
use Rattle.am_record_model.proofs.Live.{has_live, over_live, nothing_over}
use Rattle.am_record_model.proofs.sorted_records.SortedRecords.replace.Goals as goal
use Rattle.am_record_model.proofs.sorted_records.SortedRecords.replace.Goals.{in-Some, in-None}

pub returns-clause-stood : goal.returns-clause-stood
returns-clause-stood c =
    let there = got_where c.self.inside.by_key.entries c.args.key ∙ ap (λ m. map.get m c.args.key) c.self.view_is in
    let found = sym there ∙ sym c.get_mut.ensures.value in
    elim c.match-get_mut.branch [
      | in-Some w ↦ w.result-is ∙ w.put_over.ensures.stood ∙
          sym (has_live c.args.self.now c.args.key (Some w.in-Some.slot.now)
          (found ∙ ap option_copied_mut w.in-Some.is))
      | in-None w ↦ w.result-is ∙ sym (has_live c.args.self.now c.args.key None
          (found ∙ ap option_copied_mut w.in-None.is))
    ]

pub returns-clause-left : goal.returns-clause-left
returns-clause-left c =
    let es = c.self.inside.by_key.entries in
    let there = got_where es c.args.key ∙ ap (λ m. map.get m c.args.key) c.self.view_is in
    let found = sym there ∙ sym c.get_mut.ensures.value in
    elim c.match-get_mut.branch [
      | in-Some w ↦ let new = w.put_over.new.slot in
          over_live c.args.self.now _ c.args.key new
          (ap (λ s. map.from_entries s.by_key.entries) w.self-inside-is ∙
          put_is_insert es (c.get_mut.follows.lender new).entries c.args.key new
          ((c.get_mut.follows.holds new).3 (subst IsSome (sym (ap option_copied_mut w.in-Some.is) ∙
          c.get_mut.ensures.value) refl)).0 ∙ ap (λ m. map.insert m c.args.key new) c.self.view_is)
          c.args.value w.in-Some.slot.now (found ∙ ap option_copied_mut w.in-Some.is) w.put_over.ensures.left
      | in-None w ↦ nothing_over c.args.self.now _ c.args.key c.args.value
          (ap (λ s. map.from_entries s.by_key.entries) w.self-inside-is ∙ ap (λ m. map.from_entries m.entries)
          c.get_mut.follows.holds-at-none ∙ c.self.view_is)
          (found ∙ ap option_copied_mut w.in-None.is)
    ]
