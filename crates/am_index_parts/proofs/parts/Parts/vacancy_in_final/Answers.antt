use Rattle.std.proofs.Common.{sym, ◌∙◌, subst}
use Rattle.am_index_parts.specs.Partitions.{IsVacancy}
use Rattle.am_index_parts.proofs.KeyLooks.{stands_live, of_none, vacant_over}
use Rattle.am_index_parts.proofs.parts.Parts.vacancy_in_final.Goals as goal

pub returns-in-Some-clause-met : goal.returns-in-Some-clause-met
returns-in-Some-clause-met g c =
    let live = c.in-Some.ensures.live in
    stands_live c.look_in_final.ensures.sound 0 c.in-Some.entry (sym c.look_in_final.ensures.found ∙ live.0) live.1
    live.2 live.3

pub returns-clause-met : goal.returns-clause-met
returns-clause-met g c =
    let es = c.args.self.now.entries in
    subst (IsVacancy es c.args.key) (sym c.vacancy_over.ensures)
    (vacant_over es c.args.key c.look_in_final.ensures.sound _ c.look_in_final.ensures.found
    (of_none c.live_at.result c.in_default.not-Some c.live_at.ensures.none) c.requires.dead)
