use Rattle.std.proofs.Common.{sym, ◌∙◌}
use Rattle.std.proofs.lemmas.Option.{none-some}
use Rattle.am_store_operations.proofs.writes.make.Goals as goal

pub write_over-requires-clause-alone : goal.write_over-requires-clause-alone
write_over-requires-clause-alone g c =
    let es = c.args.parts.now.entries in
    let laws = c.content_follows.ensures.edits es c.requires.sound.rising c.requires.sound.one_place in
    record {
      only = λ part value live. absurd (none-some value (sym c.requires.dead ∙
          laws.reads.live part c.args.key value live));
    }
