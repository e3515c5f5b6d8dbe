use Rattle.am_replica_outcomes.proofs.Entries.{told_of_entry}
use Rattle.am_replica_outcomes.proofs.entry.take_text.Goals as goal

pub returns-in-Applied-clause-told : goal.returns-in-Applied-clause-told
returns-in-Applied-clause-told g c =
    told_of_entry g.D.Digest.digest_of c.args.text.now c.in_ok-outcome_texts-in-Applied.field-0.items
    (record { map = g.M.Machine.map c.args.replica.now.machine; commits = c.args.replica.now.commits })
    (record { map = g.M.Machine.map c.apply_entry.new.replica.machine; commits = c.apply_entry.new.replica.commits })
    c.in-Ok.entry.items c.deref.result.now c.deref-in-Applied.result.now c.in-Applied.outcomes
    c.deref-in-Applied-2.result.now c.in_ok-outcomes.field-0 c.deref.ensures.value c.deref-in-Applied.ensures.value
    c.deref-in-Applied-2.ensures.value c.in-Applied.is c.in-Ok.ensures.exact c.in_ok-outcomes.ensures.applied
    c.in_ok-outcome_texts-in-Applied.ensures
