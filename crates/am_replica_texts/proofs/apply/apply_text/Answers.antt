use Rattle.std.proofs.Common.{refl}
use Rattle.am_replica_texts.proofs.Entries.{applied_as_text, faulty}
use Rattle.am_replica_texts.proofs.apply.apply_text.Goals as goal

pub returns-clause-applied : goal.returns-clause-applied
returns-clause-applied g c =
    applied_as_text g.D.Digest.digest_of c.args.text.now c.in-Ok.entry.items c.deref.result.now
    (record { map = g.M.Machine.map c.args.replica.now.machine; commits = c.args.replica.now.commits })
    (record { map = g.M.Machine.map c.apply_entry.new.replica.machine; commits = c.apply_entry.new.replica.commits })
    c.apply_entry.result c.deref.ensures.value c.in-Ok.ensures.exact c.apply_entry.ensures.applied

pub returns-in-Err-NoEntry-clause-applied : goal.returns-in-Err-NoEntry-clause-applied
returns-in-Err-NoEntry-clause-applied g c = (
  faulty g.D.Digest.digest_of c.args.text.now c.in-Err-NoEntry.field-0 _ c.in-Err-NoEntry.field-0-is
      c.in-Err-NoEntry.ensures.exact,
  refl,
)
