use Rattle.std.proofs.Common.{sym, subst, ◌∙◌}
use Rattle.am_line_source.specs.Lines.{pieces_of}
use Rattle.am_replica_store.specs.Alone.{at_rest, committed_map}
use Rattle.am_replica_desk.specs.Calls.{AreLinesTried}
use Rattle.am_replica_desk.proofs.Rest.{rest_same}
use Rattle.am_replica_desk.proofs.desk.Desk.take_lines.Goals as goal

-- the records are those of the store as it would be with no trial open in it
pub returns : goal.returns
returns c =
    let replica = c.in_ok-replica.replica in
    let old = rest_same replica.machine c.in_ok-replica.trial c.in_ok-replica.ensures.stands in
    let new = rest_same c.try_lines.new.replica.machine c.try_lines.new.trial c.in-Ok.ensures.stands in
    record {
      before = record { store = at_rest replica.machine; commits = replica.commits };
      after = record {
        store = at_rest c.try_lines.new.replica.machine;
        commits = c.try_lines.new.replica.commits;
      };
      was = c.in_ok-replica.ensures.lent;
      is = c.put_open.ensures.replica;
      so = record {
        lines = subst (λ told. AreLinesTried (committed_map (at_rest replica.machine)) (pieces_of c.args.text.now)
            c.args.transaction.now told c.try_lines.new.transaction) (sym c.put_open.ensures.answer)
            (subst (λ m. AreLinesTried m (pieces_of c.args.text.now) c.args.transaction.now c.in-Ok.told.items
            c.try_lines.new.transaction) (sym old) c.in-Ok.ensures.told);
        same = λ i. record {
          map = (new ∙ c.in-Ok.ensures.same ∙ sym old) i;
          commits = c.in-Ok.ensures.commits i;
        };
      };
    }
