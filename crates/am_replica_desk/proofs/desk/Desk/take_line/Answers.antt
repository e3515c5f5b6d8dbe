use Rattle.std.proofs.Common.{sym, subst, ◌∙◌}
use Rattle.am_line_source.proofs.LineEnds.{no_lf}
use Rattle.am_replica_store.specs.Alone.{at_rest, committed_map}
use Rattle.am_replica_desk.specs.Calls.{IsTriedOn}
use Rattle.am_replica_desk.proofs.Rest.{rest_same}
use Rattle.am_replica_desk.proofs.desk.Desk.take_line.Goals as goal

pub try_line-requires-clause-one : goal.try_line-requires-clause-one
try_line-requires-clause-one c = no_lf c.args.line.now (sym c.has_lf.ensures ∙ c.if-has_lf.false)

-- the records are those of the store as it would be with no trial open in it
pub returns : goal.returns
returns c =
    let replica = c.in_ok-replica.replica in
    let old = rest_same replica.machine c.in_ok-replica.trial c.in_ok-replica.ensures.stands in
    let new = rest_same c.try_line.new.replica.machine c.try_line.new.trial c.in-Ok.ensures.stands in (
      sym c.has_lf.ensures ∙ c.if-has_lf.false,
      record {
        before = record { store = at_rest replica.machine; commits = replica.commits };
        after = record {
          store = at_rest c.try_line.new.replica.machine;
          commits = c.try_line.new.replica.commits;
        };
        was = c.in_ok-replica.ensures.lent;
        is = c.put_open-2.ensures.replica;
        so = record {
          on = subst (λ told. IsTriedOn (committed_map (at_rest replica.machine)) c.args.transaction.now
              c.args.line.now told c.try_line.new.transaction) (sym c.put_open-2.ensures.answer)
              (subst (λ m. IsTriedOn m c.args.transaction.now c.args.line.now c.in-Ok.told.items
              c.try_line.new.transaction) (sym old) c.in-Ok.ensures.told);
          same = λ i. record {
            map = (new ∙ c.in-Ok.ensures.same ∙ sym old) i;
            commits = c.in-Ok.ensures.commits i;
          };
        };
      },
    )
