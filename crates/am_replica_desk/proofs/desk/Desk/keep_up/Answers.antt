use Rattle.std.proofs.Common.{refl, sym, subst, ◌∙◌}
use Rattle.am_line_source.specs.Lines.{line_of}
use Rattle.am_replica_desk.specs.Calls.{IsStepTaken}
use Rattle.am_replica_desk.proofs.Steps.{same_step}
use Rattle.am_replica_desk.proofs.desk.Desk.keep_up.Goals as goal

pub returns : goal.returns
returns c = record {
  before = record { store = c.in_ok-replica.replica.machine; commits = c.in_ok-replica.replica.commits };
  after = record { store = c.take_step.new.machine; commits = c.in_ok-replica.replica.commits };
  was = c.in_ok-replica.ensures.lent;
  is = c.put_back-2.ensures.replica;
  so = record {
    reply = c.in-Some.reply;
    taken = subst (λ asked. IsStepTaken asked c.in_ok-replica.replica.machine c.in-Some.reply c.take_step.new.machine)
        (sym (same_step (line_of c.args.line.now) c.parse_cut-asked.result c.parse_cut-asked.ensures))
        c.in-Some.ensures.taken;
    commits = refl;
    says = c.put_back-2.ensures.answer ∙ c.in-Ok.ensures;
  };
}
