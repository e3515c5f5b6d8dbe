use Rattle.std.proofs.Common.{◌≡◌, Bool, true, false, not, Some, None, refl, subst, ◌∙◌}
use Rattle.std.specs.Prelude.{Option, IfSome, is_some}
use Rattle.std.proofs.lemmas.Bool.{true≢false}
use Rattle.am_replica_entries.specs.Texts.{the_block}
use Rattle.am_replica_entries.specs.declared.block.Block.{Block}
use Rattle.am_replica_trials.specs.Trials.{records_wait}
use Rattle.am_replica_desk.proofs.desk.Desk.put_block.Goals as goal

none : (waits : Bool) → true ≡ not waits → waits ≡ false
none true is = absurd (true≢false is)
none false is = refl

pub returns : goal.returns
returns c =
    let t = c.args.transaction in
    let made = c.in-Ok.ensures in
    let is = c.in-Some.is in (
      record {
        before = record { store = c.in_ok-replica.replica.machine; commits = c.in_ok-replica.replica.commits };
        after = record { store = c.in_ok-replica.replica.machine; commits = c.in_ok-replica.replica.commits };
        was = c.in_ok-replica.ensures.lent;
        is = c.put_back-2.ensures.replica;
        so = refl;
      },
      record {
        none_waits = none (records_wait t.session)
            (subst (λ (o : Option Block). is_some o ≡ not (records_wait t.session)) is made.waits);
        block = the_block c.in-Some.block;
        lines = subst (λ (o : Option Block). IfSome o (λ block. block.lines.items ≡ t.lines)) is made.lines;
        none = λ first. subst (λ (o : Option Block). IfSome o (λ block. block.told ≡ None)) is (made.none first);
        told = λ some. subst (λ (o : Option Block). IfSome o (λ block. block.told ≡
            Some (record { lines = t.answered; digest = t.transaction.digest }))) is (made.told some);
        is = c.put_back-2.ensures.answer ∙ c.in-Ok-entry_text.ensures;
      },
    )
