use Rattle.std.proofs.Common.{◌∙◌, subst, sym}
use Rattle.std.specs.Prelude.{IsSome}
use Rattle.am_record.specs.Sessions.{IsAllowed}
use Rattle.am_record.specs.declared.step.Op.TheVariants.{Scan}
use Rattle.am_record.specs.declared.step.Step.{Step}
use Rattle.am_record.specs.declared.step.Reply.TheVariants.{Begun}
use Rattle.am_latch_engine.specs.Changes.{end_of}
use Rattle.am_latch.specs.Holds.{IsCalledOn}
use Rattle.am_latch.specs.Ties.{open_of, EndsTx}
use Rattle.am_serve_workers.proofs.Gains.{begun_open, done_open, may_end, some_end}
use Rattle.am_serve_workers.proofs.read_turn.read_range.Goals as goal

pub call_on-scanned-requires : goal.call_on-scanned-requires
call_on-scanned-requires g c = begun_open _ _ c.in-Begun.tx c.in-Begun.ensures.called

pub call_on-requires : goal.call_on-requires
call_on-requires g c =
    let open_now = done_open _ _ c.in-Begun.tx (Scan c.args.range 1) c.call_on-scanned.result
    c.call_on-scanned.ensures.called ∙ begun_open _ _ c.in-Begun.tx c.in-Begun.ensures.called in
    subst (λ (st : Step). IsAllowed (open_of c.call_on-scanned.new.self.receipts) st) (sym c.end_after.ensures)
    (may_end _ c.in-Begun.tx c.is_read-was_read.result open_now)

pub returns : goal.returns
returns g c =
    let e = c.end_after.ensures in record {
      reply = Begun c.in-Begun.tx;
      held = c.call_on-begun.new.held;
      begun = c.call_on-begun.new.self;
      begins = c.in-Begun.ensures.called;
      begins_there = c.in-Begun.ensures.there;
      scans = record {
        reply = c.call_on-scanned.result;
        between = c.call_on-scanned.new.held;
        middle = c.call_on-scanned.new.self;
        scanned = c.call_on-scanned.ensures.called;
        scanned_there = c.call_on-scanned.ensures.there;
        answer = c.is_read-was_read.ensures;
        end_reply = c.call_on.result;
        later = c.call_on.new.held;
        ended = subst (λ (st : Step). EndsTx st c.call_on.result) e c.call_on.ensures.ended;
        stored = c.call_on.ensures.neither (subst (λ (st : Step). IsSome (end_of st)) (sym e)
            (some_end c.in-Begun.tx c.is_read-was_read.result));
        ended_there = subst (λ (st : Step). IsCalledOn c.call_on-scanned.new.held c.call_on-scanned.new.self st
            c.call_on.result c.call_on.new.held c.call_on.new.self) e c.call_on.ensures.there;
      };
    }
