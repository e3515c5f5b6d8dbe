use Rattle.std.proofs.Common.{◌∷◌, [], length, ap, arith, length-append}
use Rattle.am_store.proofs.StoreSteps.{run_starts, run_goes_on}
use Rattle.am_store.proofs.step_lists.run.Goals as goal

pub loop-step-init : goal.loop-step-init
loop-step-init g c =
    record {
      taken = run_starts c.args.store.now c.args.replies.now.items c.reserve.new.self.items c.steps_lift.ensures.sound
          c.reserve.ensures.items;
      room = omega (
        arith,
        c.in_ok-reserve.ensures.ok,
        c.len.ensures,
        c.in_ok-copies.copies.ok.0,
        ap length c.in_ok-copies.ensures,
      );
    }

pub loop-step-preserved : goal.loop-step-preserved
loop-step-preserved g c =
    record {
      taken = run_goes_on c.args.store.now c.loop-step.store c.step-reply.new.self c.loop-step.yielded
          c.args.replies.now.items c.loop-step.replies.items c.push_within.new.replies.items c.in-Some.step
          c.step-reply.result c.loop-step.invariant.taken c.step-reply.ensures.goes
          (record {
            says = c.step-reply.ensures.says;
            leaves = c.step-reply.ensures.after;
            memory = c.step-reply.ensures.memory;
            content = c.step-reply.ensures.content;
            within = c.step-reply.ensures.within;
          }) c.push_within.ensures.items;
      room = omega (
        arith,
        c.loop-step.invariant.room,
        c.push_within.ensures.len,
        c.push_within.ensures.capacity,
        length-append c.loop-step.yielded (c.in-Some.step ∷ []),
      );
    }
