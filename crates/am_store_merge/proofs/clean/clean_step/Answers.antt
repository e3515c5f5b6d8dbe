use Rattle.std.proofs.Common.{◌+◌, ◌∙◌, refl, arith}
use Rattle.am_index.proofs.Rooms.{keep_all}
use Rattle.am_store_merge.specs.LockHolders.{holder_of}
use Rattle.am_store_merge.proofs.CleanSteps.{clean_starts, all_clean, clean_full, is_there, clean_goes_on}
use Rattle.am_store_merge.proofs.CleanSteps.{clean_content}
use Rattle.am_store_merge.proofs.Rooms.{keep_removed}
use Rattle.am_store_merge.proofs.clean.clean_step.Goals as goal

pub loop-cleaned-init : goal.loop-cleaned-init
loop-cleaned-init g c = record {
  way = rw c.lo.ensures.value (clean_starts c.args.parts.now.entries (holder_of c.args.locks.now) c.args.range
      c.runs.ensures.sound);
  sound = c.runs.ensures.sound;
  runs = refl;
  rooms = keep_all c.args.parts.now.roomy c.args.parts.now.entries c.runs.ensures.room;
}

pub returns-in_default-clause-reply : goal.returns-in_default-clause-reply
returns-in_default-clause-reply g c =
    all_clean c.args.parts.now.entries (holder_of c.args.locks.now) c.args.range c.loop-cleaned.invariant.sound
    c.loop-cleaned.parts.entries c.loop-cleaned.from c.loop-cleaned.cleaned c.args.limit c.loop-cleaned.invariant.way
    c.in_default.ensures c.loop-cleaned-test.true

pub loop-cleaned-preserved : goal.loop-cleaned-preserved
loop-cleaned-preserved g c = record {
  way = clean_goes_on c.args.parts.now.entries (holder_of c.args.locks.now) c.args.range c.loop-cleaned.invariant.sound
      c.loop-cleaned.parts.entries c.loop-cleaned.from c.loop-cleaned.cleaned c.args.limit c.loop-cleaned.invariant.way
      c.in-Some.entry c.in-Some.ensures
      (c.loop-cleaned.cleaned + 1) c.take.new.self.entries (omega arith) c.take.ensures.entries;
  sound = c.loop-cleaned.invariant.sound;
  runs = c.take.ensures.runs ∙ c.loop-cleaned.invariant.runs;
  rooms = keep_removed c.args.parts.now.roomy c.loop-cleaned.parts.roomy c.take.new.self.roomy
      c.loop-cleaned.parts.entries c.in-Some.entry.part c.in-Some.entry.key c.loop-cleaned.invariant.way.rises
      c.loop-cleaned.invariant.rooms c.take.new.self.entries c.take.ensures.entries c.take.ensures.rooms;
}

pub returns-clause-reply : goal.returns-clause-reply
returns-clause-reply g c =
    clean_full c.args.parts.now.entries (holder_of c.args.locks.now) c.args.range c.loop-cleaned.invariant.sound
    c.loop-cleaned.parts.entries c.loop-cleaned.from c.loop-cleaned.cleaned c.args.limit c.loop-cleaned.invariant.way
    (omega arith)

pub returns-in_default-clause-content : goal.returns-in_default-clause-content
returns-in_default-clause-content g c =
    clean_content c.args.parts.now.entries (holder_of c.args.locks.now) c.args.range c.loop-cleaned.invariant.sound
    c.loop-cleaned.parts.entries c.loop-cleaned.from c.loop-cleaned.cleaned c.args.limit c.loop-cleaned.invariant.way

pub returns-clause-content : goal.returns-clause-content
returns-clause-content g c =
    clean_content c.args.parts.now.entries (holder_of c.args.locks.now) c.args.range c.loop-cleaned.invariant.sound
    c.loop-cleaned.parts.entries c.loop-cleaned.from c.loop-cleaned.cleaned c.args.limit c.loop-cleaned.invariant.way

pub take-requires : goal.take-requires
take-requires g c =
    is_there c.args.parts.now.entries (holder_of c.args.locks.now) c.args.range c.loop-cleaned.invariant.sound
    c.loop-cleaned.parts.entries c.loop-cleaned.from c.loop-cleaned.cleaned c.args.limit c.loop-cleaned.invariant.way
    c.in-Some.entry c.in-Some.ensures
