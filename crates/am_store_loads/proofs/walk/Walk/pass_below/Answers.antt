use Rattle.std.proofs.Common.{◌≡◌, Option, Some, None, length, refl, sym, ap, ◌∙◌, arith}
use Rattle.std.specs.Prelude.{is_some}
use Rattle.std.specs.List.{slice_get}
use Rattle.std.proofs.lemmas.Option.{slice_get_read, slice_get_past}
use Rattle.am_record.specs.declared.entry.Entry.{Entry}
use Rattle.am_store_loads.proofs.PartitionWalks.{passes}
use Rattle.am_store_loads.proofs.walk.Walk.pass_below.Goals as goal
use Rattle.am_store_loads.proofs.walk.Walk.pass_below.Goals.{In-Some, In_default}

here : (c : In-Some) → slice_get c.loop-entry.self.read c.loop-entry.self.passed ≡ Some c.in-Some.entry.now
here c =
    let found = c.in-Some.ensures.lookup in
    ap (λ l. slice_get l c.loop-entry.self.passed) (sym c.entries.ensures.all) ∙ slice_get_read c.entries.result.now
    (length c.entries.result.now) c.loop-entry.self.passed c.in-Some.entry.now refl found.3.0 found.1

past : (c : In_default) → slice_get c.loop-entry.self.read c.loop-entry.self.passed ≡ None
past c =
    ap (λ l. slice_get l c.loop-entry.self.passed) (sym c.entries.ensures.all) ∙ slice_get_past c.entries.result.now
    c.loop-entry.self.passed c.in_default.ensures.lookup.3

pub loop-entry-preserved : goal.loop-entry-preserved
loop-entry-preserved c = record {
  walk = λ es h. passes (c.loop-entry.invariant.walk es h) _ c.in-Some.entry.now
      (here (goal.at.loop-entry-preserved c).In-Some) (sym c.le.ensures ∙ c.if-le.false) refl refl (omega arith) refl;
  part = c.loop-entry.invariant.part;
  last = c.loop-entry.invariant.last;
  descents = c.loop-entry.invariant.descents;
}

pub returns-clause-left : goal.returns-clause-left
returns-clause-left c = sym (ap (λ (o : Option Entry). is_some o) (past (goal.at.returns-clause-left c).In_default))

pub returns-clause-reached : goal.returns-clause-reached
returns-clause-reached c = rw (past (goal.at.returns-clause-reached c).In_default) tt
