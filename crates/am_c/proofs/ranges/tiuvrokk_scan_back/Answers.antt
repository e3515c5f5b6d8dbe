use Rattle.std.proofs.Common.{length, subst}
use Rattle.std.specs.Prelude.{Result}
use Rattle.am_record.specs.declared.step.Step.{Step}
use Rattle.am_c_steps.specs.declared.status.Status.{Status}
use Rattle.am_c_store.specs.StoreSteps.{Answers}
use Rattle.am_c.proofs.Rows.{rows_back_fit}
use Rattle.am_c.proofs.ranges.tiuvrokk_scan_back.Goals as goal

pub tell_rows-requires : goal.tell_rows-requires
tell_rows-requires c =
    rows_back_fit c.args.store.now.held c.args.tx (length c.args.rows.now) c.args.lo.now c.args.hi.now
    c.take_step-answer.result c.take_step-answer.new.handle.held
    (subst (λ (asked : Result Step Status). Answers c.args.store.now.held asked c.take_step-answer.result
    c.take_step-answer.new.handle.held) c.scan_back_asked.ensures c.take_step-answer.ensures)
