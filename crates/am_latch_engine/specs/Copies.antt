-- The copy of a step that the trace keeps.
use Rattle.std.specs.Prelude.{◌≡◌}
use Rattle.am_record.specs.declared.step.Step.{Step}
use Rattle.am_latch_engine.specs.declared.room.StepCopy.{StepCopy}
use Rattle.am_latch_engine.specs.Changes.{room_of}

-- it is the step, with room for the rows that its reply may have
pub record IsCopyOf (step : Step) (copy : StepCopy) : Type 0 where
  pub same : copy.step ≡ step
  pub rows : copy.rows ≡ room_of step
