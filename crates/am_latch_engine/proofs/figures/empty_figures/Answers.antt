use Rattle.std.proofs.Common.{[], refl}
use Rattle.am_record.specs.Limits.{max_runs}
use Rattle.am_law_sound.specs.StoreState.{empty_state}
use Rattle.am_store.proofs.StoreSteps.{stands_opened}
use Rattle.am_latch_engine.proofs.figures.empty_figures.Goals as goal

pub returns : goal.returns
returns c = record {
  store = empty_state max_runs;
  stands = stands_opened max_runs (empty_state max_runs) (c.steps_lift.ensures.opened max_runs)
      c.steps_lift.ensures.sound refl;
  figures = record {
    entries = refl;
    in_final = refl;
    in_runs = refl;
    runs = record { runs = []; rising = tt; each = tt; every = tt; number = refl };
    ghosts = refl;
  };
}
