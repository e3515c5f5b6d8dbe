-- How large an index is.
use Rattle.am_index.specs.declared.figures.Figures.{Figures}
use Rattle.am_index_parts.specs.Figures.{AreFigures}
use Rattle.am_law_serial.specs.Trace.{Trace}
use Rattle.am_law_sound.specs.StoreState.{StoreState}
use Rattle.am_store.specs.StoreSteps.{IsSoundAt}

-- the figures of a store to which the trace leads
pub record AreFiguresAt (trace : Trace) (f : Figures) : Type 0 where
  pub store : StoreState
  pub stands : IsSoundAt trace store
  pub figures : AreFigures store.entries f
