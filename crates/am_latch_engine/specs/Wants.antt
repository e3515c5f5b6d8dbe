-- When the step of an engine may be refused for want of memory.
use Rattle.std.specs.Prelude.{◌≡◌, ◌⊎◌, ℕ, ◌<◌, Bool, true, false, if◌then◌else◌}
use Rattle.am_record.specs.declared.step.Op.TheVariants.{Scan, ScanBack, Load, Put}
use Rattle.am_record.specs.declared.step.Step.{Step}
use Rattle.am_record.specs.declared.step.Step.TheVariants.{Do}
use Rattle.am_law_serial.specs.Trace.{Trace}
use Rattle.am_law_sound.specs.StoreState.{StoreState}
use Rattle.am_law_sound.specs.StateOf.{IsStateOf}
use Rattle.am_store.specs.Memory.{may_want_memory}
use Rattle.am_latch_engine.specs.Changes.{is_begin}
use Rattle.am_latch_engine.specs.Traces.{EngineState}

-- for how many pairs a step wants room: a Begin gets that of its end too
abbrev pub pairs_needed : Step → ℕ
pairs_needed step = if is_begin step then 2 else 1

-- whether its copy takes memory, or room for the rows of its reply
abbrev pub takes_lists : Step → Bool
takes_lists (Do t (Scan range max)) = true
takes_lists (Do t (ScanBack range max)) = true
takes_lists (Do t (Load pairs)) = true
takes_lists (Do t (Put pairs)) = true
takes_lists _ = false

-- the store where the trace leads may want memory for the step
pub record StoreMayWant (trace : Trace) (step : Step) : Type 0 where
  pub store : StoreState
  pub at : IsStateOf trace store
  pub wants : may_want_memory store step ≡ true

-- there is no room for the pair, or the store may want memory
abbrev pub MayWantMemory : EngineState → Step → Type 0
MayWantMemory e step = (e.room < pairs_needed step) ⊎ StoreMayWant e.trace step
