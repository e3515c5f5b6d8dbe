-- What a writer of a trace made of the events that it took.
use Rattle.std.specs.Prelude.{◌≡◌, ℕ, List, [], Bool, true, ◌||◌, Option, MatchBool}
use Rattle.std.specs.List.{list_any}
use Rattle.am_law_serial.specs.Trace.{Trace}
use Rattle.am_line_sink.specs.SinkWrites.{Gave, GaveBeginning}
use Rattle.am_trace_text.specs.Lines.{event_lines}
use Rattle.am_trace_text.specs.Versions.{needs_three}
use Rattle.am_trace_text.specs.declared.version.Version.TheVariants.{Three}

module _ {K : Type 0} (holds : K → Option (List ℕ)) where
  -- The lines of the events were given to the sink; where the trace is cut after that, a beginning of them. Where it
  -- was cut before, it stays so, and nothing was given.
  pub record TookLines (old : K) (was_cut : Bool) (events : Trace) (new : K) (is_cut : Bool) : Type 0 where
    pub gave : MatchBool is_cut (GaveBeginning holds old (event_lines Three events) new)
        (Gave holds old (event_lines Three events) new)
    pub stays : was_cut ≡ true → (is_cut ≡ true) × Gave holds old [] new

-- whether version 3 alone writes what was taken, with these events after it
abbrev pub needs_three_with : Bool → Trace → Bool
needs_three_with was events = was || list_any needs_three events
