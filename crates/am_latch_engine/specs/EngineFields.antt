-- What always holds of the fields of an engine.
use Rattle.std.specs.Prelude.{◌≡◌, ℕ, ◌≤◌, ◌+◌, ◌-◌, ◌++◌, min, length, vec_len, vec_capacity}
use Rattle.am_latch_engine.specs.declared.engine.Engine.TheInside.{Inside}
use Rattle.am_latch_engine.specs.Changes.{active_in_trace, HasTrace}

-- positions are below 2^64
abbrev pub most_positions : ℕ
most_positions = 18446744073709551615

-- for how many pairs more both lists have room, and there are positions, beside the ends
abbrev pub room_left : Inside → ℕ
room_left e = min (min (vec_capacity e.trace) (vec_capacity e.calls) - (vec_len e.trace + e.ends))
    (most_positions - (e.count + vec_len e.trace + e.ends))

-- the trace leads to the store, each of its pairs has its call, and for the end of each active transaction is room
-- where the kept pairs stand, and a position
pub record IsEngine (e : Inside) : Type 0 where
  pub trace : HasTrace (e.handed.trace ++ e.trace.items) e.store
  pub even : vec_len e.calls ≡ vec_len e.trace
  pub even_handed : length e.handed.calls ≡ length e.handed.trace
  pub count : e.count ≡ length e.handed.trace
  pub ends : length (active_in_trace (e.handed.trace ++ e.trace.items)) ≤ e.ends
  pub trace_room : vec_len e.trace + e.ends ≤ vec_capacity e.trace
  pub calls_room : vec_len e.calls + e.ends ≤ vec_capacity e.calls
  pub numbers : e.count + vec_len e.trace + e.ends ≤ most_positions
