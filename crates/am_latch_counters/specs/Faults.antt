use Rattle.am_latch_counters.specs.declared.counters.CountersFault.{CountersFault}
use Rattle.am_latch_counters.specs.declared.counters.CountersFault.TheVariants.{BadSeats, NoMemory}

abbrev pub IsBadCount : CountersFault → Type 0
IsBadCount BadSeats = Unit {0}
IsBadCount NoMemory = ⊥
