-- The most seats of a latch, and the fault of a number of seats that is out of range.
use Rattle.std.specs.Prelude.{ℕ}
use Rattle.am_latch.specs.declared.latch.LatchFault.{LatchFault}
use Rattle.am_latch.specs.declared.latch.LatchFault.TheVariants.{BadSeats, NoMemory}

abbrev pub max_seats : ℕ
max_seats = 1024

abbrev pub IsBadSeats : LatchFault → Type 0
IsBadSeats BadSeats = Unit {0}
IsBadSeats NoMemory = ⊥
