-- What always holds of the fields of the state under the latch, of a seat, and of a blank.
use Rattle.std.specs.Prelude.{◌≡◌, ◌≤◌, ◌<◌, ◌*◌, ◌+◌, ℕ, [], ◌∷◌, length, vec_len, vec_capacity}
use Rattle.atomic_table.specs.Seated.{TableId}
use Rattle.am_record.specs.Limits.{last_run, max_limit}
use Rattle.am_latch.specs.Faults.{max_seats}
use Rattle.am_latch.specs.declared.latch.Blank.TheInside.{Inside as BlankFields}
use Rattle.am_latch.specs.declared.seat.Seat.TheInside.{Inside as SeatFields}
use Rattle.am_latch.specs.declared.state.LatchState.TheInside.{Inside as LatchStateFields}
use Rattle.am_latch.specs.declared.taker.Taker.TheInside.{Inside as TakerFields}
use Rattle.am_latch.specs.Receipts.{moved_in, last_commit_of, positions_of, AreBehind, most_let_go}
use Rattle.am_latch.specs.Ties.{open_of, HasRoomForReceipt, receipts_kept, receipt_room, AreNumbered, IsTied}
use Rattle.am_latch.specs.Tables.{LatchTables}
use Rattle.am_latch_ties.specs.declared.taker_tie.TakenView.TheVariants.{Handed, Whole}
use Rattle.am_latch_ties.specs.HandOutRule.{IsTakerView}
use Rattle.am_latch_engine.specs.Traces.{AreMadeBelow, log_of}
use Rattle.am_latch_ties.specs.declared.views.View.TheVariants.{Minting, Log}
use Rattle.am_latch_ties.specs.Views.{seat_in, IsSeatView}

-- The store makes so many runs at most. One token under the latch knows the trace, another what was handed out of it.
-- One of the seats made each call, which has its number among the seat's, and what is open in these is active
pub record IsLatchState {L : Type 0} (tables : LatchTables) (seats most_runs : ℕ)
    (s : LatchStateFields L) : Type 0 where
  pub most : s.engine.most_runs ≡ most_runs
  pub table_of : s.trace_token.table_id ≡ tables.calls
  pub knows : s.trace_token.views ≡ Log (log_of s.engine) ∷ []
  pub handed_of : s.handed_token.table_id ≡ tables.handed
  pub handed : s.handed_token.views ≡ Handed s.engine.handed.trace ∷ []
  pub made : AreMadeBelow seats s.engine.calls
  pub numbered : AreNumbered [] s.engine.calls
  pub tied : IsTied (log_of s.engine)

-- The token knows all receipts. The positions of those that weren't let go are held, with room for that of the end of
-- an open transaction, and as much as is got for these at once
pub record IsSeat {L : Type 0} (table : TableId) (seats : ℕ) (s : SeatFields L) : Type 0 where
  pub table_of : s.token.table_id ≡ table
  pub view : IsSeatView s.token.me.0
  pub seat : (seat_in s.token.me.0).seat ≡ s.number
  pub slots : s.token.me.1 ≡ []
  pub below : s.number < seats
  pub held : AreBehind s.let_go (positions_of (seat_in s.token.me.0).receipts) s.positions.items
  pub count : s.let_go + vec_len s.positions ≡ length (seat_in s.token.me.0).receipts
  pub open_tx : s.open_now ≡ open_of (seat_in s.token.me.0).receipts
  pub last : s.last_commit ≡ last_commit_of (seat_in s.token.me.0).receipts
  pub room : HasRoomForReceipt s.open_now (vec_len s.positions) (vec_capacity s.positions)
  pub got : receipt_room (vec_len s.positions + receipts_kept s.open_now) ≤ vec_capacity s.positions
  pub moved : s.moved ≡ moved_in (seat_in s.token.me.0).receipts
  pub few : s.moved ≤ max_limit * length (seat_in s.token.me.0).receipts
  pub numbers : s.let_go ≤ most_let_go

-- the token knows what was taken
pub record IsTaker {L : Type 0} (table : TableId) (t : TakerFields L) : Type 0 where
  pub table_of : t.token.table_id ≡ table
  pub view : IsTakerView t.token.me.0
  pub slots : t.token.me.1 ≡ []

-- 1 to 1,024 seats, and none of them minted yet; no more runs than there are numbers for; nothing was handed out
pub record IsBlank (b : BlankFields) : Type 0 where
  pub some : 0 < b.seats
  pub few : b.seats ≤ max_seats
  pub few_runs : b.most_runs ≤ last_run
  pub words : 0 < b.table.shared.table_id.words
  pub table_of : b.trace_token.table_id ≡ b.table.shared.table_id
  pub knows : b.trace_token.me ≡ (Minting 0, [])
  pub taken_words : 0 < b.taken.shared.table_id.words
  pub taken_of : b.taken_token.table_id ≡ b.taken.shared.table_id
  pub none_taken : b.taken_token.me ≡ (Whole [] [], [])
