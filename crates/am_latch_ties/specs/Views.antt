-- The rule over the views of tokens, and what each step does to them.
use Rattle.std.specs.Prelude.{◌≡◌, ℕ, suc, ◌+◌, [], ◌∷◌, ◌++◌, length}
use mathlib.Core.Option.{some}
use lib.ListN.{get_elem?}
use Rattle.atomic_table.specs.Table.{State, Me, Step}
use Rattle.am_record.specs.declared.step.Step as step
use Rattle.am_record.specs.declared.step.Reply.{Reply}
use Rattle.am_latch_ties.specs.declared.call_id.CallId.{CallId}
use Rattle.am_latch_ties.specs.declared.views.SeatView.{SeatView}
use Rattle.am_latch_ties.specs.declared.views.View.{View}
use Rattle.am_latch_ties.specs.declared.views.View.TheVariants.{Nothing, Minting, Log, Receipts, Joint}
use Rattle.am_latch_ties.specs.CallLogs.{CallLog, empty_log, log_with}
use Rattle.am_latch_ties.specs.Receipts.{receipt, receipts_of}

abbrev pub new_seat_view : ℕ → SeatView
new_seat_view k = record { seat = k; receipts = [] }

abbrev pub seat_in : View → SeatView
seat_in (Receipts s) = s
seat_in (Joint s e) = s
seat_in _ = new_seat_view 0

abbrev pub log_in : View → CallLog
log_in (Log e) = e
log_in (Joint s e) = e
log_in _ = empty_log

abbrev pub IsSeatView : View → Type 0
IsSeatView v = v ≡ Receipts (seat_in v)

abbrev pub IsLogView : View → Type 0
IsLogView v = v ≡ Log (log_in v)

abbrev pub IsJointView : View → Type 0
IsJointView v = v ≡ Joint (seat_in v) (log_in v)

-- just the receipts of its calls
abbrev pub KnowsReceipts : CallLog → SeatView → Type 0
KnowsReceipts e s = s.receipts ≡ receipts_of s.seat e

-- what holds of each view: one at most has the trace, and each seat has the receipts of its calls. The seat k has the
-- view k + 1
abbrev pub IsViewOf : ℕ → CallLog → ℕ → ℕ → View → Type 0
IsViewOf holder log count by Nothing = Unit {0}
IsViewOf holder log count by (Minting n) = (by ≡ holder) × (empty_log ≡ log) × (count ≡ suc n)
IsViewOf holder log count by (Log e) = (by ≡ holder) × (e ≡ log)
IsViewOf holder log count by (Receipts s) = (by ≡ suc s.seat) × KnowsReceipts log s
IsViewOf holder log count by (Joint s e) = (by ≡ holder) × (e ≡ log) × (by ≡ suc s.seat) × KnowsReceipts log s

pub record ViewsAgree (s : State ℕ View) : Type 0 where
  pub holder : ℕ
  pub log : CallLog
  pub even : length log.calls ≡ length log.trace
  pub each : (by : ℕ) (v : View) → get_elem? s.views by ≡ some v → IsViewOf holder log (length s.views) by v

abbrev pub join_views : View → View → View
join_views (Receipts s) (Log e) = Joint s e
join_views _ _ = Nothing

abbrev pub seat_part : View → View
seat_part (Joint s e) = Receipts s
seat_part _ = Nothing

abbrev pub log_part : View → View
log_part (Joint s e) = Log e
log_part _ = Nothing

abbrev pub one_more_minted : View → View
one_more_minted (Minting n) = Minting (n + 1)
one_more_minted _ = Nothing

abbrev pub minted_seat : View → View
minted_seat (Minting n) = Receipts (new_seat_view n)
minted_seat _ = Nothing

abbrev pub EndsMinting : Step ℕ → Me ℕ View → ℕ → Me ℕ View → Type 0
EndsMinting _ me _ me' = me' ≡ (Log empty_log, me.1)

-- the seat with the receipt of its next call, which stands there in the trace
abbrev pub seat_with : SeatView → step.Step → Reply → ℕ → SeatView
seat_with s st r position = record {
  seat = s.seat;
  receipts = s.receipts ++ receipt s.seat (length s.receipts) st r position ∷ [];
}

abbrev pub view_with_call : step.Step → Reply → CallId → View → View
view_with_call st r m (Joint s e) = Joint (seat_with s st r (length e.trace)) (log_with e m st r)
view_with_call st r m v = v

abbrev pub AppendsCall : step.Step → Reply → CallId → Step ℕ → Me ℕ View → ℕ → Me ℕ View → Type 0
AppendsCall st r m _ me _ me' = me' ≡ (view_with_call st r m me.0, me.1)

abbrev pub ReceiptsAgree : Step ℕ → Me ℕ View → ℕ → Me ℕ View → Type 0
ReceiptsAgree _ me _ me' = (me' ≡ me) × KnowsReceipts (log_in me.0) (seat_in me.0)
