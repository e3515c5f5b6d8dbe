-- Seats and their receipts.
use Rattle.std.specs.Coded.{Coded, code_by, coded×, coded_ℕ, coded_list}
use Rattle.std.specs.Prelude.{refl, ◌≡◌, ℕ, zero, suc, ◌<◌, ◌+◌, ◌-◌, List, [], ◌∷◌, ◌++◌, length, map, slice_get}
use Rattle.std.specs.Prelude.{Option, Some, None, MatchBool}
use Rattle.am_record.specs.declared.step.Step.{Step}
use Rattle.am_record.specs.declared.step.Reply.{Reply}
use Rattle.am_record.specs.declared.step.Reply.TheVariants.{Committed}
use Rattle.am_latch_ties.specs.declared.receipt.Receipt.{Receipt}
use Rattle.am_latch_ties.specs.CallLogs.{CallLog}
use Rattle.am_latch_ties.specs.Receipts.{receipt, receipt_code, receipts_of}
use Rattle.am_latch_engine.specs.Changes.{is_stored, moves_in}

-- what contracts see of a seat: all its receipts, and how many of them, the oldest, it let go
pub record SeatState : Type 0 where
  pub number : ℕ
  pub receipts : List Receipt
  pub let_go : ℕ

-- it is stored as its fields
abbrev pub seat_state_code : Coded SeatState
seat_state_code =
    code_by (ℕ × (List Receipt × ℕ)) (coded× coded_ℕ (coded× (coded_list receipt_code) coded_ℕ))
    (λ s. (s.number, (s.receipts, s.let_go)))
    (λ f. record { number = f.0; receipts = f.1.0; let_go = f.1.1 }) (λ _. refl)

abbrev pub seat_state : ℕ → List Receipt → ℕ → SeatState
seat_state k rs n = record { number = k; receipts = rs; let_go = n }

-- so many receipts at most are let go, lest their numbers run out
abbrev pub most_let_go : ℕ
most_let_go = 140000000000000

-- how many receipts it holds
abbrev pub receipts_held : SeatState → ℕ
receipts_held s = length s.receipts - s.let_go

abbrev pub positions_of : List Receipt → List ℕ
positions_of rs = map (λ (r : Receipt). r.position) rs

-- these are the last of all, after so many
abbrev pub AreBehind : ℕ → List ℕ → List ℕ → Type 0
AreBehind n all xs = (gone : List ℕ) × (length gone ≡ n) × (all ≡ gone ++ xs)

abbrev pub new_seat : ℕ → SeatState
new_seat k = seat_state k [] 0

-- how many entries the replies say were moved
abbrev pub moved_in : List Receipt → ℕ
moved_in [] = 0
moved_in (r ∷ rs) = moves_in r.reply + moved_in rs

abbrev pub committed_by : Reply → Option ℕ
committed_by (Committed c) = Some c
committed_by _ = None

abbrev pub commit_in : Option Receipt → Option ℕ
commit_in (Some r) = committed_by r.reply
commit_in None = None

-- the number of the commit, where the last receipt is of one
abbrev pub last_commit_of : List Receipt → Option ℕ
last_commit_of rs = commit_in (slice_get rs (length rs - 1))

-- the seats with the numbers below n, with no receipts
abbrev pub numbered : ℕ → List SeatState
numbered zero = []
numbered (suc n) = numbered n ++ new_seat n ∷ []

-- one receipt more, of the next call
abbrev pub GetsReceipt : SeatState → Step → Reply → SeatState → Type 0
GetsReceipt s st r s' = (position : ℕ) × (s' ≡ seat_state s.number
    (s.receipts ++ receipt s.number (length s.receipts) st r position ∷ []) s.let_go)

-- the call has its receipt, or the seat is unchanged
abbrev pub HasReceiptOf : SeatState → Step → Reply → SeatState → Type 0
HasReceiptOf s st r s' = MatchBool (is_stored r) (GetsReceipt s st r s') (s' ≡ s)

-- the receipt is call k of that seat, and stands in the trace at its position
pub record IsReceiptAt (trace : List (Step × Reply)) (number k : ℕ) (r : Receipt) : Type 0 where
  pub seat : r.seat ≡ number
  pub call : r.call ≡ k
  pub there : slice_get trace r.position ≡ Some (r.step, r.reply)

-- Each receipt stands in the trace at its position, and each position has one receipt.
-- The calls of a seat's receipts are 0, 1, 2, .. and their positions rise.
pub record AreReceiptsOf (seats : List SeatState) (trace : List (Step × Reply)) : Type 0 where
  pub stand : (i k : ℕ) (s : SeatState) (r : Receipt) → slice_get seats i ≡ Some s → slice_get s.receipts k ≡ Some r →
      IsReceiptAt trace s.number k r
  pub rise : (i k l : ℕ) (s : SeatState) (r q : Receipt) → slice_get seats i ≡ Some s →
      slice_get s.receipts k ≡ Some r → slice_get s.receipts l ≡ Some q → k < l → r.position < q.position
  pub found : (p : ℕ) → p < length trace → (i k : ℕ) × (s : SeatState) × (r : Receipt) × (slice_get seats i ≡ Some s) ×
      (slice_get s.receipts k ≡ Some r) × (r.position ≡ p)
  pub once : (i k j l : ℕ) (s t : SeatState) (r q : Receipt) → slice_get seats i ≡ Some s →
      slice_get s.receipts k ≡ Some r → slice_get seats j ≡ Some t → slice_get t.receipts l ≡ Some q →
      r.position ≡ q.position → (i ≡ j) × (k ≡ l)

abbrev pub NumberedBelow : List SeatState → ℕ → Type 0
NumberedBelow seats n = (i : ℕ) (s : SeatState) → i < n → slice_get seats i ≡ Some s → s.number ≡ i

-- the n seats of a latch, in their order
abbrev pub AreAllSeats : ℕ → List SeatState → Type 0
AreAllSeats n seats = (length seats ≡ n) × NumberedBelow seats n

-- the receipts of the seats below n are those of their calls
abbrev pub HaveReceiptsIn : CallLog → List SeatState → ℕ → Type 0
HaveReceiptsIn e seats n = (i : ℕ) (s : SeatState) → i < n → slice_get seats i ≡ Some s →
    s.receipts ≡ receipts_of s.number e
