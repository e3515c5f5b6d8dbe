-- Receipts, and those of a seat by the calls that are stored.
use Rattle.std.specs.Coded.{Coded, code_by, coded×, coded_ℕ}
use Rattle.std.specs.Prelude.{refl, ℕ, suc, List, [], ◌∷◌, ◌==◌, if◌then◌else◌}
use Rattle.am_record.specs.declared.step.Step.{Step}
use Rattle.am_record.specs.contracts.step.Step as the_step
use Rattle.am_record.specs.contracts.step.Reply as the_reply
use Rattle.am_record.specs.declared.step.Reply.{Reply}
use Rattle.am_latch_ties.specs.declared.call_id.CallId.{CallId}
use Rattle.am_latch_ties.specs.declared.receipt.Receipt.{Receipt}
use Rattle.am_latch_ties.specs.CallLogs.{CallLog}

-- a receipt is stored as its fields
abbrev pub ReceiptFields : Type 0
ReceiptFields = (ℕ × ℕ) × ((Step × Reply) × ℕ)

abbrev pub receipt_code : Coded Receipt
receipt_code =
    code_by ReceiptFields (coded× (coded× coded_ℕ coded_ℕ)
    (coded× (coded× the_step.the_row.coded the_reply.the_row.coded) coded_ℕ))
    (λ r. ((r.seat, r.call), ((r.step, r.reply), r.position)))
    (λ f. record { seat = f.0.0; call = f.0.1; step = f.1.0.0; reply = f.1.0.1; position = f.1.1 }) (λ _. refl)

abbrev pub receipt : ℕ → ℕ → Step → Reply → ℕ → Receipt
receipt number call st r position = record { seat = number; call = call; step = st; reply = r; position = position }

-- the receipts of that seat, where the next position and call are these
abbrev pub receipts_from : ℕ → ℕ → ℕ → List (Step × Reply) → List CallId → List Receipt
receipts_from k position call [] ms = []
receipts_from k position call (p ∷ ps) [] = []
receipts_from k position call (p ∷ ps) (m ∷ ms) = if m.seat == k then receipt k call p.0 p.1 position ∷
    receipts_from k (suc position) (suc call) ps ms else receipts_from k (suc position) call ps ms

abbrev pub receipts_of : ℕ → CallLog → List Receipt
receipts_of k e = receipts_from k 0 0 e.trace e.calls
