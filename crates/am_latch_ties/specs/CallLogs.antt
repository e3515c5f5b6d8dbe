-- Stored calls, and who made each of them.
use Rattle.std.specs.Coded.{Coded, code_by, coded×, coded_ℕ, coded_list}
use Rattle.std.specs.Prelude.{refl, ℕ, List, [], ◌∷◌, ◌++◌}
use Rattle.am_record.specs.declared.step.Step.{Step}
use Rattle.am_record.specs.contracts.step.Step as the_step
use Rattle.am_record.specs.contracts.step.Reply as the_reply
use Rattle.am_record.specs.declared.step.Reply.{Reply}
use Rattle.am_latch_ties.specs.declared.call_id.CallId.{CallId}

-- the calls that are stored
pub record CallLog : Type 0 where
  pub trace : List (Step × Reply)
  pub calls : List CallId

-- a list of events is stored as its pairs
abbrev pub events_code : Coded (List (Step × Reply))
events_code = coded_list (coded× the_step.the_row.coded the_reply.the_row.coded)

-- the others as their fields
abbrev pub call_id_code : Coded CallId
call_id_code = code_by (ℕ × ℕ) (coded× coded_ℕ coded_ℕ) (λ m. (m.seat, m.call)) (λ f. record { seat = f.0; call = f.1 })
    (λ _. refl)

abbrev pub call_log_code : Coded CallLog
call_log_code =
    code_by (List (Step × Reply) × List CallId) (coded× events_code (coded_list call_id_code))
    (λ e. (e.trace, e.calls)) (λ f. record { trace = f.0; calls = f.1 }) (λ _. refl)

abbrev pub empty_log : CallLog
empty_log = record { trace = []; calls = [] }

abbrev pub log_with : CallLog → CallId → Step → Reply → CallLog
log_with e m s r = record { trace = e.trace ++ (s, r) ∷ []; calls = e.calls ++ m ∷ [] }
