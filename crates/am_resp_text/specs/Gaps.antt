-- Bytes at whose front no whole text of a kind stands.
use Rattle.std.specs.Prelude.{◌≡◌, ◌≢◌, ℕ, List, [], ◌++◌, Result, Ok, Err}
use Rattle.am_resp_text.specs.Requests.{request_text, IsRequest, IsRequestText}
use Rattle.am_resp_text.specs.declared.fault.Gap.{Gap}
use Rattle.am_resp_text.specs.declared.fault.Gap.TheVariants as gap
use Rattle.am_resp_text.specs.declared.fault.RequestFault.{RequestFault}
use Rattle.am_resp_text.specs.declared.fault.RequestFault.TheVariants as fault

-- some bytes more make them such a text
abbrev pub IsBeginning : (List ℕ → Type 0) → List ℕ → Type 0
IsBeginning IsText bytes = (more : List ℕ) × (more ≢ []) × IsText (bytes ++ more)

-- none stands at their front, whatever follows them
abbrev pub BeginsNone : (List ℕ → Type 0) → List ℕ → Type 0
BeginsNone IsText bytes = (more text rest : List ℕ) → IsText text → bytes ++ more ≡ text ++ rest → ⊥

abbrev pub IsGap : (List ℕ → Type 0) → List ℕ → Gap → Type 0
IsGap IsText bytes gap.Incomplete = IsBeginning IsText bytes
IsGap IsText bytes gap.Bad = BeginsNone IsText bytes

abbrev pub request_fault : Gap → RequestFault
request_fault gap.Incomplete = fault.Incomplete
request_fault gap.Bad = fault.Bad

-- the same where memory may be refused
abbrev pub IsRequestFault : (List ℕ → Type 0) → List ℕ → RequestFault → Type 0
IsRequestFault IsText bytes fault.Incomplete = IsBeginning IsText bytes
IsRequestFault IsText bytes fault.Bad = BeginsNone IsText bytes
IsRequestFault IsText bytes fault.NoMemory = Unit {0}

-- What bytes are read as: the words of the request at their front and what stands behind it, or why there is none.
abbrev pub ReadsAs : List ℕ → Result (List (List ℕ) × List ℕ) Gap → Type 0
ReadsAs bytes (Ok found) = IsRequest found.0 × (bytes ≡ request_text found.0 ++ found.1)
ReadsAs bytes (Err gap) = IsGap IsRequestText bytes gap
