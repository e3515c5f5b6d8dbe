-- What came of a request that isn't whole is the beginning of one.
use Rattle.std.proofs.Common.{◌≡◌, ℕ, ◌+◌, ◌-◌, ◌≤◌, ◌<◌, List, [], ◌∷◌, ◌++◌, length, refl, sym, inl}
use Rattle.std.proofs.Common.{inr}
use Rattle.std.proofs.Common.{arith, subst, append-nil}
use Rattle.std.proofs.lemmas.Bool.{cases_lt}
use Rattle.am_resp_text.specs.Limits.{max_word_bytes}
use Rattle.am_resp_text.specs.Counts.{crlf, count_line}
use Rattle.am_resp_text.specs.Requests.{words_text, IsWordText, IsRequestText}
use Rattle.am_resp_text.specs.Gaps.{IsBeginning}
use Rattle.am_resp_text.specs.declared.fault.Gap.TheVariants.{Incomplete}
use Rattle.am_resp_text.specs.declared.fault.RequestFault.TheVariants as fault
use Rattle.am_resp_text.proofs.WordReadings.{gap_of_length, gap_of_bytes, gap_of_word_end, gap_of_next}
use Rattle.am_resp_text.proofs.RequestReadings.{gap_of_count, fault_of_words}
use Rattle.am_resp_source.specs.Progress.{IsBehind, CameSoFarAt, IsOpenAt, HasHeard, HasFailed, IsHeardAs}
use Rattle.am_resp_source.specs.declared.heard.Heard.{Heard}
use Rattle.am_resp_source.specs.declared.heard.Heard.TheVariants as heard
use Rattle.am_resp_source.specs.declared.reader.RequestReader.{RequestReader}
use Rattle.am_resp_source.specs.declared.stage.Stage.{Stage}
use Rattle.am_resp_source.specs.declared.stage.Stage.TheVariants.{Count, Length, Inside, AfterCr, Failed}

-- behind whole words the beginning of one came
begun_behind : (p : RequestReader) (words : List (List ℕ)) (rest came : List ℕ) → IsBehind p words rest came →
    0 < p.due →
    IsBeginning IsWordText rest → IsBeginning IsRequestText came
begun_behind p words rest came h due begun =
    let count = length words + p.due in
    let many : length words + (1 + (p.due - 1)) ≡ count = omega (arith, due) in
    let behind = words_text words ++ rest in
    fault_of_words came behind count fault.Incomplete h.0 h.1
    (gap_of_next behind rest words (p.due - 1) count Incomplete refl h.2 many begun)

begun_inside : (rest body : List ℕ) (len left : ℕ) → rest ≡ count_line 36 len ++ body → length body + left ≡ len →
    len ≤ max_word_bytes → IsBeginning IsWordText rest
begun_inside rest body len left e size few = elim (cases_lt (length body) len) [
  | inl less ↦ gap_of_bytes rest body len e few less
  | inr all ↦ gap_of_word_end rest body body [] len Incomplete e (omega (arith, size, all)) (sym (append-nil body)) few
      (crlf, (λ h. cc), refl)
]

begun_at : (s : Stage) (p : RequestReader) (came : List ℕ) → CameSoFarAt s p came → IsOpenAt s p → (s ≡ Failed → ⊥) →
    IsBeginning IsRequestText came
begun_at Count p came at due going = gap_of_count came Incomplete at.1
begun_at Length p came at due going = begun_behind p at.0 at.1 came at.2 due (gap_of_length at.1 Incomplete
    at.3.1)
begun_at (Inside left) p came at due going =
    let word = at.3 in
    begun_behind p at.0 at.1 came at.2 word.4 (begun_inside at.1 word.0 p.len left word.1 word.2 word.3)
begun_at AfterCr p came at due going =
    let word = at.3 in
    begun_behind p at.0 at.1 came at.2 word.4 (gap_of_word_end at.1 (word.0 ++ 13 ∷ []) word.0 (13 ∷ []) p.len
    Incomplete word.1
    word.2 refl word.3 (10 ∷ [], (λ h. cc), refl))
begun_at Failed p came at due going = absurd (going refl)

pub heard_is_read : (old new : RequestReader) (came piece : List ℕ) (heard : Heard) (rest : List ℕ) →
    (HasFailed old → ⊥) →
    HasHeard old came piece heard rest new → IsHeardAs old.most (came ++ piece) heard rest
heard_is_read old new came piece (heard.Request words) rest going h = (h.0, (h.1, h.2), h.3)
heard_is_read old new came piece heard.NoMemory rest going h = (h.0, (h.1, h.2))
heard_is_read old new came piece heard.Partial rest going h =
    begun_at new.stage new (came ++ piece) h.0.0 h.0.1 (λ failed. going (h.2 failed))
heard_is_read old new came piece heard.Bad rest going h =
    subst (λ (s : Stage). CameSoFarAt s new (came ++ piece)) h.1 h.0.0
