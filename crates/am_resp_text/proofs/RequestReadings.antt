-- What is read of a request.
use Rattle.std.proofs.Common.{◌≡◌, ℕ, ◌≤◌, List, [], ◌++◌, length, replicate, refl, sym, ap, ◌∙◌}
use Rattle.std.proofs.Common.{arith, append_assoc, append-nil}
use Rattle.std.specs.Prelude.{Result, Ok, Err}
use Rattle.std.proofs.lemmas.List.{length-replicate}
use Rattle.am_resp_text.specs.Limits.{max_words}
use Rattle.am_resp_text.specs.Counts.{count_line}
use Rattle.am_resp_text.specs.Requests.{words_text, request_text, IsCountLine, AreWordsText, IsRequestText}
use Rattle.am_resp_text.specs.Gaps.{IsGap, IsRequestFault, request_fault, ReadsAs}
use Rattle.am_resp_text.specs.declared.fault.Gap.{Gap}
use Rattle.am_resp_text.specs.declared.fault.Gap.TheVariants as gap
use Rattle.am_resp_text.specs.declared.fault.RequestFault.{RequestFault}
use Rattle.am_resp_text.specs.declared.fault.RequestFault.TheVariants as fault
use Rattle.am_resp_text.proofs.Cuts.{cut_count}
use Rattle.am_resp_text.proofs.RequestTexts.{cut_request}
use Rattle.am_resp_text.proofs.Continuations.{gap_behind, gap_at_front, nothing_more}
use Rattle.am_resp_text.proofs.WordReadings.{short-empty}

pub fault_from_gap : (IsText : List ℕ → Type 0) (bytes : List ℕ) (gap : Gap) → IsGap IsText bytes gap →
    IsRequestFault IsText bytes (request_fault gap)
fault_from_gap IsText bytes gap.Incomplete is = is
fault_from_gap IsText bytes gap.Bad is = is

-- its count is missing, or is none
pub gap_of_count : (bytes : List ℕ) (gap : Gap) → IsGap (IsCountLine 42 max_words) bytes gap →
    IsGap IsRequestText bytes gap
gap_of_count bytes gap there =
    gap_at_front IsRequestText (IsCountLine 42 max_words) bytes gap
    (λ text is.
    let words : List (List ℕ) = replicate is.0 [] in
    let len : length words ≡ is.0 = length-replicate is.0 [] in
    let few = is.1 in (
      words_text words,
      (
        words,
        (omega (arith, len, few), short-empty is.0),
        ap (λ (z : List ℕ). z ++ words_text words) (is.2 ∙ ap (λ n. count_line 42 n) (sym len)),
      ),
    ))
    (λ text is. (count_line 42 (length is.0), words_text is.0, (length is.0, is.1.0, refl), is.2))
    there

gap_of_words : (bytes rest : List ℕ) (n : ℕ) (gap : Gap) → bytes ≡ count_line 42 n ++ rest → n ≤ max_words →
    IsGap (AreWordsText n) rest gap → IsGap IsRequestText bytes gap
gap_of_words bytes rest n gap e few there =
    gap_behind IsRequestText (AreWordsText n) bytes (count_line 42 n) rest gap e
    (λ text is.
    let len = is.1 in (
      is.0,
      (omega (arith, len, few), is.2),
      ap (λ (z : List ℕ). count_line 42 n ++ z) is.3 ∙
          ap (λ m. count_line 42 m ++ words_text is.0) (sym len),
    ))
    (λ more text x is h.
    let right = ap (λ (z : List ℕ). z ++ x) is.2 ∙ append_assoc (count_line 42 (length is.0)) (words_text is.0) x in
    let cut = cut_count 42 42 n (length is.0) more (words_text is.0 ++ x) (h ∙ right) in
    (words_text is.0, (is.0, sym cut.1, is.1.1, refl), cut.2))
    there

-- of its words some are missing, or there is none
pub fault_of_words : (bytes rest : List ℕ) (n : ℕ) (fault : RequestFault) → bytes ≡ count_line 42 n ++ rest →
    n ≤ max_words →
    IsRequestFault (AreWordsText n) rest fault → IsRequestFault IsRequestText bytes fault
fault_of_words bytes rest n fault.Incomplete e few there = gap_of_words bytes rest n gap.Incomplete e few there
fault_of_words bytes rest n fault.Bad e few there = gap_of_words bytes rest n gap.Bad e few there
fault_of_words bytes rest n fault.NoMemory e few there = tt

whole_and_beginning : (bytes : List ℕ) (found : List (List ℕ) × List ℕ) → ReadsAs bytes (Ok found) →
    ReadsAs bytes (Err gap.Incomplete) → ⊥
whole_and_beginning bytes found f missing =
    let more = missing.0 in
    let words = missing.2.0 in
    let left = ap (λ (z : List ℕ). z ++ more) f.1 ∙ append_assoc (request_text found.0) found.1 more in
    let right = missing.2.2 ∙ sym (append-nil (request_text words)) in
    missing.1 (nothing_more found.1 more (cut_request found.0 words (found.1 ++ more) [] (sym left ∙ right)).1)

whole_and_none : (bytes : List ℕ) (found : List (List ℕ) × List ℕ) → ReadsAs bytes (Ok found) →
    ReadsAs bytes (Err gap.Bad) → ⊥
whole_and_none bytes found f none = none [] (request_text found.0) found.1 (found.0, f.0, refl) (append-nil bytes ∙ f.1)

beginning_and_none : (bytes : List ℕ) → ReadsAs bytes (Err gap.Incomplete) → ReadsAs bytes (Err gap.Bad) → ⊥
beginning_and_none bytes missing none =
    none missing.0 (bytes ++ missing.0) [] missing.2 (sym (append-nil (bytes ++ missing.0)))

pub one_reading : (bytes : List ℕ) (a b : Result (List (List ℕ) × List ℕ) Gap) → ReadsAs bytes a → ReadsAs bytes b →
    a ≡ b
one_reading bytes (Ok p) (Ok q) f h =
    let cut = cut_request p.0 q.0 p.1 q.1 (sym f.1 ∙ h.1) in
    ap (λ (vs : List (List ℕ)). Ok (vs, p.1)) cut.0 ∙ ap (λ (x : List ℕ). Ok (q.0, x)) cut.1
one_reading bytes (Ok p) (Err gap.Incomplete) f h = absurd (whole_and_beginning bytes p f h)
one_reading bytes (Ok p) (Err gap.Bad) f h = absurd (whole_and_none bytes p f h)
one_reading bytes (Err gap.Incomplete) (Ok q) f h = absurd (whole_and_beginning bytes q h f)
one_reading bytes (Err gap.Bad) (Ok q) f h = absurd (whole_and_none bytes q h f)
one_reading bytes (Err gap.Incomplete) (Err gap.Incomplete) f h = refl
one_reading bytes (Err gap.Incomplete) (Err gap.Bad) f h = absurd (beginning_and_none bytes f h)
one_reading bytes (Err gap.Bad) (Err gap.Incomplete) f h = absurd (beginning_and_none bytes h f)
one_reading bytes (Err gap.Bad) (Err gap.Bad) f h = refl
