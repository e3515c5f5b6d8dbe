-- What is read of words.
use Rattle.std.proofs.Common.{◌≡◌, ℕ, zero, suc, ◌+◌, ◌-◌, ◌≤◌, ◌<◌, List, [], ◌∷◌, ◌++◌, length, replicate, refl, sym}
use Rattle.std.proofs.Common.{ap, ◌∙◌}
use Rattle.std.proofs.Common.{arith, append_assoc, append-nil}
use Rattle.std.proofs.lemmas.List.{length-append, length-replicate}
use Rattle.am_resp_text.specs.Limits.{max_word_bytes}
use Rattle.am_resp_text.specs.Counts.{crlf, count_line, bulk_text}
use Rattle.am_resp_text.specs.Requests.{words_text, HasShortWords, IsCountLine, IsWordText, AreWordsText}
use Rattle.am_resp_text.specs.Gaps.{IsGap}
use Rattle.am_resp_text.specs.declared.fault.Gap.{Gap}
use Rattle.am_resp_text.specs.declared.fault.Gap.TheVariants.{Incomplete}
use Rattle.am_resp_text.proofs.Cuts.{cut_at_length, cut_count, cut_bytes}
use Rattle.am_resp_text.proofs.Continuations.{gap_behind, gap_at_front}

-- ---- one word

-- its count is missing, or is none
pub gap_of_length : (bytes : List ℕ) (gap : Gap) → IsGap (IsCountLine 36 max_word_bytes) bytes gap →
    IsGap IsWordText bytes gap
gap_of_length bytes gap there =
    gap_at_front IsWordText (IsCountLine 36 max_word_bytes) bytes gap
    (λ text is.
    let word = replicate is.0 48 in
    let len : length word ≡ is.0 = length-replicate is.0 48 in
    let few = is.1 in (
      word ++ crlf,
      (
        word,
        omega (arith, len, few),
        ap (λ (z : List ℕ). z ++ (word ++ crlf)) (is.2 ∙ ap (λ n. count_line 36 n) (sym len)),
      ),
    ))
    (λ text is. (count_line 36 (length is.0), is.0 ++ crlf, (length is.0, is.1, refl), is.2))
    there

-- bytes of it are missing
pub gap_of_bytes : (bytes behind : List ℕ) (len : ℕ) → bytes ≡ count_line 36 len ++ behind → len ≤ max_word_bytes →
    length behind < len → IsGap IsWordText bytes Incomplete
gap_of_bytes bytes behind len e few short =
    let missing = replicate (len - length behind) 48 in
    let word = behind ++ missing in
    let many : length missing ≡ len - length behind = length-replicate (len - length behind) 48 in
    let is : length word ≡ len = omega (arith, length-append behind missing, many, short) in
    let end : length (missing ++ crlf) ≡ length missing + 2 = length-append missing crlf in
    let whole : bytes ++ (missing ++ crlf) ≡ bulk_text word =
    ap (λ (z : List ℕ). z ++ (missing ++ crlf)) e ∙ append_assoc (count_line 36 len) behind (missing ++ crlf) ∙
    ap (λ (z : List ℕ). count_line 36 len ++ z) (sym (append_assoc behind missing crlf)) ∙
    ap (λ n. count_line 36 n ++ (word ++ crlf)) (sym is) in (
      missing ++ crlf,
      (λ h. let none = ap length h in absurd (omega (arith, end, none))),
      (word, omega (arith, is, few), whole),
    )

-- its end is missing, or is none
pub gap_of_word_end : (bytes behind word end : List ℕ) (len : ℕ) (gap : Gap) → bytes ≡ count_line 36 len ++ behind →
    length word ≡ len → behind ≡ word ++ end → len ≤ max_word_bytes → IsGap (λ text. text ≡ crlf) end gap →
    IsGap IsWordText bytes gap
gap_of_word_end bytes behind word end len gap e n b few there =
    let head = count_line 36 len in
    gap_behind IsWordText (λ text. text ≡ crlf) bytes (head ++ word) end gap
    (e ∙ ap (λ (z : List ℕ). head ++ z) b ∙ sym (append_assoc head word end))
    (λ text is. (
      word,
      omega (arith, n, few),
      append_assoc head word text ∙ ap (λ (z : List ℕ). head ++ (word ++ z)) is ∙
          ap (λ m. count_line 36 m ++ (word ++ crlf)) (sym n),
    ))
    (λ more text x is h.
    let left = append_assoc head word more in
    let right = ap (λ (z : List ℕ). z ++ x) is.2 ∙ append_assoc (count_line 36 (length is.0)) (is.0 ++ crlf) x in
    let count = cut_count 36 36 len (length is.0) (word ++ more) ((is.0 ++ crlf) ++ x) (sym left ∙ h ∙ right) in
    (crlf, refl, (cut_at_length word is.0 more (crlf ++ x) (n ∙ count.1) (count.2 ∙ append_assoc is.0 crlf x)).1))
    there

-- ---- so many words

pub words_text-append : (vs ws : List (List ℕ)) → words_text (vs ++ ws) ≡ words_text vs ++ words_text ws
words_text-append [] ws = refl
words_text-append (v ∷ vs) ws = ap (λ (z : List ℕ). bulk_text v ++ z) (words_text-append vs ws) ∙
    sym (append_assoc (bulk_text v) (words_text vs) (words_text ws))

pub short-append : (vs ws : List (List ℕ)) → HasShortWords vs → HasShortWords ws → HasShortWords (vs ++ ws)
short-append [] ws f h = h
short-append (v ∷ vs) ws f h = (f.0, short-append vs ws f.1 h)

pub short-empty : (n : ℕ) → HasShortWords (replicate n [])
short-empty zero = tt
short-empty (suc n) = (omega arith, short-empty n)

first_word : (ws : List (List ℕ)) (k : ℕ) (text : List ℕ) → length ws ≡ 1 + k → HasShortWords ws →
    text ≡ words_text ws →
    (front rest : List ℕ) × IsWordText front × (text ≡ front ++ rest)
first_word [] k text n h e = absurd (omega (arith, n))
first_word (w ∷ ws) k text n h e = (bulk_text w, words_text ws, (w, h.0, refl), e)

-- the words that stand behind the first ones
words_behind : (vs ws : List (List ℕ)) (k : ℕ) (more x : List ℕ) → length ws ≡ length vs + k → HasShortWords ws →
    words_text vs ++ more ≡ words_text ws ++ x → (behind : List ℕ) × AreWordsText k behind × (more ≡ behind ++ x)
words_behind [] ws k more x n h e = (words_text ws, (ws, omega (arith, n), h, refl), e)
words_behind (v ∷ vs) [] k more x n h e = absurd (omega (arith, n))
words_behind (v ∷ vs) (w ∷ ws) k more x n h e =
    let both = sym (append_assoc (bulk_text v) (words_text vs) more) ∙ e ∙ append_assoc (bulk_text w) (words_text ws)
    x in
    words_behind vs ws k more x (omega (arith, n)) h.1
    (cut_bytes v w (words_text vs ++ more) (words_text ws ++ x) both).1

-- the next of them is missing, or is none
pub gap_of_next : (bytes rest : List ℕ) (vs : List (List ℕ)) (k count : ℕ) (gap : Gap) → bytes ≡ words_text vs ++ rest →
    HasShortWords vs → length vs + (1 + k) ≡ count → IsGap IsWordText rest gap → IsGap (AreWordsText count) bytes gap
gap_of_next bytes rest vs k count gap e few n there =
    gap_behind (AreWordsText count) (AreWordsText (1 + k)) bytes (words_text vs) rest gap e
    (λ text is. (
      vs ++ is.0,
      length-append vs is.0 ∙ ap (λ m. length vs + m) is.1 ∙ n,
      short-append vs is.0 few is.2,
      ap (λ (z : List ℕ). words_text vs ++ z) is.3 ∙ sym (words_text-append vs is.0),
    ))
    (λ more text x is h. words_behind vs is.0 (1 + k) more x (is.1 ∙ sym n) is.2 (h ∙ ap (λ (z : List ℕ). z ++ x) is.3))
    (gap_at_front (AreWordsText (1 + k)) IsWordText rest gap
    (λ text is.
    let empty : List (List ℕ) = replicate k [] in
    let many : length empty ≡ k = length-replicate k [] in (
      words_text empty,
      (
        is.0 ∷ empty,
        omega (arith, many),
        (is.1, short-empty k),
        ap (λ (z : List ℕ). z ++ words_text empty) is.2,
      ),
    ))
    (λ text is. first_word is.0 k text is.1 is.2 is.3)
    there)

pub one_more : (vs : List (List ℕ)) (w rest : List ℕ) → words_text vs ++ (bulk_text w ++ rest) ≡ words_text
    (vs ++ w ∷ []) ++ rest
one_more vs w rest =
    ap (λ (z : List ℕ). words_text vs ++ (z ++ rest)) (sym (append-nil (bulk_text w))) ∙
    sym (append_assoc (words_text vs) (bulk_text w ++ []) rest) ∙
    ap (λ (z : List ℕ). z ++ rest) (sym (words_text-append vs (w ∷ [])))
