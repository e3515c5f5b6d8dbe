-- Texts of records: lines, each of a key, a TAB and a value.
use Rattle.std.specs.Prelude.{◌≡◌, ◌⊎◌, ◌+◌, ◌<◌, ◌==◌, ℕ, Bool, cond, List, [], ◌∷◌, take, drop, length}
use Rattle.std.specs.Prelude.{get_or, Option, None, Some, Result, Ok, Err, is_ok}
use Rattle.std.specs.List.{position, slice_split}
use Rattle.am_record.specs.OrderedKey.{OrderedKey}
use Rattle.am_record.specs.Plain.{Records}
use Rattle.am_c_steps.specs.declared.lines.WrongLine.{WrongLine}
use Rattle.am_c_steps.specs.declared.status.Status.{Status}
use Rattle.am_c_steps.specs.declared.status.Status.TheVariants.{BadLine, NoMemory}
use Rattle.am_c_steps.specs.Texts.{of_both, key_given, value_given}

abbrev pub is_lf : ℕ → Bool
is_lf byte = byte == 10

abbrev pub is_tab : ℕ → Bool
is_tab byte = byte == 9

-- what stands after the last LF is a line, unless nothing does
abbrev pub last_line : List ℕ → List (List ℕ)
last_line [] = []
last_line (b ∷ bs) = (b ∷ bs) ∷ []

abbrev pub lines_in : List (List ℕ) → List (List ℕ)
lines_in [] = []
lines_in (part ∷ []) = last_line part
lines_in (part ∷ next ∷ parts) = part ∷ lines_in (next ∷ parts)

-- the lines of a text: it is split at each LF, and the last line may lack its own
abbrev pub text_lines : List ℕ → List (List ℕ)
text_lines text = lines_in (slice_split is_lf text)

-- the record of these two, or which of them is too long
abbrev pub record_of : List ℕ → List ℕ → Result (OrderedKey × List ℕ) Status
record_of key value = of_both (λ k v. Ok (k, v)) (key_given key) (value_given value)

-- the key stands in front of that TAB, and the value is all after it
abbrev pub cut_at : List ℕ → Option ℕ → Result (OrderedKey × List ℕ) Status
cut_at line None = Err BadLine
cut_at line (Some tab) = record_of (take tab line) (drop (tab + 1) line)

-- the record of a line: it is cut at its first TAB
abbrev pub line_given : List ℕ → Result (OrderedKey × List ℕ) Status
line_given line = cut_at line (position is_tab line)

-- the records of the lines, or what is wrong with the first that isn't one
abbrev pub lines_given : List (List ℕ) → Result Records Status
lines_given [] = Ok []
lines_given (line ∷ lines) = of_both (λ r rs. Ok (r ∷ rs)) (line_given line) (lines_given lines)

-- the number of that line, where the first of them has number n; 0 where all are records
abbrev pub wrong_line : ℕ → List (List ℕ) → ℕ
wrong_line n [] = 0
wrong_line n (line ∷ lines) = cond (is_ok (line_given line)) (wrong_line (n + 1) lines) n

-- the records of a text, and the number of its first wrong line
abbrev pub text_given : List ℕ → Result Records Status
text_given text = lines_given (text_lines text)

abbrev pub wrong_line_of : List ℕ → ℕ
wrong_line_of text = wrong_line 1 (text_lines text)

-- the text has these lines from there on
abbrev pub IsLineStart : List ℕ → ℕ → List (List ℕ) → Type 0
IsLineStart text start lines = (start < length text) × (text_lines (drop start text) ≡ lines)

-- where the lines of a text begin, in their order
pub record AreLineStarts (text : List ℕ) (starts : List ℕ) : Type 0 where
  pub all : length starts ≡ length (text_lines text)
  pub each : (at : ℕ) → at < length starts → IsLineStart text (get_or starts at 0) (drop at (text_lines text))

-- the line is the first wrong one, or memory was refused
abbrev pub IsWrong : List ℕ → WrongLine → Type 0
IsWrong text wrong =
    ((text_given text ≡ Err wrong.why) × (wrong_line_of text ≡ wrong.number)) ⊎
    ((wrong.why ≡ NoMemory) × (wrong.number ≡ 0))

-- the text was read, or memory was refused for its records
abbrev pub IsRead : List ℕ → Result Records Status → ℕ → Type 0
IsRead text read line =
    ((read ≡ text_given text) × (line ≡ wrong_line_of text)) ⊎ ((read ≡ Err NoMemory) × (line ≡ 0))
