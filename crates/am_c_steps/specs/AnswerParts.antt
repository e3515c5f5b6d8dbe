-- What of an answer C is given beside its status and its number.
use Rattle.std.specs.Prelude.{ℕ, nat_eq, cond, List, [], ◌∷◌, ◌++◌, map, take, drop, length, Result, Ok}
use Rattle.std.specs.Cmp.Lexicographic.{pointwise}
use Rattle.am_record.specs.OrderedKey.{OrderedKey, bytes_of}
use Rattle.am_record.specs.declared.step.Reply.{Reply}
use Rattle.am_record.specs.declared.step.Reply.TheVariants.{Found, Rows, Exists}
use Rattle.am_c_steps.specs.declared.status.Status.{Status}
use Rattle.am_c_steps.specs.declared.text.KeyText.{KeyText}
use Rattle.am_c_steps.specs.declared.text.ValueText.{ValueText}
use Rattle.am_c_steps.specs.declared.text.Record.{Record}
use Rattle.am_c_steps.specs.Statuses.{number}
use Rattle.am_c_steps.specs.Texts.{key_text, value_text, record_as_text}

-- the value that was found, or what was there
abbrev pub value_told : Result Reply Status → ValueText → ValueText
value_told (Ok (Found v)) old = value_text v
value_told answer old = old

-- the key that has a record already, or what was there
abbrev pub key_told : Result Reply Status → KeyText → KeyText
key_told (Ok (Exists k)) old = key_text k
key_told answer old = old

-- the first rows are written over, and the others stay
abbrev pub rows_over : List (OrderedKey × List ℕ) → List Record → List Record
rows_over rows old = map record_as_text rows ++ drop (length rows) old

-- the rows, or the first ones of them without a record of that key at their head
abbrev pub all : List (OrderedKey × List ℕ) → List (OrderedKey × List ℕ)
all rows = rows

abbrev pub without_first : List ℕ → List (OrderedKey × List ℕ) → List (OrderedKey × List ℕ)
without_first key [] = []
without_first key (r ∷ rows) = cond (pointwise nat_eq (bytes_of r.0) key) rows (r ∷ rows)

abbrev pub rows_behind : List ℕ → ℕ → List (OrderedKey × List ℕ) → List (OrderedKey × List ℕ)
rows_behind key max rows = take max (without_first key rows)

-- the rows that an answer has
abbrev pub answer_rows : Result Reply Status → List (OrderedKey × List ℕ)
answer_rows (Ok (Rows rows)) = rows
answer_rows answer = []

-- those of the rows that are chosen are written
abbrev pub rows_told :
    (List (OrderedKey × List ℕ) → List (OrderedKey × List ℕ)) → Result Reply Status → List Record → List Record
rows_told chosen (Ok (Rows rows)) old = rows_over (chosen rows) old
rows_told chosen answer old = old

-- how many they are, or the number of another answer
abbrev pub count_told : (List (OrderedKey × List ℕ) → List (OrderedKey × List ℕ)) → Result Reply Status → ℕ
count_told chosen (Ok (Rows rows)) = length (chosen rows)
count_told chosen answer = number answer
