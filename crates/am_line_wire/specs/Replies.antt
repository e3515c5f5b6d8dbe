-- The texts of replies.
use Rattle.std.specs.Prelude.{◌≡◌, ℕ, List, [], ◌∷◌, ◌++◌, codes, decimal, length, All}
use Rattle.std.specs.List.{AllByRecursion}
use Rattle.am_record.specs.OrderedKey.{OrderedKey}
use Rattle.am_record.specs.Records.{Records}
use Rattle.am_record.specs.declared.step.Reply.{Reply}
use Rattle.am_record.specs.declared.step.Reply.TheVariants.{Begun, Done, Found, Absent, Rows, Exists, Missing}
use Rattle.am_record.specs.declared.step.Reply.TheVariants.{Deleted, Committed, Aborted, Moved, MergeDone, Ended, Idle}
use Rattle.am_record.specs.declared.step.Reply.TheVariants.{Cleaned, NoMark, Refused}
use Rattle.am_record.specs.declared.step.Refusal.{Refusal}
use Rattle.am_record.specs.declared.step.Refusal.TheVariants.{Busy}
use Rattle.am_line_text.specs.declared.reply_word.ReplyWord.TheVariants as word
use Rattle.am_line_text.specs.ReplyWords.{word_text, spaced, refusal_code}
use Rattle.am_line_source.specs.Lines.{HasNoLf}
use Rattle.am_line_text.specs.Keys.{printed_key}
use Rattle.am_line_text.specs.Values.{IsVisible}
use Rattle.am_line_text.specs.Records.{record_field}

-- BUSY and the holder, or ERR and the refusal's code
abbrev pub refusal_words : Refusal → List ℕ
refusal_words (Busy holder) = spaced word.Busy ++ decimal holder
refusal_words refusal = spaced word.Error ++ refusal_code refusal

-- each record with a space before it, as k=v
abbrev pub row_words : OrderedKey × List ℕ → List ℕ
row_words row = 32 ∷ record_field (printed_key row.0, row.1)

abbrev pub rows_words : Records → List ℕ
rows_words [] = []
rows_words (row ∷ rows) = row_words row ++ rows_words rows

-- a reply before the end of its line; of rows their number alone
abbrev pub head_of : Reply → List ℕ
head_of (Begun tx) = spaced word.Begun ++ decimal tx
head_of Done = word_text word.Done
head_of (Found value) = spaced word.Found ++ value
head_of Absent = word_text word.Absent
head_of (Rows rows) = spaced word.Rows ++ decimal (length rows)
head_of (Exists key) = spaced word.Exists ++ printed_key key
head_of Missing = word_text word.Missing
head_of (Deleted n) = spaced word.Deleted ++ decimal n
head_of (Committed commit) = spaced word.Committed ++ decimal commit
head_of Aborted = word_text word.Aborted
head_of (Moved n run) = ((spaced word.Moved ++ decimal n) ++ codes " ") ++ decimal run
head_of MergeDone = word_text word.MergeDone
head_of (Ended key holder) = ((spaced word.Ended ++ printed_key key) ++ codes " ") ++ decimal holder
head_of Idle = word_text word.Idle
head_of (Cleaned n) = spaced word.Cleaned ++ decimal n
head_of NoMark = word_text word.NoMark
head_of (Refused refusal) = refusal_words refusal

-- a reply, before the end of its line
abbrev pub words_of : Reply → List ℕ
words_of (Rows rows) = head_of (Rows rows) ++ rows_words rows
words_of reply = head_of reply

-- a reply, with the LF that ends its line
abbrev pub text_of : Reply → List ℕ
text_of reply = words_of reply ++ 10 ∷ []

-- the record's key and value have visible bytes alone
abbrev pub IsVisibleRow : OrderedKey × List ℕ → Type 0
IsVisibleRow row = All IsVisible (printed_key row.0) × All IsVisible row.1

-- the keys and values that the reply tells have visible bytes alone
abbrev pub TellsVisible : Reply → Type 0
TellsVisible (Found value) = All IsVisible value
TellsVisible (Rows rows) = AllByRecursion IsVisibleRow rows
TellsVisible (Exists key) = All IsVisible (printed_key key)
TellsVisible (Ended key holder) = All IsVisible (printed_key key)
TellsVisible reply = Unit {0}

-- the text is one line: an LF ends it, and no other stands in it
abbrev pub IsOneLine : List ℕ → Type 0
IsOneLine text = (words : List ℕ) × HasNoLf words × (text ≡ words ++ 10 ∷ [])
