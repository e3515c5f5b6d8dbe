-- The words that replies begin with, and the codes of refusals.
use Rattle.std.specs.Prelude.{ℕ, List, [], ◌++◌, codes}
use Rattle.am_record.specs.declared.step.Refusal.{Refusal}
use Rattle.am_record.specs.declared.step.Refusal.TheVariants as refusal
use Rattle.am_line_text.specs.declared.reply_word.ReplyWord.{ReplyWord}
use Rattle.am_line_text.specs.declared.reply_word.ReplyWord.TheVariants.{Begun, Done, Found, Absent, Rows, Exists}
use Rattle.am_line_text.specs.declared.reply_word.ReplyWord.TheVariants.{Missing}
use Rattle.am_line_text.specs.declared.reply_word.ReplyWord.TheVariants.{Deleted, Committed, Aborted, Moved, MergeDone}
use Rattle.am_line_text.specs.declared.reply_word.ReplyWord.TheVariants.{Ended}
use Rattle.am_line_text.specs.declared.reply_word.ReplyWord.TheVariants.{Idle, Cleaned, NoMark, Busy, Error}

abbrev pub word_text : ReplyWord → List ℕ
word_text Begun = codes "BEGUN"
word_text Done = codes "OK"
word_text Found = codes "VAL"
word_text Absent = codes "NONE"
word_text Rows = codes "ROWS"
word_text Exists = codes "EXISTS"
word_text Missing = codes "MISSING"
word_text Deleted = codes "DELETED"
word_text Committed = codes "COMMITTED"
word_text Aborted = codes "ABORTED"
word_text Moved = codes "MOVED"
word_text MergeDone = codes "DONE"
word_text Ended = codes "ENDED"
word_text Idle = codes "IDLE"
word_text Cleaned = codes "CLEANED"
word_text NoMark = codes "NOMARK"
word_text Busy = codes "BUSY"
word_text Error = codes "ERR"

-- a word with something after it
abbrev pub spaced : ReplyWord → List ℕ
spaced word = word_text word ++ codes " "

-- what a refusal has after ERR; a lock that conflicts is told by BUSY and its holder
abbrev pub refusal_code : Refusal → List ℕ
refusal_code (refusal.Busy holder) = []
refusal_code refusal.NoSuchTx = codes "NOTX"
refusal_code refusal.TooManyTx = codes "TXS"
refusal_code refusal.TooManyLocks = codes "LOCKS"
refusal_code refusal.TooManyOps = codes "OPS"
refusal_code refusal.TooManyRuns = codes "RUNS"
refusal_code refusal.NotRising = codes "ORDER"
refusal_code refusal.BadLimit = codes "LIMIT"
refusal_code refusal.NoMemory = codes "MEMORY"
refusal_code refusal.SeatFull = codes "FULL"
