-- What the fields of a line are read as.
use Rattle.std.specs.Prelude.{◌≡◌, ℕ, ◌+◌, ◌*◌, ◌-◌, ◌^◌, ◌&&◌, ◌==◌, nat_le, nat_lt, if◌then◌else◌, List, [], ◌∷◌}
use Rattle.std.specs.Prelude.{length, Option, Some, None, Result, Ok, Err, bytes_eq, find, option_map, option_and_then}
use Rattle.std.specs.Option.{option_zip}
use Rattle.std.specs.List.{before_first, after_first}
use Rattle.am_record.specs.OrderedKey.{OrderedKey, number_key}
use Rattle.am_record.specs.Interval.{Interval}
use Rattle.am_record.specs.Records.{Records}
use Rattle.am_record.specs.declared.lock.Lock.{Lock}
use Rattle.am_record.specs.declared.lock.Mode.{Mode}
use Rattle.am_record.specs.declared.step.Reply.{Reply}
use Rattle.am_record.specs.declared.step.Reply.TheVariants as reply
use Rattle.am_record.specs.declared.step.Refusal.{Refusal}
use Rattle.am_record.specs.declared.step.Refusal.TheVariants as refusal
use Rattle.am_line_text.specs.Numbers.{is_numeral, numeral_value, number_for}
use Rattle.am_line_text.specs.Keys.{key_for}
use Rattle.am_line_text.specs.Values.{value_for}
use Rattle.am_line_text.specs.Locks.{interval_for, lock_in, mode_for}
use Rattle.am_line_text.specs.Records.{is_equals}
use Rattle.am_line_text.specs.ReplyWords.{word_text, refusal_code}
use Rattle.am_line_text.specs.declared.reply_word.ReplyWord.{ReplyWord}
use Rattle.am_line_text.specs.declared.reply_word.ReplyWord.TheVariants as word
use Rattle.am_trace_text.specs.declared.version.Version.{Version}
use Rattle.am_trace_text.specs.declared.version.Version.TheVariants.{One, Three}
use Rattle.am_trace_text.specs.declared.read.ReadFault.{ReadFault}
use Rattle.am_trace_text.specs.declared.read.ReadFault.TheVariants.{Bad, NoMemory}

-- ---- one field

abbrev pub number_in : List ℕ → Option ℕ
number_in field = if is_numeral field then number_for (numeral_value field) else None

-- a run's number has 32 bits
abbrev pub run_for : ℕ → Option ℕ
run_for n = if nat_lt n (2 ^ 32) then Some n else None

abbrev pub run_in : List ℕ → Option ℕ
run_in field = option_and_then run_for (number_in field)

abbrev pub digit_in : ℕ → Option ℕ
digit_in c = if nat_le 48 c && nat_le c 57 then Some (c - 48) else if nat_le 97 c &&
    nat_le c 102 then Some (c - 87) else None

abbrev pub byte_in : ℕ → ℕ → Option ℕ
byte_in high low = option_map (λ (p : ℕ × ℕ). 16 * p.0 + p.1) (option_zip (digit_in high) (digit_in low))

abbrev pub with_byte : ℕ × List ℕ → List ℕ
with_byte p = p.0 ∷ p.1

-- the bytes of digits, two each
abbrev pub bytes_for : List ℕ → Option (List ℕ)
bytes_for [] = Some []
bytes_for (high ∷ []) = None
bytes_for (high ∷ low ∷ digits) = option_map with_byte (option_zip (byte_in high low) (bytes_for digits))

abbrev pub value_for_digits : List ℕ → Option (List ℕ)
value_for_digits digits = option_and_then value_for (bytes_for digits)

-- the bytes of a field that begins with the letter h, at most 64 of them
abbrev pub value_in : List ℕ → Option (List ℕ)
value_in [] = None
value_in (letter ∷ digits) = if letter == 104 then value_for_digits digits else None

abbrev pub key_in : Version → List ℕ → Option OrderedKey
key_in One field = option_map number_key (number_in field)
key_in _ field = option_and_then key_for (value_in field)

abbrev pub record_in : Version → List ℕ → Option (OrderedKey × List ℕ)
record_in v field = option_zip (key_in v (before_first is_equals field)) (value_in (after_first is_equals field))

abbrev pub range_in : Version → List ℕ → List ℕ → Option Interval
range_in v lo hi = option_and_then interval_for (option_zip (key_in v lo) (key_in v hi))

-- ---- all fields after a word

abbrev pub nothing_in : List (List ℕ) → Option (Unit {0})
nothing_in [] = Some tt
nothing_in fs = None

abbrev pub savepoint_in : Version → List (List ℕ) → Option (Unit {0})
savepoint_in One fs = None
savepoint_in _ fs = nothing_in fs

-- what only version 3 knows
abbrev pub in_three : {A : Type 0} → Version → Option A → Option A
in_three Three o = o
in_three _ o = None

-- the field, where there is just one; the two, and the three
abbrev pub one_of : List (List ℕ) → Option (List ℕ)
one_of (f ∷ []) = Some f
one_of fs = None

abbrev pub two_of : List (List ℕ) → Option (List ℕ × List ℕ)
two_of (f ∷ g ∷ []) = Some (f, g)
two_of fs = None

abbrev pub three_of : List (List ℕ) → Option (List ℕ × List ℕ × List ℕ)
three_of (f ∷ g ∷ h ∷ []) = Some (f, g, h)
three_of fs = None

abbrev pub field_in : {A : Type 0} → (List ℕ → Option A) → List (List ℕ) → Option A
field_in read fs = option_and_then read (one_of fs)

abbrev pub both_in : {A B : Type 0} → (List ℕ → Option A) → (List ℕ → Option B) → List ℕ × List ℕ → Option (A × B)
both_in first second p = option_zip (first p.0) (second p.1)

abbrev pub fields_in : {A B : Type 0} → (List ℕ → Option A) → (List ℕ → Option B) → List (List ℕ) → Option (A × B)
fields_in first second fs = option_and_then (both_in first second) (two_of fs)

abbrev pub one_number_in : List (List ℕ) → Option ℕ
one_number_in fs = field_in number_in fs

abbrev pub record_first : (OrderedKey × List ℕ) × Records → Records
record_first p = p.0 ∷ p.1

abbrev pub records_of_fields : Version → List (List ℕ) → Option Records
records_of_fields v [] = Some []
records_of_fields v (f ∷ fs) = option_map record_first (option_zip (record_in v f) (records_of_fields v fs))

abbrev pub one_key_in : Version → List (List ℕ) → Option OrderedKey
one_key_in v fs = field_in (key_in v) fs

abbrev pub key_and_value_in : Version → List (List ℕ) → Option (OrderedKey × List ℕ)
key_and_value_in v fs = fields_in (key_in v) value_in fs

abbrev pub range_and_number_for : Version → List ℕ × List ℕ × List ℕ → Option (Interval × ℕ)
range_and_number_for v p = option_zip (range_in v p.0 p.1) (number_in p.2)

abbrev pub range_and_number_in : Version → List (List ℕ) → Option (Interval × ℕ)
range_and_number_in v fs = option_and_then (range_and_number_for v) (three_of fs)

abbrev pub lock_of_parts : Mode × Interval → Lock
lock_of_parts p = lock_in p.0 p.1

abbrev pub lock_for : Version → List ℕ × List ℕ × List ℕ → Option Lock
lock_for v p = option_map lock_of_parts (option_zip (mode_for p.0) (range_in v p.1 p.2))

abbrev pub lock_fields_in : Version → List (List ℕ) → Option Lock
lock_fields_in v fs = option_and_then (lock_for v) (three_of fs)

abbrev pub one_value_in : List (List ℕ) → Option (List ℕ)
one_value_in fs = field_in value_in fs

abbrev pub key_and_number_in : Version → List (List ℕ) → Option (OrderedKey × ℕ)
key_and_number_in v fs = fields_in (key_in v) number_in fs

abbrev pub number_and_run_in : List (List ℕ) → Option (ℕ × ℕ)
number_and_run_in fs = fields_in number_in run_in fs

-- the records, where they are as many as the number says
abbrev pub if_counted : ℕ × Records → Option Records
if_counted p = if length p.1 == p.0 then Some p.1 else None

abbrev pub counted_records_in : Version → List (List ℕ) → Option Records
counted_records_in v [] = None
counted_records_in v (n ∷ fs) = option_and_then if_counted (option_zip (number_in n) (records_of_fields v fs))

-- the refusals that can be stored, but for a lock that conflicts
abbrev pub coded_refusals : List Refusal
coded_refusals = refusal.NoSuchTx ∷ refusal.TooManyTx ∷ refusal.TooManyLocks ∷ refusal.TooManyOps ∷
    refusal.TooManyRuns ∷ refusal.NotRising ∷ refusal.BadLimit ∷ refusal.NoMemory ∷ []

-- the refusal of a code
unfoldable pub refusal_for : List ℕ → Option Refusal
refusal_for code = find (λ why. bytes_eq (refusal_code why) code) coded_refusals

abbrev pub refusal_read : List (List ℕ) → Option Refusal
refusal_read fs = field_in refusal_for fs

-- ---- replies

abbrev pub all_words : List ReplyWord
all_words = word.Begun ∷ word.Done ∷ word.Found ∷ word.Absent ∷ word.Rows ∷ word.Exists ∷ word.Missing ∷
    word.Deleted ∷ word.Committed ∷ word.Aborted ∷ word.Moved ∷ word.MergeDone ∷ word.Ended ∷ word.Idle ∷
    word.Cleaned ∷ word.NoMark ∷ word.Busy ∷ word.Error ∷ []

-- the word of a text
unfoldable pub word_for : List ℕ → Option ReplyWord
word_for text = find (λ w. bytes_eq (word_text w) text) all_words

-- a reply, but for rows, which take memory
abbrev pub small_reply_in : Version → ReplyWord → List (List ℕ) → Option Reply
small_reply_in v word.Begun fs = option_map reply.Begun (one_number_in fs)
small_reply_in v word.Found fs = option_map reply.Found (one_value_in fs)
small_reply_in v word.Exists fs = option_map reply.Exists (one_key_in v fs)
small_reply_in v word.Committed fs = option_map reply.Committed (one_number_in fs)
small_reply_in v word.Moved fs = option_map (λ (p : ℕ × ℕ). reply.Moved p.0 p.1) (number_and_run_in fs)
small_reply_in v word.Ended fs = option_map (λ (p : OrderedKey × ℕ). reply.Ended p.0 p.1) (key_and_number_in v fs)
small_reply_in v word.Cleaned fs = option_map reply.Cleaned (one_number_in fs)
small_reply_in v word.Busy fs = option_map (λ (h : ℕ). reply.Refused (refusal.Busy h)) (one_number_in fs)
small_reply_in v word.Error fs = option_map reply.Refused (refusal_read fs)
small_reply_in v word.NoMark fs = option_map (λ _. reply.NoMark) (savepoint_in v fs)
small_reply_in v word.Done fs = option_map (λ _. reply.Done) (nothing_in fs)
small_reply_in v word.Absent fs = option_map (λ _. reply.Absent) (nothing_in fs)
small_reply_in v word.Missing fs = option_map (λ _. reply.Missing) (nothing_in fs)
small_reply_in v word.Aborted fs = option_map (λ _. reply.Aborted) (nothing_in fs)
small_reply_in v word.MergeDone fs = option_map (λ _. reply.MergeDone) (nothing_in fs)
small_reply_in v word.Idle fs = option_map (λ _. reply.Idle) (nothing_in fs)
small_reply_in v word.Deleted fs = option_map reply.Deleted (in_three v (one_number_in fs))
small_reply_in v word.Rows fs = None

abbrev pub reply_of : Version → ReplyWord → List (List ℕ) → Option Reply
reply_of v word.Rows fs = option_map reply.Rows (counted_records_in v fs)
reply_of v w fs = small_reply_in v w fs

abbrev pub reply_with : Version → Option ReplyWord → List (List ℕ) → Option Reply
reply_with v None fs = None
reply_with v (Some w) fs = reply_of v w fs

abbrev pub reply_in : Version → List (List ℕ) → Option Reply
reply_in v [] = None
reply_in v (f ∷ fs) = reply_with v (word_for f) fs

-- ---- what a reader answers

-- this is what is due, or memory was refused
abbrev pub IsReadAs : {A : Type 0} → Option A → Result A ReadFault → Type 0
IsReadAs due (Ok x) = due ≡ Some x
IsReadAs due (Err Bad) = due ≡ None
IsReadAs due (Err NoMemory) = Unit {0}
