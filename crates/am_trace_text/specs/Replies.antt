-- A reply as a stored trace writes it: its fields, which a space parts. Where no key and no value is told, they are
-- those of a session's reply.
use Rattle.std.specs.Prelude.{ℕ, ◌^◌, ◌<◌, List, [], ◌∷◌, map, length, decimal}
use Rattle.am_record.specs.declared.step.Reply.{Reply}
use Rattle.am_record.specs.declared.step.Reply.TheVariants.{Begun, Done, Found, Absent, Rows, Exists, Missing}
use Rattle.am_record.specs.declared.step.Reply.TheVariants.{Deleted, Committed, Aborted, Moved, MergeDone, Ended, Idle}
use Rattle.am_record.specs.declared.step.Reply.TheVariants.{Cleaned, NoMark, Refused}
use Rattle.am_record.specs.declared.step.Refusal.{Refusal}
use Rattle.am_record.specs.declared.step.Refusal.TheVariants.{Busy, SeatFull}
use Rattle.am_line_text.specs.ReplyWords.{word_text, refusal_code}
use Rattle.am_line_text.specs.declared.reply_word.ReplyWord.TheVariants as word
use Rattle.am_trace_text.specs.Words.{key_word, record_word, hex}
use Rattle.am_trace_text.specs.Bounds.{IsNumber, IsKey, IsValue, AreRecords}
use Rattle.am_trace_text.specs.Steps.{HasSavepoints, KnowsAllOps}
use Rattle.am_trace_text.specs.declared.version.Version.{Version}

abbrev pub refusal_fields : Refusal → List (List ℕ)
refusal_fields (Busy holder) = word_text word.Busy ∷ decimal holder ∷ []
refusal_fields refusal = word_text word.Error ∷ refusal_code refusal ∷ []

abbrev pub reply_fields : Version → Reply → List (List ℕ)
reply_fields v (Begun t) = word_text word.Begun ∷ decimal t ∷ []
reply_fields v Done = word_text word.Done ∷ []
reply_fields v (Found w) = word_text word.Found ∷ hex w ∷ []
reply_fields v Absent = word_text word.Absent ∷ []
reply_fields v (Rows rows) = word_text word.Rows ∷ decimal (length rows) ∷ map (record_word v) rows
reply_fields v (Exists k) = word_text word.Exists ∷ key_word v k ∷ []
reply_fields v Missing = word_text word.Missing ∷ []
reply_fields v (Deleted n) = word_text word.Deleted ∷ decimal n ∷ []
reply_fields v (Committed c) = word_text word.Committed ∷ decimal c ∷ []
reply_fields v Aborted = word_text word.Aborted ∷ []
reply_fields v (Moved n run) = word_text word.Moved ∷ decimal n ∷ decimal run ∷ []
reply_fields v MergeDone = word_text word.MergeDone ∷ []
reply_fields v (Ended k holder) = word_text word.Ended ∷ key_word v k ∷ decimal holder ∷ []
reply_fields v Idle = word_text word.Idle ∷ []
reply_fields v (Cleaned n) = word_text word.Cleaned ∷ decimal n ∷ []
reply_fields v NoMark = word_text word.NoMark ∷ []
reply_fields v (Refused why) = refusal_fields why

-- what can be stored of refusals: a full seat is none of the store's
abbrev pub IsRefusal : Refusal → Type 0
IsRefusal (Busy holder) = IsNumber holder
IsRefusal SeatFull = ⊥
IsRefusal why = Unit {0}

-- what the version can write of replies
abbrev pub IsReply : Version → Reply → Type 0
IsReply v (Begun t) = IsNumber t
IsReply v (Found w) = IsValue w
IsReply v (Rows rows) = AreRecords v rows × IsNumber (length rows)
IsReply v (Exists k) = IsKey v k
IsReply v (Deleted n) = KnowsAllOps v × IsNumber n
IsReply v (Committed c) = IsNumber c
IsReply v (Moved n run) = IsNumber n × (run < 2 ^ 32)
IsReply v (Ended k holder) = IsKey v k × IsNumber holder
IsReply v (Cleaned n) = IsNumber n
IsReply v NoMark = HasSavepoints v
IsReply v (Refused why) = IsRefusal why
IsReply v reply = Unit {0}
