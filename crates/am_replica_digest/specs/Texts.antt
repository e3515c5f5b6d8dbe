-- The texts of answers.
use Rattle.std.specs.Prelude.{ℕ, List}
use Rattle.std.specs.List.{flat_map}
use Rattle.am_record.specs.declared.step.Reply.{Reply}
use Rattle.am_line_wire.specs.Replies.{text_of}

-- one line after another, each with its LF
abbrev pub texts_of : List Reply → List ℕ
texts_of replies = flat_map text_of replies
