-- How many answers a session has that aren't sent on.
use Rattle.std.specs.Prelude.{ℕ, ◌+◌, ◌-◌, ◌^◌, min}
use Rattle.am_record.specs.declared.step.Reply.TheVariants.{Rows}
use Rattle.am_line_dialogue.specs.declared.response.Response.{Response}
use Rattle.am_line_dialogue.specs.declared.response.Response.TheVariants.{Replied, Who}

-- one more; rows, and a list of sessions, count for as many as there are numbers, since their text may be long
abbrev pub unsent_with : Response → ℕ → ℕ
unsent_with (Replied (Rows rows)) unsent = 2 ^ 32 - 1
unsent_with (Who sessions) unsent = 2 ^ 32 - 1
unsent_with response unsent = min (unsent + 1) (2 ^ 32 - 1)
