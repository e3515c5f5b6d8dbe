use Rattle.std.proofs.Common.{refl}
use Rattle.am_line_wire.specs.Replies.{words_of}
use Rattle.am_line_wire.proofs.Texts.{HasNoLf-words_of}
use Rattle.am_line_wire.proofs.reply.replies_are_lines.Goals as goal

pub returns : goal.returns
returns c = λ reply h. (words_of reply, HasNoLf-words_of reply h, refl)
