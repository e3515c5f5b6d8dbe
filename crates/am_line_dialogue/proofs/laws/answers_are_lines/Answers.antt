use Rattle.std.proofs.Common.{[], subst}
use Rattle.std.proofs.lemmas.List.Elements.{All-from_recursion}
use Rattle.am_law_effect.specs.Store.{opened, IsRunOf}
use Rattle.am_line_wire.specs.Replies.{IsOneLine}
use Rattle.am_line_dialogue.specs.Alone.{alone_start, alone_meaning}
use Rattle.am_line_dialogue.specs.Exchanges.{Exchange, with_torn}
use Rattle.am_line_dialogue.specs.Responses.{response_text}
use Rattle.am_line_dialogue.proofs.Conversations.{conversation_so}
use Rattle.am_line_dialogue.proofs.VisibleStores.{opened_visible}
use Rattle.am_line_dialogue.proofs.AnsweredLines.{Tells, tells}
use Rattle.am_line_dialogue.proofs.laws.answers_are_lines.Goals as goal

pub returns : goal.returns
returns c = λ most_runs auto exchanges torn trace follows (_, a).
    All-from_recursion (λ (e : Exchange). IsOneLine (response_text e.1)) (with_torn exchanges torn)
    (conversation_so alone_meaning auto Tells (tells alone_meaning auto) exchanges torn (alone_start, []) a.last a.own
    a.converses a.aborting
    (record {
      to = opened;
      visible = opened_visible;
      waits = tt;
      most_runs = most_runs;
      follows = subst (IsRunOf most_runs opened) a.are follows;
    })).0
