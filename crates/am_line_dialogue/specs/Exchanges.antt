-- Lines, and the responses to them.
use Rattle.std.specs.Prelude.{ℕ, List, [], ◌∷◌, ◌++◌, map, Option, Some, None}
use Rattle.am_line_dialogue.specs.ParsedLine.{Line}
use Rattle.am_line_dialogue.specs.Responses.{response_text}
use Rattle.am_line_dialogue.specs.declared.response.Response.{Response}

-- a line, and the response to it
abbrev pub Exchange : Type 0
Exchange = Line × Response

-- with the one whose answer was torn, if there is one
abbrev pub with_torn : List Exchange → Option Exchange → List Exchange
with_torn exchanges None = exchanges
with_torn exchanges (Some last) = exchanges ++ last ∷ []

-- the lines of exchanges, and the texts of their responses, one after another
abbrev pub asked : List Exchange → List Line
asked exchanges = map (λ (e : Exchange). e.0) exchanges

abbrev pub texts : List Exchange → List ℕ
texts [] = []
texts (e ∷ exchanges) = response_text e.1 ++ texts exchanges
