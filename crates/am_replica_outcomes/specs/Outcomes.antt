-- What the client of a block is told once the block came in the log.
use Rattle.std.specs.Prelude.{◌≡◌, ℕ, zero, suc, List, [], ◌∷◌, ◌++◌, codes, drop}
use Rattle.std.specs.List.{flat_map}
use Rattle.am_record.specs.declared.step.Reply.TheVariants.{Committed}
use Rattle.am_line_dialogue.specs.Responses.{line, response_text}
use Rattle.am_line_dialogue.specs.declared.response.Response.{Response}
use Rattle.am_line_dialogue.specs.declared.response.Response.TheVariants.{Replied}
use Rattle.am_replica.specs.Ordered.{Verdict, Stands, Fails}
use Rattle.am_replica_blocks.specs.Blocks.{BlockLine, told}

-- what a line is answered whose transaction doesn't stand
abbrev pub conflict : List ℕ
conflict = line (codes "ERR CONFLICT")

abbrev pub conflict_texts : List BlockLine → List ℕ
conflict_texts lines = flat_map (λ _. conflict) lines

-- the texts of responses, one after another
abbrev pub response_texts : List Response → List ℕ
response_texts responses = flat_map response_text responses

-- a line's response: one of those that were told before, of which so many were left, or written
abbrev pub IsWritten : ℕ → Response → List ℕ → ℕ → List ℕ → Type 0
IsWritten zero response so_far told so_far' = (told ≡ 0) × (so_far' ≡ so_far ++ response_text response)
IsWritten (suc n) response so_far told so_far' = (told ≡ n) × (so_far' ≡ so_far)

-- the answers to all lines but the first ones, which were answered before, and the number; or to each of these lines,
-- and to COMMIT, that it doesn't stand
abbrev pub told_at_end : ℕ → List BlockLine → Verdict → List ℕ
told_at_end first lines (Stands number replies) =
    response_texts (drop first (told [] lines replies) ++ Replied (Committed number) ∷ [])
told_at_end first lines Fails = conflict_texts (drop first lines) ++ conflict
