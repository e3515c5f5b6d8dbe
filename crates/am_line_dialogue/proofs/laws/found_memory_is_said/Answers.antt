use Rattle.std.proofs.Common.{refl}
use Rattle.std.proofs.lemmas.List.Elements.{recursion_from_All}
use Rattle.am_line_dialogue.specs.Say.{dialogue_start, StagesNothing, LosesNothing}
use Rattle.am_line_dialogue.proofs.FoundMemory.{in_one_piece, loses_keeps, unstaged_keeps}
use Rattle.am_line_dialogue.proofs.laws.found_memory_is_said.Goals as goal

pub returns-clause-unstaged : goal.returns-clause-unstaged
returns-clause-unstaged c = λ exchanges says all.
    in_one_piece exchanges dialogue_start says (unstaged_keeps exchanges dialogue_start refl
    (recursion_from_All StagesNothing exchanges all))

pub returns-clause-found : goal.returns-clause-found
returns-clause-found c = λ exchanges says all.
    in_one_piece exchanges dialogue_start says (loses_keeps exchanges dialogue_start
    (recursion_from_All LosesNothing exchanges all))
