use Rattle.std.proofs.Common.{◌≡◌, ℕ, List, ◌+◌, ◌∷◌, ◌++◌, length, take, drop, Option, ap, sym, ◌∙◌, subst}
use Rattle.std.proofs.lemmas.List.{drop-drop}
use Rattle.am_line_source.specs.Lines.{line_of, CutsLine}
use Rattle.am_line_source.proofs.LineEnds.{cuts_line}
use Rattle.am_line_source.proofs.input.Input.take_line.Goals as goal

pub returns-clause-line : goal.returns-clause-line
returns-clause-line c =
    let bytes = c.args.self.now in
    let line = c.in_ok-found.found.now in
    let n = length line + 1 in
    let rest = drop (c.self.inside.start + n) (take c.self.inside.end c.self.inside.buffer.items) in
    let left : drop n bytes ≡ rest = ap (drop n) (sym c.self.view_is) ∙
    drop-drop n c.self.inside.start (take c.self.inside.end c.self.inside.buffer.items) in
    let all : bytes ≡ line ++ 10 ∷ drop n bytes = subst (λ (xs : List ℕ). xs ≡ line ++ 10 ∷ drop n xs)
    c.waiting.ensures.bytes c.in_ok-found.ensures.line in
    let said : line_of line ≡ _ = sym (c.finish.ensures ∙ ap line_of c.set.ensures) in
    subst (λ (l : Option (List ℕ)). CutsLine bytes l rest) said
    (cuts_line bytes line rest c.in_ok-found.ensures.one (all ∙ ap (λ xs. line ++ 10 ∷ xs) left))
