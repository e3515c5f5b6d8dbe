use Rattle.std.proofs.Common.{◌≡◌, ℕ, List, ◌++◌, length, take, drop, arith, ◌∙◌, sym, ap}
use Rattle.std.proofs.lemmas.List.{drop_all, length-take}
use Rattle.am_line_source.specs.Lines.{HasNoLf, has_lf}
use Rattle.am_line_source.proofs.LineEnds.{no_lf}
use Rattle.am_line_source.proofs.input.Input.use_piece.Goals as goal

pub returns : goal.returns
returns c = (
  no_lf c.args.self.now (ap has_lf (sym c.waiting.ensures.bytes) ∙ sym c.in_default.ensures.exact),
  drop_all c.self.inside.end (take c.self.inside.end c.self.inside.buffer.items)
      (omega (arith, length-take c.self.inside.end c.self.inside.buffer.items)),
  c.add-2.ensures ∙ ap (λ (xs : List ℕ). take 4097 (c.args.line.now ++ xs)) c.waiting-2.ensures.bytes,
)
