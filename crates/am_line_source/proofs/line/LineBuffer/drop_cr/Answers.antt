use Rattle.std.proofs.Common.{◌≤◌, length, arith, ◌∙◌, sym, ap}
use Rattle.am_line_source.specs.Lines.{without_cr}
use Rattle.am_line_source.proofs.CutLines.{cr_there, cr_not_there}
use Rattle.am_line_source.proofs.line.LineBuffer.drop_cr.Goals as goal

pub returns-then-index-eq13 : goal.returns-then-index-eq13
returns-then-index-eq13 c = let lt : c.self.inside.len ≤ length c.self.inside.room.items =
    omega (arith, c.self.inside.room.ok.0) in cr_there c.self.inside.room.items
    c.self.inside.len c.index.result.now c.if-self-eq0.false lt c.index.ensures c.if-index-eq13.true ∙
    ap without_cr c.self.view_is

pub returns-else-index-eq13 : goal.returns-else-index-eq13
returns-else-index-eq13 c = let lt : c.self.inside.len ≤ length c.self.inside.room.items =
    omega (arith, c.self.inside.room.ok.0) in sym c.self.view_is ∙
    cr_not_there c.self.inside.room.items c.self.inside.len c.index.result.now c.if-self-eq0.false lt c.index.ensures
    c.if-index-eq13.false ∙ ap without_cr c.self.view_is
