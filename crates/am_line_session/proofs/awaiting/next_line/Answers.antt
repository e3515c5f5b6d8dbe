use Rattle.std.proofs.Common.{ℕ, List, sym, subst}
use Rattle.am_line_source.specs.Lines.{IsReading}
use Rattle.am_line_source.proofs.ReadLines.{reading_none_yet}
use Rattle.am_line_session.proofs.awaiting.next_line.Goals as goal

pub returns-in-Some-active-clause-line : goal.returns-in-Some-active-clause-line
returns-in-Some-active-clause-line g c =
    c.next_in_time.ensures.line c.args.input.now c.args.source.now
    (subst (λ (waiting : List ℕ). IsReading g.S.AnsweredSource.comes c.args.input.now c.args.source.now c.clear.new.self
    waiting c.args.source.now) (sym c.in_default.ensures.same)
    (reading_none_yet g.S.AnsweredSource.comes c.args.input.now c.args.source.now c.clear.new.self c.clear.ensures))

pub returns-in_default-active-clause-line : goal.returns-in_default-active-clause-line
returns-in_default-active-clause-line g c =
    c.read_on.ensures.line c.args.input.now c.args.source.now
    (subst (λ (waiting : List ℕ). IsReading g.S.AnsweredSource.comes c.args.input.now c.args.source.now c.clear.new.self
    waiting c.args.source.now) (sym c.in_default.ensures.same)
    (reading_none_yet g.S.AnsweredSource.comes c.args.input.now c.args.source.now c.clear.new.self c.clear.ensures))
