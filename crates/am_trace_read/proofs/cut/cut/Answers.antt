use Rattle.std.proofs.Common.{sym, ◌∙◌}
use Rattle.am_trace_text.proofs.CutLemmas.{before_cut, not_cut, whole_at_cut}
use Rattle.am_trace_read.proofs.cut.cut.Goals as goal

pub returns-in_err-place-clause-none : goal.returns-in_err-place-clause-none
returns-in_err-place-clause-none c =
    rw c.from_residual.ensures (not_cut c.args.at c.args.text.now (sym c.position_of.ensures ∙ c.in_err-place.was))

pub returns-clause-first : goal.returns-clause-first
returns-clause-first c =
    before_cut c.args.at c.args.text.now c.in_ok-place.place (sym c.position_of.ensures ∙ c.in_ok-place.was)

pub returns-clause-cut : goal.returns-clause-cut
returns-clause-cut c =
    whole_at_cut c.args.at c.args.text.now c.in_ok-place.place (sym c.position_of.ensures ∙ c.in_ok-place.was)
