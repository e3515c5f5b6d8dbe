use Rattle.std.proofs.Common.{◌∷◌, []}
use Rattle.std.proofs.lemmas.Result.{err_from_is_err_and}
use Rattle.am_resp_source.proofs.Steps.{lf_stopped, lf_taken, line_after}
use Rattle.am_resp_source.proofs.reader.RequestReader.take_lf.Goals as goal

pub returns-in_err-rest-clause-stopped : goal.returns-in_err-rest-clause-stopped
returns-in_err-rest-clause-stopped c =
    let p = err_from_is_err_and c.from_residual.result c.from_residual.ensures.1 in
    rw (p.1, p.2) (λ came h. lf_stopped c.args.self.now came c.args.piece.now c.in_err-rest.field-0.0
    c.requires.stage h c.requires.some c.in_err-rest.ensures.gap)

pub returns-clause-taken : goal.returns-clause-taken
returns-clause-taken c = λ came h. (
  10 ∷ [],
  c.in_ok-rest.ensures.whole,
  lf_taken c.args.self.now c.end_word.new.self came c.requires.stage h c.end_word.ensures,
  line_after c.args.self.now c.end_word.new.self came c.requires.stage h c.end_word.ensures,
)
