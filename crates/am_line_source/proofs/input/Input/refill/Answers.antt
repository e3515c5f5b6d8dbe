use Rattle.std.proofs.lemmas.Result.{err_from_is_err_and}
use Rattle.am_line_source.proofs.input.Input.refill.Goals as goal

pub returns-in_err-self-inside-clause-kept : goal.returns-in_err-self-inside-clause-kept
returns-in_err-self-inside-clause-kept g c = let p = err_from_is_err_and c.from_residual.result
    c.from_residual.ensures.1 in rw (p.1, c.requires.empty)
    c.in_err-self-inside.ensures.kept

pub returns-clause-taken : goal.returns-clause-taken
returns-clause-taken g c = rw c.requires.empty c.in_ok-self-inside.ensures.taken
