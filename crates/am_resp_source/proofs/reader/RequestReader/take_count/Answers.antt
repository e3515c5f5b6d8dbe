use Rattle.std.proofs.lemmas.Result.{err_from_is_err_and}
use Rattle.am_resp_source.proofs.Steps.{count_stopped, count_taken}
use Rattle.am_resp_source.proofs.reader.RequestReader.take_count.Goals as goal

pub returns-in_err-count-clause-stopped : goal.returns-in_err-count-clause-stopped
returns-in_err-count-clause-stopped c =
    let p = err_from_is_err_and c.from_residual.result c.from_residual.ensures.1 in
    rw (p.1, p.2) (λ came h. count_stopped c.args.self.now c.read_count.new.self came c.args.piece.now
    c.in_err-count.field-0.0
    c.requires.stage h c.in_err-count.ensures.gap c.in_err-count.ensures.kept)

pub returns-clause-taken : goal.returns-clause-taken
returns-clause-taken c = λ came h.
    let taken = c.in_ok-count.ensures.taken in (
      taken.0,
      taken.1,
      count_taken c.args.self.now c.read_count.new.self came taken.0 c.in_ok-count.count c.requires.stage h
          c.in_ok-count.ensures.empty c.in_ok-count.ensures.few taken.2,
      c.in_ok-count.ensures.empty,
    )
