use Rattle.std.proofs.lemmas.Result.{err_from_is_err_and}
use Rattle.am_resp_source.proofs.Steps.{length_stopped, length_taken}
use Rattle.am_resp_source.proofs.reader.RequestReader.take_length.Goals as goal

pub returns-in_err-len-clause-stopped : goal.returns-in_err-len-clause-stopped
returns-in_err-len-clause-stopped c =
    let p = err_from_is_err_and c.from_residual.result c.from_residual.ensures.1 in
    rw (p.1, p.2) (λ came h. length_stopped c.args.self.now c.read_count.new.self came c.args.piece.now
    c.in_err-len.field-0.0
    c.requires.stage h c.in_err-len.ensures.gap c.in_err-len.ensures.kept)

pub returns-clause-taken : goal.returns-clause-taken
returns-clause-taken c = λ came h.
    let taken = c.in_ok-len.ensures.taken in (
      taken.0,
      taken.1,
      length_taken c.args.self.now c.read_count.new.self c.new.result came taken.0 c.in_ok-len.len c.requires.stage h
          c.in_ok-len.ensures.empty c.new.ensures c.in_ok-len.ensures.few taken.2,
      c.in_ok-len.ensures.empty,
    )
