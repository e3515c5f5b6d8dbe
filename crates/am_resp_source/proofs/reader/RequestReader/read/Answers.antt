use Rattle.am_resp_source.proofs.Wholes.{heard_is_read}
use Rattle.am_resp_source.proofs.reader.RequestReader.read.Goals as goal

pub returns-clause-whole : goal.returns-clause-whole
returns-clause-whole c = λ came h going.
    heard_is_read c.args.self.now c.hear.new.self came c.args.piece.now c.hear.result.0 c.hear.result.1.now going
    (c.hear.ensures.heard came h)
