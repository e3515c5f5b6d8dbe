use Rattle.std.proofs.Common.{refl}
use Rattle.am_resp_source.proofs.Steps.{at_first}
use Rattle.am_resp_source.proofs.reader.RequestReader.new.Goals as goal

pub returns-clause-come : goal.returns-clause-come
returns-clause-come c =
    let line = at_first c.new.result c.new.ensures in
    ((line.0, line.1, c.new-3.ensures, refl), tt)
