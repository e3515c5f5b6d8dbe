use Rattle.std.proofs.Common.{ap}
use Rattle.am_replica_reader.specs.Reading.{ReaderState}
use Rattle.am_replica_reader.proofs.reader.Reader.new.Goals as goal

pub returns-clause-begun : goal.returns-clause-begun
returns-clause-begun c = (c.new.result, (ap (λ (r : ReaderState). r.log) c.of.ensures, c.new.ensures))
