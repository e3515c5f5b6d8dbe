use Rattle.std.proofs.Common.{◌≡◌, sym, ap, subst, ◌∙◌}
use Rattle.am_replica_log.specs.LogState.{LogState}
use Rattle.am_replica_log.specs.Readers.{IsAt}
use Rattle.am_replica_reader.specs.Reading.{ReaderState}
use Rattle.am_replica_reader.proofs.Taken.{same_log}
use Rattle.am_replica_reader.proofs.reader.Reader.generation.Goals as goal

pub returns-in-Ok-clause-puts : goal.returns-in-Ok-clause-puts
returns-in-Ok-clause-puts c from name part text history later keeps (log, (is, at)) never =
    let same : c.in-Ok.log ≡ log =
    same_log c.in-Ok.log log (sym c.in-Ok.is ∙ ap (λ (r : ReaderState). r.log) c.self.view_is ∙ is) in
    c.generation.ensures.puts from name part text history later keeps
    (subst (λ (l : LogState). IsAt from l history) (sym same) at) never
