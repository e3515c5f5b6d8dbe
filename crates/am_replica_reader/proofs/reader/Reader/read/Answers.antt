use Rattle.std.proofs.Common.{refl, sym, ap}
use Rattle.am_replica_reader.specs.Reading.{ReaderState}
use Rattle.am_replica_reader.proofs.Taken.{reads}
use Rattle.am_replica_reader.proofs.reader.Reader.read.Goals as goal
use Rattle.am_replica_reader.proofs.reader.Reader.read.Goals.{in-Ok, in-Err}

pub returns : goal.returns
returns c =
    rw (sym (ap (λ (r : ReaderState). r.log) c.self.view_is)) (elim c.match-self.branch [
      | in-Ok w ↦ rw w.in-Ok.is (rw w.result-is (rw w.self-inside-is (reads
          (record { revision = c.args.revision; event = c.args.event; text = c.args.text.now }) w.in-Ok.log
          w.take.result w.take.new.self w.take.ensures.goes_on w.take.ensures.known w.take.ensures.followed
          w.take.ensures.went_back)))
      | in-Err w ↦ rw w.in-Err.is (rw w.result-is refl)
    ])
