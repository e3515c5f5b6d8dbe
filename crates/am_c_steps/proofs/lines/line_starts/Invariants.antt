use Rattle.std.proofs.Common.{length}
use Rattle.am_record.specs.Plain.{Records}
use Rattle.am_c_steps.proofs.CutLines.{IsReading}
use Rattle.am_c_steps.proofs.Sources.{AreSoFar}
use Rattle.am_c_steps.proofs.lines.line_starts.Given as goal

abbrev pub invariant-loop-rest : goal.invariant-loop-rest
invariant-loop-rest l = record {
  records : Records;
  reading : IsReading l.text l.rest (length l.starts.items) records;
  so_far : AreSoFar l.text l.rest l.starts.items;
}

abbrev pub decreases-loop-rest : goal.decreases-loop-rest
decreases-loop-rest l = length l.rest
