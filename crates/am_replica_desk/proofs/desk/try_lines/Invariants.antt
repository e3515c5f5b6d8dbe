use Rattle.std.proofs.Common.{◌≡◌, ◌++◌, ℕ, List, length}
use Rattle.am_line_source.specs.Lines.{pieces_of}
use Rattle.am_replica_store.specs.Alone.{committed_map}
use Rattle.am_replica_trials.specs.Trials.{TrialState}
use Rattle.am_replica_desk.specs.Calls.{AreLinesTried}
use Rattle.am_replica_desk.specs.Desks.{StandsAt}
use Rattle.am_replica_desk.proofs.desk.try_lines.Given as goal

-- whatever the lines that are left are told, all lines are told with what was told so far
abbrev pub invariant-loop-rest : goal.invariant-loop-rest
invariant-loop-rest l = record {
  stands : StandsAt l.replica.machine l.trial;
  same : committed_map l.replica.machine ≡ committed_map l.fn.replica.machine;
  commits : l.replica.commits ≡ l.fn.replica.commits;
  goes_on : (told : List ℕ) (t : TrialState) →
      AreLinesTried (committed_map l.fn.replica.machine) (pieces_of l.rest) l.transaction told t →
      AreLinesTried (committed_map l.fn.replica.machine) (pieces_of l.text) l.fn.transaction (l.told.items ++ told) t;
}

abbrev pub decreases-loop-rest : goal.decreases-loop-rest
decreases-loop-rest l = length l.rest
