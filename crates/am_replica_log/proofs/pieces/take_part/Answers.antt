use Rattle.std.proofs.Common.{rules, not}
use Rattle.std.proofs.lemmas.Fn.{filter_same}
use Rattle.am_replica_log.specs.History.{same}
use Rattle.am_replica_log.proofs.pieces.take_part.Goals as goal

pub returns-in_ok-text-in-Head-clause-kept : goal.returns-in_ok-text-in-Head-clause-kept
returns-in_ok-text-in-Head-clause-kept c =
    rw c.in-Head.is (filter_same _ (λ p. not (same p.entry c.args.entry)) _ (λ x b q h. search rules) _ _
    c.retain.ensures.filtered)
