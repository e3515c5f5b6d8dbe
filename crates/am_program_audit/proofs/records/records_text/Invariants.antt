use Rattle.std.proofs.Common.{◌≡◌, take}
use Rattle.am_program_audit.specs.Judgements.{records_text}
use Rattle.am_program_audit.proofs.records.records_text.Given as goal

abbrev pub invariant-loop-pair : goal.invariant-loop-pair
invariant-loop-pair l = l.text.items ≡ records_text (take l.pair-index l.records)
