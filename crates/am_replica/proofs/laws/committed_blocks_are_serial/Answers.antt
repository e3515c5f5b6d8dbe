use Rattle.am_replica.proofs.Serial.{in_turn, left_in_turn}
use Rattle.am_replica.proofs.laws.committed_blocks_are_serial.Goals as goal

pub returns : goal.returns
returns c = record { serial = in_turn; left = left_in_turn }
