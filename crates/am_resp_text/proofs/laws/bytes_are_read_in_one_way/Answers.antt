use Rattle.am_resp_text.proofs.RequestReadings.{one_reading}
use Rattle.am_resp_text.proofs.laws.bytes_are_read_in_one_way.Goals as goal

pub returns : goal.returns
returns c = one_reading
