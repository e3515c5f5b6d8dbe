use Rattle.am_line_dialogue.proofs.Conversations.{conversation_goes}
use Rattle.am_serve_seat.specs.SessionSeats.{seat_meaning, HasReceipts}
use Rattle.am_serve_seat.proofs.Receipts.{receipts_go}
use Rattle.am_serve_seat.proofs.laws.sessions_have_receipts.Goals as goal

pub returns : goal.returns
returns c = λ most_runs. conversation_goes (seat_meaning most_runs) HasReceipts (receipts_go most_runs)
