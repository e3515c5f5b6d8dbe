use Rattle.am_law_serial.proofs.States.{overlay_laws, view_laws, is_state_of}
use Rattle.am_law_serial.proofs.overlay_follows.Goals as goal

pub returns : goal.returns
returns c = record { state = is_state_of; overlay = overlay_laws; views = view_laws }
