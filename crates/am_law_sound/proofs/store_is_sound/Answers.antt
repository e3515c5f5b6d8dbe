use Rattle.am_law_sound.proofs.Sounds.{sound_moments, sound_follows}
use Rattle.am_law_sound.proofs.store_is_sound.Goals as goal

pub returns : goal.returns
returns c = record { sound = sound_moments; exact = sound_follows }
