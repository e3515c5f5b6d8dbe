use Rattle.std.proofs.Common.{refl}
use Rattle.am_law_sound.proofs.Sounds.{sound_store}
use Rattle.am_law_sound.proofs.Lifts.{lift, fit}
use Rattle.am_law_sound.proofs.steps_lift.Goals as goal

pub returns : goal.returns
returns c = record {
  opened = λ most_runs. record { follows = tt; here = refl };
  lift = lift;
  fit = fit;
  sound = λ trace p at. sound_store p.most_runs trace at.follows;
}
