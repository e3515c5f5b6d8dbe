use Rattle.am_law_effect.proofs.Maintenance.{merge_maintains, clean_step_maintains}
use Rattle.am_law_effect.proofs.laws.maintenance_keeps.Goals as goal

pub returns : goal.returns
returns c = record { merge = merge_maintains; clean = clean_step_maintains }
