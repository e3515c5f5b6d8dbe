use Rattle.am_law_sound.proofs.Tables.{table_laws}
use Rattle.am_law_sound.proofs.tables_follow.Goals as goal

pub returns : goal.returns
returns c = table_laws
