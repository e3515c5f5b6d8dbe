-- How large an index is.
use Rattle.std.specs.Prelude.{◌≡◌, ◌+◌, List, length}
use Rattle.am_record.specs.declared.entry.Entry.{Entry}
use Rattle.am_index_parts.specs.Catalogs.{left_in, live_in, HasRuns}
use Rattle.am_index.specs.declared.figures.Figures.{Figures}

-- all entries are those of the final partition and those of runs, and again those that are live and the ghosts
pub record AreFigures (es : List Entry) (f : Figures) : Type 0 where
  pub entries : f.entries ≡ length es
  pub in_final : f.in_final ≡ left_in 0 es
  pub in_runs : f.in_final + f.in_runs ≡ length es
  pub runs : HasRuns es f.runs
  pub ghosts : live_in es + f.ghosts ≡ length es
