-- How large a store is, as C is told it.
use Rattle.std.specs.Prelude.{◌≡◌, ℕ, length, Option, None, Some}
use Rattle.am_index_parts.specs.Figures.{AreFigures}
use Rattle.am_law_sound.specs.StoreState.{StoreState}
use Rattle.am_c_store.specs.declared.figures.StoreFigures.{StoreFigures}
use Rattle.am_c_steps.specs.declared.status.Status.TheVariants.{Fine, NoStore}
use Rattle.am_c_steps.specs.Statuses.{status_code}

-- those of its index, and how many transactions are active and committed
pub record AreFiguresOf (p : StoreState) (f : StoreFigures) : Type 0 where
  pub index : AreFigures p.entries (record {
    entries = f.entries;
    in_final = f.in_final;
    in_runs = f.in_runs;
    runs = f.runs;
    ghosts = f.ghosts;
  })
  pub active : f.active ≡ length p.active
  pub commits : f.commits ≡ p.commits

-- they are told, where there is a store
abbrev pub TellsFigures : Option StoreState → StoreFigures → ℕ → StoreFigures → Type 0
TellsFigures (Some p) old told new = (told ≡ status_code Fine) × AreFiguresOf p new
TellsFigures None old told new = (told ≡ status_code NoStore) × (new ≡ old)
