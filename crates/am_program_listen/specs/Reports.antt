-- When it is told how a server does.
use Rattle.std.specs.Prelude.{ℕ, nat_le, Bool, ◌&&◌, ◌||◌}

-- whether it is told, so many seconds after that was told: each minute and at the end, where it is asked for
abbrev pub is_due : Bool → Bool → ℕ → Bool
is_due is_logged is_last past = is_logged && (is_last || nat_le 60 past)
