-- How long one waits for a client.
use Rattle.std.specs.Prelude.{ℕ, ◌-◌, min, nat_lt, Option, Some, None, if◌then◌else◌}
use Rattle.am_serve_connections.specs.declared.client.Patience.{Patience}
use Rattle.am_serve_connections.specs.declared.client.Due.TheVariants.{Lapse, End}

-- How one waits who has waited for a line for a while: a transaction lapses after so long without one, and a session
-- ends after so long in which nothing comes, where that is limited and comes first.
abbrev pub patience_for : ℕ → ℕ → Option ℕ → Patience
patience_for lapse waited None = record { millis = lapse - waited; then = Lapse }
patience_for lapse waited (Some idle) =
    if nat_lt idle (lapse - waited) then record { millis = idle; then = End }
    else record { millis = lapse - waited; then = Lapse }

-- For how many milliseconds one waits until a client takes an answer, so many after its last line: no longer than until
-- its transaction lapses, and no longer than nothing may be taken. None where neither is limited.
abbrev pub write_patience : Option ℕ → ℕ → Option ℕ → Option ℕ
write_patience None waited idle = idle
write_patience (Some lapse) waited None = Some (lapse - waited)
write_patience (Some lapse) waited (Some idle) = Some (min idle (lapse - waited))
