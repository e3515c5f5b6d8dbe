-- What those who write to the log keep to.
use Rattle.std.specs.Prelude.{◌≡◌, ℕ, ◌+◌, ◌-◌, ◌<◌, ◌≤◌, ◌==◌, [], ◌∷◌, Bool, true, false, ◌&&◌, ◌||◌}
use Rattle.std.specs.Prelude.{Option, Some, None}
use Rattle.am_replica_log.specs.declared.event.Name.{Name}
use Rattle.am_replica_log.specs.declared.event.Snapshot.{Snapshot}
use Rattle.am_replica_log.specs.declared.event.Part.TheVariants.{Head}
use Rattle.am_replica_log.specs.declared.deletion.Deletion.{Deletion}
use Rattle.am_replica_log.specs.History.{Change, Puts, Writes, Moves, Deletes, Others, History, same, same_snapshot}
use Rattle.am_replica_log.specs.History.{floor}
use Rattle.am_replica_log.specs.History.{generation}
use Rattle.am_replica_log.specs.History.{counts}

-- whether the entry counted under the generation
abbrev pub has_counted : ℕ → Name → History → Bool
has_counted g name [] = false
has_counted g name (Puts h other Head text ∷ before) =
    ((g == h) && (same name other && counts h other Head before)) || has_counted g name before
has_counted g name (change ∷ before) = has_counted g name before

-- whether the snapshot was written since the newest floor
abbrev pub was_written : Snapshot → History → Bool
was_written s [] = false
was_written s (Writes t ∷ before) = same_snapshot s t || was_written s before
was_written s (Moves f ∷ before) = false
was_written s (change ∷ before) = was_written s before

-- What is let go where the floor names this snapshot, and only there: the entries of the generation before the last,
-- which are in it, and all other snapshots of its generation and of those before.
abbrev pub deletion_of : Snapshot → Deletion
deletion_of s = record { only_at = Some s; generation = s.generation - 1; through = s.generation; but = s }

-- A part of an entry is put under a generation that has begun, where the entry counted under none before. The floor is
-- moved where it is the one that was read, to a snapshot of the next generation that was written meanwhile. A snapshot
-- is written and a deletion is sent at any time, and each may arrive late.
abbrev pub KeepsPremise : Change → History → Type 0
KeepsPremise (Puts g name part text) before =
    (g ≤ generation before) × ((h : ℕ) → h < g → has_counted h name before ≡ false)
KeepsPremise (Writes s) before = Unit {0}
KeepsPremise (Moves f) before = (f.since ≡ floor before) × (f.snapshot.generation ≡ generation before + 1)
    × (was_written f.snapshot before ≡ true)
KeepsPremise (Deletes d) before = (s : Snapshot) × (d ≡ deletion_of s)
KeepsPremise Others before = Unit {0}

abbrev pub AllKeepPremise : History → Type 0
AllKeepPremise [] = Unit {0}
AllKeepPremise (change ∷ before) = KeepsPremise change before × AllKeepPremise before

-- the snapshot that the floor names
abbrev pub snapshot_named : History → Option Snapshot
snapshot_named [] = None
snapshot_named (Moves f ∷ before) = Some f.snapshot
snapshot_named (change ∷ before) = snapshot_named before

-- an entry counted under no generation
abbrev pub NeverCounted : Name → History → Type 0
NeverCounted name history = (g : ℕ) → has_counted g name history ≡ false
