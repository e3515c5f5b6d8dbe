-- Readers of the log, by what was done up to where they stand.
use Rattle.std.specs.Prelude.{◌≡◌, ℕ, ◌==◌, ltb, List, Bool, false, ◌&&◌, not, cond, filter, Option, None}
use Rattle.am_replica_log.specs.declared.event.Event.{Event}
use Rattle.am_replica_log.specs.declared.event.Event.TheVariants.{Put, Moved}
use Rattle.am_replica_log.specs.declared.pieces.Piece.{Piece}
use Rattle.am_replica_log.specs.declared.pieces.Entry.{Entry}
use Rattle.am_replica_log.specs.LogState.{LogState}
use Rattle.am_replica_log.specs.History.{Change, Puts, History, generation, floor, counts, open_pieces, ended_by}

-- what came after a revision
abbrev pub behind : ℕ → List Piece → List Piece
behind from pieces = filter (λ p. ltb from p.revision) pieces

-- a reader that began after the revision, and took all that it was told up to here
pub record IsAt (from : ℕ) (log : LogState) (history : History) : Type 0 where
  pub floor : log.floor ≡ floor history
  pub generation : log.generation ≡ generation history
  pub pieces : log.pieces ≡ behind from (open_pieces history)

-- the entry that counts, with those of its pieces that this reader was told of
abbrev pub counted_for : ℕ → Change → History → Option Entry
counted_for from (Puts g name part text) before =
    cond (counts g name part before) (ended_by name part text (behind from (open_pieces before))) None
counted_for from change before = None

-- a floor that is known already; one that doesn't follow the one that is known
abbrev pub is_known : LogState → ℕ → Event → Bool
is_known log revision (Put g name part is_new) = false
is_known log revision (Moved f) = not (ltb log.floor revision)

abbrev pub is_stray : LogState → ℕ → Event → Bool
is_stray log revision (Put g name part is_new) = false
is_stray log revision (Moved f) = ltb log.floor revision && not (f.since == log.floor)
