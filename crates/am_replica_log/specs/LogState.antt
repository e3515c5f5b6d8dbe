-- Where a reader of the log stands.
use Rattle.std.specs.Prelude.{ℕ, List}
use Rattle.am_replica_log.specs.declared.pieces.Piece.{Piece}

-- the newest floor's revision, the generation that began there, and the pieces whose heads haven't come
pub record LogState : Type 0 where
  pub floor : ℕ
  pub generation : ℕ
  pub pieces : List Piece
