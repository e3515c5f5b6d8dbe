-- What always holds of the fields of what was handed out.
use Rattle.std.specs.Prelude.{◌≡◌, ◌<◌}
use Rattle.am_latch_engine.specs.declared.hand_outs.Handed.TheInside.{Inside}

-- the token is one of the table
pub record IsHanded (h : Inside) : Type 0 where
  pub table_of : h.token.table_id ≡ h.table.shared.table_id
  pub words : 0 < h.table.shared.table_id.words
