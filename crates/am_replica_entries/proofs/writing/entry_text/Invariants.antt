use Rattle.std.proofs.Common.{◌≡◌, ◌++◌, ◌∷◌, length, take}
use Rattle.std.specs.Int.{w32, to_be_bytes}
use Rattle.std.specs.List.{flat_map}
use Rattle.am_replica_entries.specs.Texts.{block_bytes, the_blocks}
use Rattle.am_replica_entries.proofs.writing.entry_text.Given as goal

-- the text of the first blocks stands there
abbrev pub invariant-loop-block : goal.invariant-loop-block
invariant-loop-block l = l.text.items ≡ 1 ∷ (to_be_bytes w32 (length l.blocks) ++
    flat_map block_bytes (the_blocks (take l.block-index l.blocks)))
